-- `next_case`: the lines that were passed are comments, and what is left of the text has the next case. Assumes nothing.
use Rattle.std.proofs.Common.{◌≡◌, ◌+◌, ◌≤◌, length}
use Rattle.case_lines.specs.Counts.{IsRest}
use Rattle.case_lines.specs.Cases.{lines_of, case_after}
use Rattle.case_lines.proofs.file.next_case.Given as goal

abbrev pub invariant-loop-rest : goal.invariant-loop-rest
invariant-loop-rest l = IsRest l.text l.rest × ((l.comments + length l.rest ≤ length l.text) × (case_after l.comments (lines_of l.rest) ≡ case_after 0 (lines_of l.text)))

abbrev pub decreases-loop-rest : goal.decreases-loop-rest
decreases-loop-rest l = length l.rest
