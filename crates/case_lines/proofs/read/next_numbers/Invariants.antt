-- `next_numbers`: the numbers so far and those that are left make the numbers of the line. Assumes nothing.
use Rattle.std.proofs.Common.{◌≡◌, ◌-◌, [], length, take}
use Rattle.case_lines.specs.Counts.{IsRest}
use Rattle.case_lines.specs.Fields.{numbers_from}
use Rattle.case_lines.proofs.read.next_numbers.Given as goal

abbrev pub invariant-loop-number : goal.invariant-loop-number
invariant-loop-number g l = IsRest l.line l.rest × ((length l.number-items ≡ g.row.N) × (numbers_from (take l.number-index l.number-items) (g.row.N - l.number-index) l.rest ≡ numbers_from [] g.row.N l.line))
