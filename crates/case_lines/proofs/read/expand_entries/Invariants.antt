-- `expand_entries` is safe and ends: each entry has at least one byte of the field, and no byte is written outside `into`. Assumes nothing.
use Rattle.std.proofs.Common.{◌≤◌, length}
use Rattle.case_lines.proofs.read.expand_entries.Given as goal

abbrev pub invariant-loop-rest : goal.invariant-loop-rest
invariant-loop-rest l = l.count ≤ length l.into

abbrev pub decreases-loop-rest : goal.decreases-loop-rest
decreases-loop-rest l = length l.rest
