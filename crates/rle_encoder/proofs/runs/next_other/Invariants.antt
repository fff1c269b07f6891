-- `next_other`: all flags up to p are V.
use Rattle.std.proofs.Common.{◌+◌, ◌-◌, ◌≤◌}
use Rattle.rle_encoder.specs.RunFlags.{AllAre}
use Rattle.rle_encoder.proofs.runs.next_other.Given as goal

abbrev pub invariant-loop-p : goal.invariant-loop-p
invariant-loop-p g l = (l.from ≤ l.p) × (l.p ≤ l.width + 7) × AllAre g.row.V l.flags l.from l.p

abbrev pub decreases-loop-p : goal.decreases-loop-p
decreases-loop-p g l = l.width - l.p
