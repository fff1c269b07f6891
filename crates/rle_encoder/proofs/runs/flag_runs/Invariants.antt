-- `flag_runs`: the flags of the first i values are right.
use Rattle.rle_encoder.specs.RunFlags.{Flagged}
use Rattle.rle_encoder.proofs.runs.flag_runs.Given as goal

abbrev pub invariant-loop-i : goal.invariant-loop-i
invariant-loop-i l = Flagged l.codes l.flags 0 l.i
