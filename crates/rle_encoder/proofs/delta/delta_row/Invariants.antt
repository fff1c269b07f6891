-- `delta_row`: the first i samples are coded and kept.
use Rattle.rle_format.specs.Delta.{delta_code, zip_with}
use Rattle.rle_encoder.proofs.Replaced.{Replaced}
use Rattle.rle_encoder.proofs.delta.delta_row.Given as goal

abbrev pub invariant-loop-i : goal.invariant-loop-i
invariant-loop-i l = Replaced l.fn.above l.fn.codes l.above l.i × Replaced l.fn.codes (zip_with delta_code l.fn.above l.fn.codes) l.codes l.i
