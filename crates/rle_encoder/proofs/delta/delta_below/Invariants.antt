-- `delta_below`: the first i samples are coded.
use Rattle.rle_format.specs.Delta.{delta_code, zip_with}
use Rattle.rle_encoder.proofs.Replaced.{Replaced}
use Rattle.rle_encoder.proofs.delta.delta_below.Given as goal

abbrev pub invariant-loop-i : goal.invariant-loop-i
invariant-loop-i l = Replaced l.fn.codes (zip_with delta_code l.above l.row) l.codes l.i
