-- `transformed_delta`: even and odd codes. Assumes nothing.
use Rattle.rle_format.proofs.Delta.{difference_from_code_even, difference_from_code_odd}
use Rattle.rle_decoder.proofs.delta.transformed_delta.Goals as goal

pub returns-then-delta-eq0 : goal.returns-then-delta-eq0
returns-then-delta-eq0 c = difference_from_code_even _ c.if-delta-eq0.true

pub returns-else-delta-eq0 : goal.returns-else-delta-eq0
returns-else-delta-eq0 c = difference_from_code_odd _ c.if-delta-eq0.false
