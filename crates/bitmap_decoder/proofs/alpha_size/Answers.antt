-- `alpha_size`: the samples of the list of alpha planes, one or none. Assumes nothing.
use Rattle.bitmap_decoder.proofs.Pictures.{alpha_flagged, alpha_absent}
use Rattle.bitmap_decoder.proofs.alpha_size.Goals as goal

pub returns-then-picture : goal.returns-then-picture
returns-then-picture c = alpha_flagged _ _ _ c.if-picture.true

pub returns : goal.returns
returns c = alpha_absent _ _ _ c.if-picture.false
