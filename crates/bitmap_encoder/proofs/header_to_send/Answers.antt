-- `header_to_send`: field by field.
use Rattle.std.proofs.Common.{refl}
use Rattle.bitmap_format.specs.PackPicture.{header_to_send_of}
use Rattle.bitmap_encoder.proofs.header_to_send.Goals as goal

pub returns : goal.returns
unfolding header_to_send_of
returns c = refl
