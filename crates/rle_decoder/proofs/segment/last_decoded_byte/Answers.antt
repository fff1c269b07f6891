-- `last_decoded_byte`: the last of the raw bytes is at index `at + raw`. Assumes nothing.
use Rattle.std.proofs.Common.{sym}
use Rattle.rle_format.proofs.Segment.{last_or_raw}
use Rattle.rle_decoder.proofs.segment.last_decoded_byte.Goals as goal

pub returns : goal.returns
returns c = sym (last_or_raw _ _ _ _ c.if-raw-eq0.false c.requires)
