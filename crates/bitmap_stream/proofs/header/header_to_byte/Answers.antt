-- `header_to_byte`: the sum of the bits.
use Rattle.bitmap_format.proofs.HeaderByte.{header_byte_sum}
use Rattle.bitmap_stream.proofs.header.header_to_byte.Goals as goal

pub returns : goal.returns
returns c =
    header_byte_sum c.args.header c.definition_bits.result c.flag.result c.flag-2.result c.definition_bits.ensures.0 c.flag.ensures.0 c.flag-2.ensures.0
