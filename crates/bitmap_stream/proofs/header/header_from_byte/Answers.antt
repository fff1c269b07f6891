-- `header_from_byte`: field by field.
use Rattle.bitmap_format.proofs.HeaderByte.{header_from_fields}
use Rattle.bitmap_stream.proofs.header.header_from_byte.Goals as goal

pub returns : goal.returns
returns c = let d = c.definition_from_byte-definition in header_from_fields c.args.byte d.result d.ensures
