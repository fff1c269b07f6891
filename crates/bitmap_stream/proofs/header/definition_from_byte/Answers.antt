-- `definition_from_byte`: by the test of the loss level.
use Rattle.bitmap_format.proofs.HeaderByte.{definition_argb, definition_aycocg}
use Rattle.bitmap_stream.proofs.header.definition_from_byte.Goals as goal

pub returns-then-level-eq0 : goal.returns-then-level-eq0
returns-then-level-eq0 c = definition_argb c.args.byte c.if-level-eq0.true

pub returns : goal.returns
returns c = definition_aycocg c.args.byte c.if-level-eq0.false
