-- `definition_bits`: by the definition's case.
use Rattle.std.proofs.Common.{sym, ap, ◌∙◌, arith}
use Rattle.bitmap_format.specs.HeaderByte.{definition_bits_of}
use Rattle.bitmap_stream.proofs.header.definition_bits.Goals as goal

pub returns-in-Argb : goal.returns-in-Argb
unfolding definition_bits_of
returns-in-Argb c = (sym (ap definition_bits_of c.in-Argb.is), omega arith)

pub returns-in-AYCoCg : goal.returns-in-AYCoCg
unfolding definition_bits_of
returns-in-AYCoCg c = (c.level_bits.ensures.0 ∙ sym (ap definition_bits_of c.in-AYCoCg.is), c.level_bits.ensures.1)
