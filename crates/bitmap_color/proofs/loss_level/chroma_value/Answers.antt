-- `chroma_value`: the wrapping sum less 128 is the signed byte.
use Rattle.std.proofs.Common.{◌≡◌, ℤ, pos, ◌-ℤ◌, sym, ap, ◌∙◌, arith, w16, to_z, of_z}
use Rattle.std.proofs.lemmas.Int.{ints}
use Rattle.bitmap_format.proofs.Integers.{pos_minus_pos}
use Rattle.bitmap_format.proofs.Colour.{chroma_value_shifted}
use Rattle.bitmap_color.proofs.loss_level.chroma_value.Goals as goal

pub returns-clause-value : goal.returns-clause-value
returns-clause-value c =
    let same : to_z w16 (of_z w16 (to_z w16 (of_z w16 c.from.result) -ℤ pos 128)) ≡ c.from.result -ℤ pos 128 = omega (arith, ints) in
    same ∙ ap (λ (z : ℤ). z -ℤ pos 128) c.from.ensures ∙ pos_minus_pos _ 128 ∙ sym (chroma_value_shifted c.args.cll.level c.args.byte)
