-- `ycocg_with_cll_to_rgb`: no sum leaves 16 bits, so the three are the definition's.
use Rattle.std.proofs.Common.{◌≡◌, ℤ, pos, ◌+ℤ◌, ◌-ℤ◌, ap, ◌∙◌, arith, w16, to_z, of_z}
use Rattle.std.proofs.lemmas.Int.{ints}
use Rattle.bitmap_format.specs.Colour.{rgb, clip, ycocg}
use Rattle.bitmap_color.proofs.loss_level.ycocg_with_cll_to_rgb.Goals as goal

abbrev as_i16 : ℤ → ℤ
as_i16 z = to_z w16 (of_z w16 z)

pub returns : goal.returns
unfolding ycocg
returns c =
    let y = c.args.y in
    let o = c.chroma_value-co.result in
    let g = c.chroma_value-cg.result in
    let first : as_i16 (as_i16 (as_i16 c.from.result -ℤ as_i16 g) +ℤ as_i16 o) ≡ pos y -ℤ g +ℤ o = omega (arith, ints) in
    let second : as_i16 (as_i16 c.from-2.result +ℤ as_i16 g) ≡ pos y +ℤ g = omega (arith, ints) in
    let third : as_i16 (as_i16 (as_i16 c.from.result -ℤ as_i16 g) -ℤ as_i16 o) ≡ pos y -ℤ g -ℤ o = omega (arith, ints) in
    let eo = c.chroma_value-co.ensures.value in
    let eg = c.chroma_value-cg.ensures.value in
    λ i. rgb ((c.clip_i16-r.ensures ∙ ap clip first ∙ (λ j. clip (pos y -ℤ eg j +ℤ eo j))) i) ((c.clip_i16-g.ensures ∙ ap clip second ∙ (λ j. clip (pos y +ℤ eg j))) i)
    ((c.clip_i16-b.ensures ∙ ap clip third ∙ (λ j. clip (pos y -ℤ eg j -ℤ eo j))) i)
