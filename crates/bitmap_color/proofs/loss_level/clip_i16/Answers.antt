-- `clip_i16`: the library's `clamp` is `clip` (Clip.antt).
use Rattle.std.proofs.Common.{◌≡◌, ℤ, pos, nat_abs, ap, ◌∙◌, arith, w16, to_z, of_z}
use Rattle.std.proofs.lemmas.Int.{ints}
use Rattle.std.specs.Int.{int_max, int_min}
use Rattle.bitmap_color.proofs.Clip.{clip_is}
use Rattle.bitmap_color.proofs.loss_level.clip_i16.Goals as goal

pub returns : goal.returns
returns c =
    let kept : to_z w16 (of_z w16 c.clamp.result) ≡ c.clamp.result = omega (arith, ints) in
    let same : to_z w16 (of_z w16 c.args.v) ≡ c.args.v = omega (arith, ints) in
    ap nat_abs (kept ∙ c.clamp.ensures.value ∙ ap (λ (z : ℤ). int_max (pos 0) (int_min z (pos 255))) same) ∙ clip_is c.args.v
