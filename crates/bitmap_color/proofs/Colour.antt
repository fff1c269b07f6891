-- What a loss level that was checked says of the colour.
use Rattle.std.proofs.Common.{◌≡◌, ℕ, ◌≤◌, Bool, true, false, ◌||◌, ◌==◌, nat_lt, sym, ap, ◌∙◌, arith, ne_eqb, le-ltb}
use Rattle.rle_format.specs.Choice.{choose}
use Rattle.bitmap_format.specs.Colour.{rgb, aycocg_colour}
use Rattle.bitmap_color.specs.ColourOrBlack.{colour_or_black}

-- a level that is known is not refused
pub level_allowed : (known level : ℕ) → 1 ≤ known → known ≤ 7 → known ≡ level → (level == 0 || nat_lt 7 level) ≡ false
level_allowed known level low high e = simp (ne_eqb level 0 (λ z. omega arith), le-ltb 7 level (omega arith))

module _ (alpha : Bool) (level y co cg : ℕ) where
  pub colour_level_known : (known : ℕ) → 1 ≤ known → known ≤ 7 → known ≡ level → aycocg_colour alpha known y co cg ≡ colour_or_black alpha level y co cg
  unfolding colour_or_black
  colour_level_known known low high e =
      ap (λ (l : ℕ). aycocg_colour alpha l y co cg) e ∙ sym (ap (λ (t : Bool). choose t (rgb 0 0 0) (aycocg_colour alpha level y co cg)) (level_allowed known level low high e))

  pub colour_level_refused : (level == 0 || nat_lt 7 level) ≡ true → rgb 0 0 0 ≡ colour_or_black alpha level y co cg
  unfolding colour_or_black
  colour_level_refused e = sym (ap (λ (t : Bool). choose t (rgb 0 0 0) (aycocg_colour alpha level y co cg)) e)
