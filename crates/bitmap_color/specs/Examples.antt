-- Examples of colours, worked out by hand: one constant list, what the definitions compute for each, and what is expected.
-- proofs/Examples.antt has the one proof.
use Rattle.std.specs.Prelude.{ℕ, Bool, true, false, List, [], ◌∷◌}
use Rattle.bitmap_format.specs.declared.Rgb.{Rgb}
use Rattle.bitmap_format.specs.Colour.{rgb}
use Rattle.bitmap_color.specs.ColourOrBlack.{colour_or_black}

-- the alpha flag, the loss level and the samples of a pixel, and its colour
pub record Example : Type 0 where
  pub alpha : Bool
  pub level : ℕ
  pub y : ℕ
  pub co : ℕ
  pub cg : ℕ
  pub colour : Rgb

abbrev pub example : (alpha : Bool) (level y co cg : ℕ) → Rgb → Example
example alpha level y co cg colour = record { alpha = alpha; level = level; y = y; co = co; cg = cg; colour = colour }

-- what the definitions compute
abbrev pub computed : Example → Rgb
computed e = colour_or_black e.alpha e.level e.y e.co e.cg

-- what is expected
abbrev pub expected : Example → Rgb
expected e = e.colour

-- the least and the greatest level, with the alpha flag and without; then the levels that are refused, 0 and 8
abbrev pub examples : List Example
examples =
    example true 1 100 10 20 (rgb 90 120 70)
    ∷ example false 1 100 10 20 (rgb 70 120 90)
    ∷ example true 7 100 1 255 (rgb 228 36 100)
    ∷ example true 0 100 10 20 (rgb 0 0 0)
    ∷ example true 8 100 10 20 (rgb 0 0 0)
    ∷ []
