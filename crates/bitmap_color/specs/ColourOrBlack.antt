-- The colour of a pixel, for every loss level.
use Rattle.std.specs.Prelude.{ℕ, Bool, ◌||◌, ◌==◌, nat_lt}
use Rattle.rle_format.specs.Choice.{choose}
use Rattle.bitmap_format.specs.declared.Rgb.{Rgb}
use Rattle.bitmap_format.specs.Colour.{rgb, aycocg_colour}

-- the colour of FORMAT 6.5, or black if the loss level is not one of 1 to 7. A picture with such a level is refused (FORMAT 8.1)
unfoldable pub colour_or_black : (alpha : Bool) (level y co cg : ℕ) → Rgb
colour_or_black alpha level y co cg = choose (level == 0 || nat_lt 7 level) (rgb 0 0 0) (aycocg_colour alpha level y co cg)
