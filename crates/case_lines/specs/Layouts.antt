-- The layout of a case's pixels, and a flag, from a number of its line.
use Rattle.std.specs.Prelude.{ℕ, Bool, true, false, eqb, Option, Some, None}
use Rattle.rle_format.specs.Choice.{choose}
use Rattle.pixel_format.specs.declared.PixelLayout.{PixelLayout}
use Rattle.pixel_format.specs.declared.PixelLayout.TheVariants.{BgrA, RgbA, ARgb, ABgr}

-- the layout that a number means (FORMAT 6.6, 7.1). No other number means one
unfoldable pub layout_of : (number : ℕ) → Option PixelLayout
layout_of number =
    choose (eqb number 0)
    (Some BgrA)
    (choose (eqb number 1) (Some RgbA) (choose (eqb number 2) (Some ARgb) (choose (eqb number 3) (Some ABgr) None)))

-- the flag that a number means. No number but 0 and 1 means one
abbrev pub flag_of : (number : ℕ) → Option Bool
flag_of number = choose (eqb number 0) (Some false) (choose (eqb number 1) (Some true) None)
