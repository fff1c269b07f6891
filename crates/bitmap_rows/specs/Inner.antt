-- Rows and pixels as the inner functions have them. Only their contracts use these.
use Rattle.std.specs.Prelude.{ℕ, ◌/◌, ◌%◌, Bool, true, false, not, List, [], ◌∷◌, get_or}
use Rattle.rle_format.specs.Choice.{choose}
use Rattle.rle_format.specs.Slice.{overwrite}
use Rattle.pixel_format.specs.declared.PixelLayout.{PixelLayout}
use Rattle.pixel_format.specs.declared.PixelLayout.TheVariants.{BgrA, RgbA, ARgb, ABgr}
use Rattle.bitmap_format.specs.declared.Rgb.{Rgb}
use Rattle.bitmap_format.specs.declared.ColorPlaneDefinition.{ColorPlaneDefinition}
use Rattle.bitmap_format.specs.declared.ColorPlaneDefinition.TheVariants.{AYCoCg}
use Rattle.bitmap_format.specs.Colour.{aycocg_colour}
use Rattle.bitmap_format.specs.Image.{concat_up_to}
use Rattle.bitmap_format.specs.Picture.{is_loss_level_invalid_of}
use Rattle.bitmap_format.specs.Pixels.{PixelForm}
use Rattle.bitmap_rows.specs.declared.pixel.Quad.{Quad}
use Rattle.bitmap_rows.specs.Rows.{row_pixels}

-- the destination after a call that only tests the loss level, not the lengths
abbrev pub if_level_valid : ColorPlaneDefinition → (pixels dst : List ℕ) → List ℕ
if_level_valid d pixels dst = choose (is_loss_level_invalid_of d) dst (overwrite dst pixels)

abbrev pub write_fitting_row : PixelForm → ColorPlaneDefinition → (flagged : Bool) (first second third alpha : List ℕ) (width : ℕ) (dst : List ℕ) → List ℕ
write_fitting_row form d flagged first second third alpha width dst = if_level_valid d (row_pixels form d flagged first second third alpha width) dst

-- the four bytes of a word, the lowest first
abbrev pub word_bytes : ℕ → List ℕ
word_bytes word = word % 256 ∷ word / 256 % 256 ∷ word / 65536 % 256 ∷ word / 16777216 % 256 ∷ []

-- the bytes of a pixel as it is written
abbrev pub quad_bytes : Quad → List ℕ
quad_bytes p = p.first ∷ p.second ∷ p.third ∷ p.fourth ∷ []

-- a layout by two answers: whether alpha is before the colour, and whether blue is before red
abbrev pub alpha_first_of : PixelLayout → Bool
alpha_first_of BgrA = false
alpha_first_of RgbA = false
alpha_first_of ARgb = true
alpha_first_of ABgr = true

abbrev pub blue_first_of : PixelLayout → Bool
blue_first_of BgrA = true
blue_first_of RgbA = false
blue_first_of ARgb = false
blue_first_of ABgr = true

-- the alpha flag under which the colour rule gives red and blue in the order of the layout
abbrev pub colour_flag : PixelLayout → (flagged : Bool) → Bool
colour_flag layout flagged = choose (blue_first_of layout) (not flagged) flagged

-- a pixel with alpha before the colour or behind it
abbrev pub arranged : (leading : Bool) → Rgb → (alpha : ℕ) → List ℕ
arranged leading c alpha = choose leading (alpha ∷ c.r ∷ c.g ∷ c.b ∷ []) (c.r ∷ c.g ∷ c.b ∷ alpha ∷ [])

abbrev pub arranged_at : (leading flag : Bool) (level : ℕ) (y co cg alpha : List ℕ) (column : ℕ) → List ℕ
arranged_at leading flag level y co cg alpha column =
    arranged leading (aycocg_colour flag level (get_or y column 0) (get_or co column 0) (get_or cg column 0)) (get_or alpha column 0)

-- a row of such pixels, if the loss level is valid
abbrev pub write_arranged : (leading flag : Bool) (level : ℕ) (y co cg alpha : List ℕ) (width : ℕ) (dst : List ℕ) → List ℕ
write_arranged leading flag level y co cg alpha width dst = if_level_valid (AYCoCg level false) (concat_up_to width (arranged_at leading flag level y co cg alpha)) dst
