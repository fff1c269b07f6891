-- The pixels of an image (FORMAT 6.1, 6.6): three bytes, R, G and B, or four in a layout.
use Rattle.std.specs.Prelude.{ℕ, ◌+◌, ◌*◌, Bool, List, [], ◌∷◌, eqb, get_or}
use Rattle.rle_format.specs.Choice.{choose}
use Rattle.pixel_format.specs.declared.PixelFormat.{PixelFormat}
use Rattle.pixel_format.specs.declared.PixelFormat.TheVariants.{Rgb24, FourBytes}
use Rattle.pixel_format.specs.Channel.{ChannelOffsets, channel_offsets}
use Rattle.bitmap_format.specs.declared.Rgb.{Rgb}
use Rattle.bitmap_format.specs.Colour.{rgb24}

-- R, G and B; or four bytes, with R, G, B and A at these offsets
pub data PixelForm : Type 0 where
  three_bytes : PixelForm
  four_bytes : ChannelOffsets → PixelForm

-- what the code's enum means
abbrev pub format_to_form : PixelFormat → PixelForm
format_to_form Rgb24 = three_bytes
format_to_form (FourBytes layout) = four_bytes (channel_offsets layout)

abbrev pub bytes_per_pixel_of : PixelForm → ℕ
bytes_per_pixel_of three_bytes = 3
bytes_per_pixel_of (four_bytes p) = 4

-- the byte at offset k of a pixel: that of the channel whose offset is k. Of a rearrangement of 0 to 3, alpha has the offset that is left
abbrev pub byte_of_pixel : ChannelOffsets → Rgb → (alpha k : ℕ) → ℕ
byte_of_pixel p c alpha k = choose (eqb k p.r) c.r (choose (eqb k p.g) c.g (choose (eqb k p.b) c.b alpha))

-- the bytes of a pixel
abbrev pub pixel_bytes : PixelForm → Rgb → (alpha : ℕ) → List ℕ
pixel_bytes three_bytes c alpha = rgb24 c
pixel_bytes (four_bytes p) c alpha =
    byte_of_pixel p c alpha 0 ∷ byte_of_pixel p c alpha 1 ∷ byte_of_pixel p c alpha 2 ∷ byte_of_pixel p c alpha 3 ∷ []

-- the alpha of the pixel at a row and a column: a sample of the alpha plane, which begins at the start of `alpha`, or 255 if there is none
unfoldable pub alpha_at : (flagged : Bool) (alpha : List ℕ) (width row column : ℕ) → ℕ
alpha_at flagged alpha width row column = choose flagged (get_or alpha (row * width + column) 0) 255

-- the size of the alpha plane if the pixels show it. Three-byte pixels do not
abbrev pub shown_alpha_size_of : PixelForm → (flagged : Bool) (width height : ℕ) → ℕ
shown_alpha_size_of three_bytes flagged width height = 0
shown_alpha_size_of (four_bytes p) flagged width height = choose flagged (width * height) 0
