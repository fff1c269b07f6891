-- A row of the image, from a row of samples of each plane (FORMAT 6).
use Rattle.std.specs.Prelude.{ℕ, ◌*◌, Bool, true, false, not, ◌&&◌, List, [], ◌∷◌, leb, length, get_or}
use Rattle.rle_format.specs.Choice.{choose}
use Rattle.rle_format.specs.Slice.{overwrite}
use Rattle.bitmap_format.specs.declared.Rgb.{Rgb}
use Rattle.bitmap_format.specs.declared.ColorPlaneDefinition.{ColorPlaneDefinition}
use Rattle.bitmap_format.specs.declared.ColorPlaneDefinition.TheVariants.{Argb, AYCoCg}
use Rattle.bitmap_format.specs.Colour.{rgb, aycocg_colour}
use Rattle.bitmap_format.specs.Planes.{subsampled, chroma_side_of}
use Rattle.bitmap_format.specs.Image.{chroma_index, concat_up_to}
use Rattle.bitmap_format.specs.Picture.{is_loss_level_invalid_of}
use Rattle.bitmap_format.specs.Pixels.{PixelForm, three_bytes, four_bytes, bytes_per_pixel_of, pixel_bytes}

-- the colour of the pixel at a column (FORMAT 6.2, 6.3, 6.5). The three rows are those of R, G and B, or of Y, Co and Cg
abbrev pub row_colour : ColorPlaneDefinition → (flagged : Bool) (first second third : List ℕ) (column : ℕ) → Rgb
row_colour Argb flagged first second third column = rgb (get_or first column 0) (get_or second column 0) (get_or third column 0)
row_colour (AYCoCg level s) flagged first second third column =
    aycocg_colour flagged level (get_or first column 0) (get_or second (chroma_index s column) 0) (get_or third (chroma_index s column) 0)

-- the bytes of the pixel at a column (FORMAT 6.1, 6.6)
abbrev pub pixel_at : PixelForm → ColorPlaneDefinition → (flagged : Bool) (first second third alpha : List ℕ) (column : ℕ) → List ℕ
pixel_at form d flagged first second third alpha column = pixel_bytes form (row_colour d flagged first second third column) (get_or alpha column 0)

-- the pixels at columns 0 to width − 1
abbrev pub row_pixels : PixelForm → ColorPlaneDefinition → (flagged : Bool) (first second third alpha : List ℕ) (width : ℕ) → List ℕ
row_pixels form d flagged first second third alpha width = concat_up_to width (pixel_at form d flagged first second third alpha)

-- whether the rows have a sample for each column, given how many chroma columns there are
unfoldable pub samples_fit : (width chroma : ℕ) (first second third : List ℕ) → Bool
samples_fit width chroma first second third = leb width (length first) && (leb chroma (length second) && leb chroma (length third))

-- the alpha samples that a row of pixels shows. Three-byte pixels show none
abbrev pub shown_alpha : PixelForm → (width : ℕ) → ℕ
shown_alpha three_bytes width = 0
shown_alpha (four_bytes p) width = width

-- whether a row can be written: its loss level is one of 1 to 7, all samples are there, and the destination has room for the pixels
unfoldable pub row_fits : PixelForm → ColorPlaneDefinition → (first second third alpha : List ℕ) (width : ℕ) (dst : List ℕ) → Bool
row_fits form d first second third alpha width dst =
    not (is_loss_level_invalid_of d)
    && (samples_fit width (chroma_side_of (subsampled d) width) first second third
    && (leb (shown_alpha form width) (length alpha) && leb (bytes_per_pixel_of form * width) (length dst)))

-- the destination after a call: the pixels at its start, or nothing changed if the row cannot be written
unfoldable pub write_row_of : PixelForm → ColorPlaneDefinition → (flagged : Bool) (first second third alpha : List ℕ) (width : ℕ) (dst : List ℕ) → List ℕ
write_row_of form d flagged first second third alpha width dst =
    choose (row_fits form d first second third alpha width dst) (overwrite dst (row_pixels form d flagged first second third alpha width)) dst

-- the same plane definition without subsampling: for chroma rows that have a sample for each column
abbrev pub full_chroma : ColorPlaneDefinition → ColorPlaneDefinition
full_chroma Argb = Argb
full_chroma (AYCoCg level s) = AYCoCg level false

-- the chroma samples of a subsampled row, one for each column (FORMAT 6.3)
abbrev pub doubled : (samples : List ℕ) (width : ℕ) → List ℕ
doubled samples width = concat_up_to width (λ (column : ℕ). get_or samples (chroma_index true column) 0 ∷ [])

-- the destination after a call: these samples at its start, or nothing changed if there are too few or if there is no room for them
unfoldable pub write_doubled : (samples : List ℕ) (width : ℕ) (dst : List ℕ) → List ℕ
write_doubled samples width dst =
    choose (leb (chroma_side_of true width) (length samples) && leb width (length dst)) (overwrite dst (doubled samples width)) dst
