-- The image of a picture, from its planes (FORMAT 6).
use Rattle.std.specs.Prelude.{ℕ, zero, suc, ◌+◌, ◌*◌, ◌/◌, Bool, false, List, [], ◌++◌, get_or}
use Rattle.rle_format.specs.Choice.{choose}
use Rattle.rle_format.specs.Slice.{write_at}
use Rattle.bitmap_format.specs.declared.Rgb.{Rgb}
use Rattle.bitmap_format.specs.declared.ColorPlaneDefinition.{ColorPlaneDefinition}
use Rattle.bitmap_format.specs.declared.ColorPlaneDefinition.TheVariants.{Argb, AYCoCg}
use Rattle.bitmap_format.specs.Colour.{rgb, aycocg_colour}
use Rattle.bitmap_format.specs.Planes.{PlaneAt, first_plane, second_plane, third_plane}
use Rattle.bitmap_format.specs.Pixels.{PixelForm, pixel_bytes, alpha_at}

-- the sample at a row and a column of a plane. Beyond the end of `planes` it would be 0; the checks of a picture exclude that
unfoldable pub sample : (planes : List ℕ) → PlaneAt → (row column : ℕ) → ℕ
sample planes p row column = get_or planes (p.offset + row * p.width + column) 0

-- the chroma row of a row, or the chroma column of a column (FORMAT 6.3)
unfoldable pub chroma_index : (subsampling : Bool) → ℕ → ℕ
chroma_index subsampling n = choose subsampling (n / 2) n

-- the colour of the pixel at a row and a column (FORMAT 6.2, 6.3, 6.5)
unfoldable pub colour_at : ColorPlaneDefinition → (alpha : Bool) (width height : ℕ) (planes : List ℕ) (row column : ℕ) → Rgb
colour_at Argb alpha width height planes row column =
    rgb (sample planes (first_plane width height) row column) (sample planes (second_plane false width height) row column)
    (sample planes (third_plane false width height) row column)
colour_at (AYCoCg level s) alpha width height planes row column =
    aycocg_colour alpha level (sample planes (first_plane width height) row column)
    (sample planes (second_plane s width height) (chroma_index s row) (chroma_index s column))
    (sample planes (third_plane s width height) (chroma_index s row) (chroma_index s column))

-- f 0 ++ f 1 ++ .. ++ f (n − 1)
unfoldable pub concat_up_to : ℕ → (ℕ → List ℕ) → List ℕ
concat_up_to zero f = []
concat_up_to (suc n) f = concat_up_to n f ++ f n

-- the bytes of a row of the image (FORMAT 6.1, 6.6). `planes` begins with the colour planes, `alpha` with the alpha plane if it is flagged
unfoldable pub image_row : PixelForm → ColorPlaneDefinition → (flagged : Bool) (width height : ℕ) (planes alpha : List ℕ) (row : ℕ) → List ℕ
image_row form d flagged width height planes alpha row =
    concat_up_to width (λ (column : ℕ). pixel_bytes form (colour_at d flagged width height planes row column) (alpha_at flagged alpha width row column))

-- the image with its first n rows written, row r from index r × `pitch` on: the distance from row to row
unfoldable pub write_rows : (pitch : ℕ) (row : ℕ → List ℕ) (n : ℕ) (image : List ℕ) → List ℕ
write_rows pitch row zero image = image
write_rows pitch row (suc n) image = write_at (write_rows pitch row n image) (n * pitch) (row n)
