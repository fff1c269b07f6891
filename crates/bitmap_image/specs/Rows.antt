-- The rows of an image whose rows of alpha are a distance apart. Only contracts of inner functions use these.
use Rattle.std.specs.Prelude.{ℕ, ◌+◌, ◌*◌, ◌<◌, ◌≤◌, Bool, List, get_or}
use Rattle.rle_format.specs.Choice.{choose}
use Rattle.bitmap_format.specs.declared.ColorPlaneDefinition.{ColorPlaneDefinition}
use Rattle.bitmap_format.specs.declared.picture.Picture.{Picture}
use Rattle.bitmap_format.specs.Planes.{subsampled, chroma_side_of}
use Rattle.bitmap_format.specs.Pixels.{PixelForm, pixel_bytes}
use Rattle.bitmap_format.specs.Image.{colour_at, concat_up_to}

-- a row, with its alpha from index row × step on
abbrev pub row_with : PixelForm → ColorPlaneDefinition → (flagged : Bool) (width height : ℕ) (planes alpha : List ℕ) (step row : ℕ) → List ℕ
row_with form d flagged width height planes alpha step row =
    concat_up_to width (λ (column : ℕ). pixel_bytes form (colour_at d flagged width height planes row column) (get_or alpha (row * step + column) 0))

-- each row of alpha lies within `len` samples
abbrev pub AlphaRowsFit : (width height step len : ℕ) → Type 0
AlphaRowsFit width height step len = (row : ℕ) → row < height → row * step + width ≤ len

-- how many samples an array for chroma rows needs: a sample for each column if they are subsampled
abbrev pub array_width : ColorPlaneDefinition → (width : ℕ) → ℕ
array_width d width = choose (subsampled d) width 0

-- the width of a chroma plane of a picture, and its size
abbrev pub chroma_width_of : Picture → ℕ
chroma_width_of p = chroma_side_of (subsampled p.header.color_plane_definition) p.width

abbrev pub chroma_size_of : Picture → ℕ
chroma_size_of p = chroma_width_of p * chroma_side_of (subsampled p.header.color_plane_definition) p.height
