-- The minimum sizes of body, work area and image (FORMAT 2.3 to 2.6).
use Rattle.std.specs.Prelude.{ℕ, ◌+◌, ◌*◌, ◌/◌, Bool, true, false, List, [], ◌∷◌}
use Rattle.rle_format.specs.Choice.{choose}
use Rattle.bitmap_format.specs.declared.BitmapStreamHeader.{BitmapStreamHeader}
use Rattle.bitmap_format.specs.Planes.{PlaneAt, subsampled, colour_planes, planes_of}
use Rattle.bitmap_format.specs.Pixels.{PixelForm, three_bytes, four_bytes, bytes_per_pixel_of, shown_alpha_size_of}

-- the number of samples of a plane
abbrev pub sample_count_of : PlaneAt → ℕ
sample_count_of p = p.width * p.height

-- the minimum size of a plane in the body, RLE (FORMAT 2.4) or raw (FORMAT 2.3)
abbrev pub min_plane_size_of : (rle : Bool) → PlaneAt → ℕ
min_plane_size_of true p = p.height * ((p.width + 46) / 47)
min_plane_size_of false p = sample_count_of p

-- the sum of a size over planes
unfoldable pub sum_over : (PlaneAt → ℕ) → List PlaneAt → ℕ
sum_over size [] = 0
sum_over size (p ∷ planes) = size p + sum_over size planes

-- the minimum size of the body (FORMAT 2.3, 2.4)
unfoldable pub min_body_size_of : BitmapStreamHeader → (width height : ℕ) → ℕ
min_body_size_of header width height = sum_over (min_plane_size_of header.enable_rle_compression) (planes_of header width height)

-- the size of the three colour planes
abbrev pub colour_planes_size : BitmapStreamHeader → (width height : ℕ) → ℕ
colour_planes_size header width height = sum_over sample_count_of (colour_planes (subsampled header.color_plane_definition) width height)

-- where alpha is unpacked to: if the pixels do not show it, to the start of the work area, where the first colour plane overwrites it; else
-- behind the colour planes (FORMAT 2.5)
abbrev pub alpha_offset_of : PixelForm → BitmapStreamHeader → (width height : ℕ) → ℕ
alpha_offset_of three_bytes header width height = 0
alpha_offset_of (four_bytes p) header width height = colour_planes_size header width height

-- the minimum size of the work area: the three colour planes of an RLE picture, and alpha if the pixels show it; 0 for a raw one (FORMAT 2.5)
unfoldable pub work_size_of : PixelForm → BitmapStreamHeader → (width height : ℕ) → ℕ
work_size_of form header width height =
    choose header.enable_rle_compression (shown_alpha_size_of form header.use_alpha width height + colour_planes_size header width height) 0

-- the bytes of a row of the image, and of the image (FORMAT 2.6)
unfoldable pub row_size : PixelForm → (width : ℕ) → ℕ
row_size form width = bytes_per_pixel_of form * width

unfoldable pub image_size_of : PixelForm → (width height : ℕ) → ℕ
image_size_of form width height = bytes_per_pixel_of form * width * height
