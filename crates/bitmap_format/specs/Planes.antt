-- The planes of a picture in the order of the body, each with its sides and its offset in the work area (FORMAT 2).
use Rattle.std.specs.Prelude.{ℕ, ◌+◌, ◌*◌, ◌/◌, Bool, false, List, [], ◌∷◌, ◌++◌}
use Rattle.rle_format.specs.Choice.{choose}
use Rattle.bitmap_format.specs.declared.BitmapStreamHeader.{BitmapStreamHeader}
use Rattle.bitmap_format.specs.declared.ColorPlaneDefinition.{ColorPlaneDefinition}
use Rattle.bitmap_format.specs.declared.ColorPlaneDefinition.TheVariants.{Argb, AYCoCg}

-- a plane: its sides, and its offset in the work area (FORMAT 2.2, 2.5)
pub record PlaneAt : Type 0 where
  pub width : ℕ
  pub height : ℕ
  pub offset : ℕ

abbrev pub plane_at : (width height offset : ℕ) → PlaneAt
plane_at w h o = record { width = w; height = h; offset = o }

-- whether the chroma planes are subsampled; ARGB never is
abbrev pub subsampled : ColorPlaneDefinition → Bool
subsampled Argb = false
subsampled (AYCoCg level subsampling) = subsampling

-- a side of a chroma plane (FORMAT 2.2)
unfoldable pub chroma_side_of : (subsampling : Bool) (side : ℕ) → ℕ
chroma_side_of subsampling side = choose subsampling ((side + 1) / 2) side

-- R or Y, then G or Co, then B or Cg, one behind the other in the work area (FORMAT 2.5)
unfoldable pub first_plane : (width height : ℕ) → PlaneAt
first_plane width height = plane_at width height 0

unfoldable pub second_plane : (subsampling : Bool) (width height : ℕ) → PlaneAt
second_plane s width height = plane_at (chroma_side_of s width) (chroma_side_of s height) (width * height)

unfoldable pub third_plane : (subsampling : Bool) (width height : ℕ) → PlaneAt
third_plane s width height =
    plane_at (chroma_side_of s width) (chroma_side_of s height) (width * height + chroma_side_of s width * chroma_side_of s height)

-- the colour planes (FORMAT 2.1)
unfoldable pub colour_planes : (subsampling : Bool) (width height : ℕ) → List PlaneAt
colour_planes s width height = first_plane width height ∷ second_plane s width height ∷ third_plane s width height ∷ []

-- alpha, if flagged, at an offset of the work area
unfoldable pub alpha_planes_at : (offset : ℕ) (alpha : Bool) (width height : ℕ) → List PlaneAt
alpha_planes_at offset alpha width height = choose alpha (plane_at width height offset ∷ []) []

-- all planes, in the order of the body (FORMAT 2.1)
unfoldable pub planes_with_alpha_at : (offset : ℕ) → BitmapStreamHeader → (width height : ℕ) → List PlaneAt
planes_with_alpha_at offset header width height =
    alpha_planes_at offset header.use_alpha width height ++ colour_planes (subsampled header.color_plane_definition) width height

-- the same with alpha at the start of the work area, where the first colour plane overwrites it (FORMAT 2.5)
abbrev pub alpha_planes : (alpha : Bool) (width height : ℕ) → List PlaneAt
alpha_planes alpha width height = alpha_planes_at 0 alpha width height

abbrev pub planes_of : BitmapStreamHeader → (width height : ℕ) → List PlaneAt
planes_of header width height = planes_with_alpha_at 0 header width height
