-- The laws of the sizes: the sums over the list of planes as sums by the sides, and how large they are.
use Prim.Native.Nat.{ℕ, ◌+◌, ◌*◌, ◌≤◌}
use mathlib.Core.Bool.{Bool, true, false}
use mathlib.Core.Path.{◌≡◌, refl, sym, ap, ◌∙◌}
use mathlib.Core.List.{◌++◌}
use native.Mathlib.Nat.{mul-le-mul, mul_assoc, zero-add}
use native.Mathlib.Omega.{arith}
use Rattle.rle_format.specs.Choice.{choose}
use Rattle.rle_format.specs.Sides.{AllowedSides}
use Rattle.pixel_format.specs.declared.PixelFormat.{PixelFormat}
use Rattle.pixel_format.specs.declared.PixelFormat.TheVariants.{Rgb24, FourBytes}
use Rattle.pixel_format.specs.declared.PixelLayout.{PixelLayout}
use Rattle.bitmap_format.specs.declared.BitmapStreamHeader.{BitmapStreamHeader}
use Rattle.bitmap_format.specs.Planes.{plane_at, subsampled, chroma_side_of, first_plane, second_plane, third_plane, colour_planes, alpha_planes_at, alpha_planes, planes_with_alpha_at}
use Rattle.bitmap_format.specs.Pixels.{PixelForm, three_bytes, four_bytes, format_to_form, bytes_per_pixel_of, shown_alpha_size_of}
use Rattle.bitmap_format.specs.Sizes.{min_plane_size_of, sum_over, min_body_size_of, colour_planes_size, work_size_of, image_size_of}

-- ---- a choice whose test is known

choose_true : (t : Bool) (a b : ℕ) → t ≡ true → choose t a b ≡ a
choose_true t a b e = ap (λ (t : Bool). choose t a b) e

choose_false : (t : Bool) (a b : ℕ) → t ≡ false → choose t a b ≡ b
choose_false t a b e = ap (λ (t : Bool). choose t a b) e

-- ---- a side of a chroma plane

pub chroma_side-max : (s : Bool) (side : ℕ) → chroma_side_of s side ≤ side
unfolding chroma_side_of
chroma_side-max true side = omega arith
chroma_side-max false side = omega arith

-- chroma planes of allowed sides have allowed sides
pub chroma_sides_allowed : (s : Bool) (w h cw ch : ℕ) → AllowedSides w h → cw ≡ chroma_side_of s w → ch ≡ chroma_side_of s h → AllowedSides cw ch
unfolding chroma_side_of
chroma_sides_allowed s w h cw ch a ew eh = record {
  some_width = λ e. a.some_width (none s w (sym ew ∙ e));
  some_height = λ e. a.some_height (none s h (sym eh ∙ e));
  wide = omega (arith, a.wide, chroma_side-max s w);
  high = omega (arith, a.high, chroma_side-max s h);
}
  where
    none : (s : Bool) (side : ℕ) → chroma_side_of s side ≡ 0 → side ≡ 0
    none true side e = omega arith
    none false side e = e

-- ---- a plane

-- the minimum size of a plane of these sides; its offset does not matter
abbrev pub min_size : (rle : Bool) (w h : ℕ) → ℕ
min_size rle w h = min_plane_size_of rle (plane_at w h 0)

pub min_plane_size_offset : (rle : Bool) (w h o : ℕ) → min_plane_size_of rle (plane_at w h o) ≡ min_size rle w h
min_plane_size_offset true w h o = refl
min_plane_size_offset false w h o = refl

-- ---- the planes of a picture

-- the colour planes: one full, two of chroma
pub colour_sum_sides : (rle s : Bool) (w h : ℕ)
    → sum_over (min_plane_size_of rle) (colour_planes s w h) ≡ min_size rle w h + 2 * min_size rle (chroma_side_of s w) (chroma_side_of s h)
unfolding sum_over colour_planes first_plane second_plane third_plane
colour_sum_sides rle s w h = omega (
  arith,
  min_plane_size_offset rle (chroma_side_of s w) (chroma_side_of s h) (w * h),
  min_plane_size_offset rle (chroma_side_of s w) (chroma_side_of s h) (w * h + chroma_side_of s w * chroma_side_of s h),
)

-- the minimum body size: alpha if flagged, and the colour planes
pub min_body_size_planes : (header : BitmapStreamHeader) (w h : ℕ)
    → min_body_size_of header w h
    ≡ choose header.use_alpha (min_size header.enable_rle_compression w h) 0
    + sum_over (min_plane_size_of header.enable_rle_compression) (colour_planes (subsampled header.color_plane_definition) w h)
unfolding min_body_size_of planes_with_alpha_at alpha_planes_at sum_over
min_body_size_planes header w h = go header.use_alpha
  where
    go : (alpha : Bool)
        → sum_over (min_plane_size_of header.enable_rle_compression) (alpha_planes alpha w h ++ colour_planes (subsampled header.color_plane_definition) w h)
        ≡ choose alpha (min_size header.enable_rle_compression w h) 0
        + sum_over (min_plane_size_of header.enable_rle_compression) (colour_planes (subsampled header.color_plane_definition) w h)
    go true = omega (arith, min_plane_size_offset header.enable_rle_compression w h 0)
    go false = omega arith

-- a raw picture needs no work area
pub work_size_raw : (form : PixelForm) (header : BitmapStreamHeader) (w h : ℕ) → header.enable_rle_compression ≡ false → work_size_of form header w h ≡ 0
unfolding work_size_of
work_size_raw form header w h e = choose_false _ _ _ e

-- that of an RLE picture has room for the samples of the colour planes, and of alpha if it is shown
pub work_size_rle : (form : PixelForm) (header : BitmapStreamHeader) (w h : ℕ) → header.enable_rle_compression ≡ true
    → work_size_of form header w h ≡ shown_alpha_size_of form header.use_alpha w h + colour_planes_size header w h
unfolding work_size_of
work_size_rle form header w h e = choose_true _ _ _ e

-- ---- what the code adds up

-- one full plane and two of chroma, whose sides are s's
pub colour_sum : (rle s : Bool) (w h cw ch full chroma : ℕ) → cw ≡ chroma_side_of s w → ch ≡ chroma_side_of s h → full ≡ min_size rle w h → chroma ≡ min_size rle cw ch
    → full + 2 * chroma ≡ sum_over (min_plane_size_of rle) (colour_planes s w h)
colour_sum rle s w h cw ch full chroma ew eh ef ec =
    (λ i. ef i + 2 * (ec ∙ (λ j. min_size rle (ew j) (eh j))) i) ∙ sym (colour_sum_sides rle s w h)

module _ (header : BitmapStreamHeader) (w h : ℕ) (s : Bool) (es : s ≡ subsampled header.color_plane_definition) where
  colour_subsampled : (rle : Bool) (colour : ℕ) → colour ≡ sum_over (min_plane_size_of rle) (colour_planes s w h)
      → colour ≡ sum_over (min_plane_size_of rle) (colour_planes (subsampled header.color_plane_definition) w h)
  colour_subsampled rle colour e = e ∙ ap (λ (t : Bool). sum_over (min_plane_size_of rle) (colour_planes t w h)) es

  min_body_size_of_lem : (alpha : Bool) (colour : ℕ) → header.use_alpha ≡ alpha → colour ≡ sum_over (min_plane_size_of header.enable_rle_compression) (colour_planes s w h)
      → choose alpha (min_size header.enable_rle_compression w h) 0 + colour ≡ min_body_size_of header w h
  min_body_size_of_lem alpha colour e ec =
      let colours : colour ≡ sum_over (min_plane_size_of header.enable_rle_compression) (colour_planes (subsampled header.color_plane_definition) w h) =
      colour_subsampled header.enable_rle_compression colour ec in
      (λ i. choose (sym e i) (min_size header.enable_rle_compression w h) 0 + colours i) ∙ sym (min_body_size_planes header w h)

  -- the body of a picture with alpha, and of one without
  pub min_body_size_alpha : (full colour : ℕ) → header.use_alpha ≡ true → full ≡ min_size header.enable_rle_compression w h
      → colour ≡ sum_over (min_plane_size_of header.enable_rle_compression) (colour_planes s w h) → full + colour ≡ min_body_size_of header w h
  min_body_size_alpha full colour e ef ec = (λ i. ef i + colour) ∙ min_body_size_of_lem true colour e ec

  pub min_body_size_no_alpha : (colour : ℕ) → header.use_alpha ≡ false → colour ≡ sum_over (min_plane_size_of header.enable_rle_compression) (colour_planes s w h)
      → colour ≡ min_body_size_of header w h
  min_body_size_no_alpha colour e ec = sym (zero-add colour) ∙ min_body_size_of_lem false colour e ec

  -- the colour planes by themselves, and the work area of an RLE picture
  pub colour_planes_size_of : (colour : ℕ) → colour ≡ sum_over (min_plane_size_of false) (colour_planes s w h) → colour ≡ colour_planes_size header w h
  colour_planes_size_of colour ec = colour_subsampled false colour ec

  pub work_size_of_lem : (form : PixelForm) (alpha colour : ℕ) → header.enable_rle_compression ≡ true → alpha ≡ shown_alpha_size_of form header.use_alpha w h
      → colour ≡ sum_over (min_plane_size_of false) (colour_planes s w h) → alpha + colour ≡ work_size_of form header w h
  work_size_of_lem form alpha colour e ea ec = (λ i. ea i + colour_planes_size_of colour ec i) ∙ sym (work_size_rle form header w h e)

-- alpha is shown where it is flagged, by four-byte pixels
pub shown_unflagged : (form : PixelForm) (flagged : Bool) (w h : ℕ) → flagged ≡ false → 0 ≡ shown_alpha_size_of form flagged w h
shown_unflagged three_bytes flagged w h e = refl
shown_unflagged (four_bytes p) flagged w h e = sym (choose_false _ _ _ e)

pub shown_three : (format : PixelFormat) (flagged : Bool) (w h : ℕ) → format ≡ Rgb24 → 0 ≡ shown_alpha_size_of (format_to_form format) flagged w h
shown_three format flagged w h e = sym (ap (λ (k : PixelFormat). shown_alpha_size_of (format_to_form k) flagged w h) e)

pub shown_four : (format : PixelFormat) (layout : PixelLayout) (flagged : Bool) (w h : ℕ) → format ≡ FourBytes layout → flagged ≡ true → w * h ≡ shown_alpha_size_of (format_to_form format) flagged w h
shown_four format layout flagged w h four e = sym (λ i. shown_alpha_size_of (format_to_form (four i)) (e i) w h)

-- ---- the image

pub image_product : (form : PixelForm) (w h bytes area : ℕ) → bytes ≡ bytes_per_pixel_of form → area ≡ w * h → bytes * area ≡ image_size_of form w h
unfolding image_size_of
image_product form w h bytes area eb ea = (λ i. eb i * ea i) ∙ sym (mul_assoc (bytes_per_pixel_of form) w h)

pub bytes_per_pixel-max : (form : PixelForm) → bytes_per_pixel_of form ≤ 4
bytes_per_pixel-max three_bytes = omega arith
bytes_per_pixel-max (four_bytes p) = omega arith

pub image_size-max : (form : PixelForm) (w h : ℕ) → w ≤ 8192 → h ≤ 8192 → image_size_of form w h ≤ 268435456
unfolding image_size_of
image_size-max form w h lw lh = mul-le-mul (mul-le-mul (bytes_per_pixel-max form) lw) lh
