-- Rows of alpha: those of a plane, or the same row of 255 for all.
use Prim.Native.Nat.{ℕ, zero, suc, ◌+◌, ◌*◌, ◌<◌, ◌≤◌}
use mathlib.Core.Bool.{Bool, true, false}
use mathlib.Core.Path.{◌≡◌, refl, sym, ap, ◌∙◌}
use mathlib.Core.List.{List, []}
use native.Mathlib.Omega.{arith}
use lib.ListN.{get_or, replicate, get_or-replicate}
use Rattle.rle_format.specs.Slice.{write_at}
use Rattle.pixel_format.specs.declared.PixelFormat.{PixelFormat}
use Rattle.pixel_format.specs.declared.PixelFormat.TheVariants.{Rgb24, FourBytes}
use Rattle.pixel_format.specs.declared.PixelLayout.{PixelLayout}
use Rattle.pixel_format.specs.Channel.{channel_offsets}
use Rattle.bitmap_format.specs.declared.ColorPlaneDefinition.{ColorPlaneDefinition}
use Rattle.bitmap_format.specs.Pixels.{PixelForm, three_bytes, four_bytes, format_to_form, pixel_bytes, alpha_at, shown_alpha_size_of}
use Rattle.bitmap_format.specs.Sizes.{row_size, image_size_of}
use Rattle.bitmap_format.specs.Image.{colour_at, concat_up_to, image_row, write_rows}
use Rattle.bitmap_rows.proofs.Rows.{concat_up_to_same}
use Rattle.bitmap_image.specs.Rows.{row_with, AlphaRowsFit}
use Rattle.bitmap_image.proofs.ImageLoop.{row_within}

rows_same : (size : ℕ) (f g : ℕ → List ℕ) (n : ℕ) (image : List ℕ) → ((row : ℕ) → f row ≡ g row) → write_rows size f n image ≡ write_rows size g n image
unfolding write_rows
rows_same size f g zero image h = refl
rows_same size f g (suc n) image h = λ i. write_at (rows_same size f g n image h i) (n * size) (h n i)

-- ---- the alpha of a pixel

alpha_flagged : (flagged : Bool) (alpha : List ℕ) (width row column : ℕ) → flagged ≡ true → get_or alpha (row * width + column) 0 ≡ alpha_at flagged alpha width row column
unfolding alpha_at
alpha_flagged flagged alpha width row column e = rw e refl

alpha_opaque : (flagged : Bool) (alpha : List ℕ) (n width row column : ℕ) → flagged ≡ false → column < n → get_or (replicate n 255) (row * 0 + column) 0 ≡ alpha_at flagged alpha width row column
unfolding alpha_at
alpha_opaque flagged alpha n width row column e l =
    let index : row * 0 + column ≡ column = omega arith in
    rw e ((λ i. get_or (replicate n 255) (index i) 0) ∙ get_or-replicate n column 255 0 l)

-- ---- the rows

-- three-byte pixels show no alpha
pub three_byte_row_is : (d : ColorPlaneDefinition) (flagged : Bool) (width height : ℕ) (planes : List ℕ) (row : ℕ) → row_with three_bytes d flagged width height planes [] 0 row ≡ image_row three_bytes d flagged width height planes [] row
unfolding image_row
three_byte_row_is d flagged width height planes row = refl

module _ (d : ColorPlaneDefinition) (flagged : Bool) (size width height : ℕ) (planes alpha image : List ℕ) where
  pub three_byte_rows : (format : PixelFormat) → format ≡ Rgb24
      → write_rows (row_size three_bytes width) (image_row three_bytes d flagged width height planes []) height image ≡ write_rows (row_size (format_to_form format) width) (image_row (format_to_form format) d flagged width height planes alpha) height image
  unfolding image_row
  three_byte_rows Rgb24 e = refl
  three_byte_rows (FourBytes layout) e = let z : ◌≡◌ {A = ℕ} 0 1 = cc in absurd (omega arith)

  pub four_byte_rows : (format : PixelFormat) (layout : PixelLayout) → format ≡ FourBytes layout
      → write_rows (row_size (four_bytes (channel_offsets layout)) width) (image_row (four_bytes (channel_offsets layout)) d flagged width height planes alpha) height image ≡ write_rows (row_size (format_to_form format) width) (image_row (format_to_form format) d flagged width height planes alpha) height image
  four_byte_rows format layout e = ap (λ (f : PixelFormat). write_rows (row_size (format_to_form f) width) (image_row (format_to_form f) d flagged width height planes alpha) height image) (sym e)

  -- the rows of the alpha plane
  pub flagged_rows : (form : PixelForm) → flagged ≡ true
      → write_rows size (row_with form d flagged width height planes alpha width) height image ≡ write_rows size (image_row form d flagged width height planes alpha) height image
  unfolding image_row
  flagged_rows form e =
      rows_same size (row_with form d flagged width height planes alpha width) (image_row form d flagged width height planes alpha) height image
      (λ row i. concat_up_to width (λ (column : ℕ). pixel_bytes form (colour_at d flagged width height planes row column) (alpha_flagged flagged alpha width row column e i)))

  -- the same row of 255 for all
  pub opaque_rows : (form : PixelForm) (n : ℕ) → flagged ≡ false → width ≤ n
      → write_rows size (row_with form d flagged width height planes (replicate n 255) 0) height image ≡ write_rows size (image_row form d flagged width height planes alpha) height image
  unfolding image_row
  opaque_rows form n e l =
      rows_same size (row_with form d flagged width height planes (replicate n 255) 0) (image_row form d flagged width height planes alpha) height image
      (λ row.
      concat_up_to_same width (λ (column : ℕ). pixel_bytes form (colour_at d flagged width height planes row column) (get_or (replicate n 255) (row * 0 + column) 0))
      (λ (column : ℕ). pixel_bytes form (colour_at d flagged width height planes row column) (alpha_at flagged alpha width row column))
      (λ column below. ap (pixel_bytes form (colour_at d flagged width height planes row column)) (alpha_opaque flagged alpha n width row column e (omega arith))))

-- ---- their room

pub image_of : (format other : PixelFormat) (width height len : ℕ) → format ≡ other → image_size_of (format_to_form format) width height ≤ len → image_size_of (format_to_form other) width height ≤ len
image_of format other width height len e l = rw e at l

pub plane_rows_fit : (flagged : Bool) (format : PixelFormat) (layout : PixelLayout) (width height len : ℕ) → format ≡ FourBytes layout → flagged ≡ true
    → shown_alpha_size_of (format_to_form format) flagged width height ≤ len → AlphaRowsFit width height width len
plane_rows_fit flagged Rgb24 layout width height len e t l row lr = let z : ◌≡◌ {A = ℕ} 0 1 = cc in absurd (omega arith)
plane_rows_fit flagged (FourBytes other) layout width height len e t l row lr =
    let whole : width * height ≤ len = rw t at l in
    omega (arith, row_within row width height lr)
