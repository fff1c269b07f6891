-- The image of a picture: its pixels one after the other, and its rows one after the other.
use Prim.Native.Nat.{ℕ, zero, suc, ◌+◌, ◌*◌}
use mathlib.Core.Bool.{Bool}
use mathlib.Core.Path.{◌≡◌, refl, sym, ap, ◌∙◌}
use mathlib.Core.List.{List}
use native.Mathlib.Nat.{zero-mul, suc-mul, mul_comm}
use lib.ListN.{length, length-append}
use Rattle.rle_format.specs.Slice.{overwrite, write_at}
use Rattle.rle_format.proofs.Slice.{overwrite_nil, overwrite_append}
use Rattle.bitmap_format.specs.declared.ColorPlaneDefinition.{ColorPlaneDefinition}
use Rattle.bitmap_format.specs.declared.Rgb.{Rgb}
use Rattle.bitmap_format.specs.Pixels.{PixelForm, three_bytes, four_bytes, bytes_per_pixel_of, pixel_bytes, alpha_at}
use Rattle.bitmap_format.specs.Sizes.{row_size}
use Rattle.bitmap_format.specs.Image.{colour_at, concat_up_to, image_row, write_rows}

pub length-concat_up_to : (n k : ℕ) (f : ℕ → List ℕ) → ((i : ℕ) → length (f i) ≡ k) → length (concat_up_to n f) ≡ n * k
unfolding concat_up_to
length-concat_up_to zero k f h = sym (zero-mul k)
length-concat_up_to (suc n) k f h = length-append (concat_up_to n f) (f n) ∙ (λ i. length-concat_up_to n k f h i + h n i) ∙ sym (suc-mul n k)

-- rows without a gap between them are one list: the image
pub write_rows_overwrite : (pitch : ℕ) (row : ℕ → List ℕ) (n : ℕ) (image : List ℕ) → ((i : ℕ) → length (row i) ≡ pitch) → write_rows pitch row n image ≡ overwrite image (concat_up_to n row)
unfolding write_rows concat_up_to
write_rows_overwrite pitch row zero image h = sym (overwrite_nil image)
write_rows_overwrite pitch row (suc n) image h =
    ap (λ (l : List ℕ). write_at l (n * pitch) (row n)) (write_rows_overwrite pitch row n image h)
    ∙ overwrite_append image (concat_up_to n row) (row n) (n * pitch) (length-concat_up_to n pitch row h)

pub length-pixel_bytes : (form : PixelForm) (c : Rgb) (alpha : ℕ) → length (pixel_bytes form c alpha) ≡ bytes_per_pixel_of form
length-pixel_bytes three_bytes c alpha = refl
length-pixel_bytes (four_bytes p) c alpha = refl

pub length-image_row : (form : PixelForm) (d : ColorPlaneDefinition) (flagged : Bool) (w h : ℕ) (planes alpha : List ℕ) (row : ℕ)
    → length (image_row form d flagged w h planes alpha row) ≡ row_size form w
unfolding image_row row_size
length-image_row form d flagged w h planes alpha row =
    length-concat_up_to w (bytes_per_pixel_of form) (λ (column : ℕ). pixel_bytes form (colour_at d flagged w h planes row column) (alpha_at flagged alpha w row column)) (λ i. length-pixel_bytes form _ _)
    ∙ mul_comm w (bytes_per_pixel_of form)

-- and so the image of a picture is
pub image_contiguous : (form : PixelForm) (d : ColorPlaneDefinition) (flagged : Bool) (w h : ℕ) (planes alpha image : List ℕ)
    → write_rows (row_size form w) (image_row form d flagged w h planes alpha) h image ≡ overwrite image (concat_up_to h (image_row form d flagged w h planes alpha))
image_contiguous form d flagged w h planes alpha image =
    write_rows_overwrite (row_size form w) (image_row form d flagged w h planes alpha) h image (length-image_row form d flagged w h planes alpha)
