-- A picture that was written: from which planes, and with which alpha.
use Prim.Native.Nat.{ℕ}
use mathlib.Core.Bool.{Bool, true, false}
use mathlib.Core.Path.{◌≡◌, refl, sym, ap, ◌∙◌}
use mathlib.Core.List.{List}
use native.Mathlib.Omega.{arith}
use lib.ListN.{length, drop}
use Rattle.rle_format.specs.Choice.{choose}
use Rattle.rle_format.specs.Answer.{Answer, counted, refused}
use Rattle.rle_format.proofs.Answer.{refused_not_counted}
use Rattle.bitmap_format.specs.declared.BitmapStreamHeader.{BitmapStreamHeader}
use Rattle.bitmap_format.specs.Planes.{alpha_planes}
use Rattle.bitmap_format.specs.Sizes.{sample_count_of, sum_over, alpha_offset_of, row_size}
use Rattle.bitmap_format.specs.Image.{image_row, write_rows}
use Rattle.bitmap_format.specs.Pixels.{PixelForm}
use Rattle.bitmap_format.specs.UnpackPlanes.{unpack_planes}
use Rattle.bitmap_format.specs.Picture.{PictureOutcome, planes_for, check_picture, write_image, unpack_raw, image_from_work, unpack_rle, unpack_to}
use Rattle.bitmap_format.proofs.PictureChecks.{ChecksPassed, checks_passed}
use Rattle.bitmap_format.proofs.UnpackPicture.{unpack_to_refused, unpack_to_rle, unpack_to_raw}

-- the lists that the rows are made of
abbrev pub planes_shown : PixelForm → BitmapStreamHeader → (w h : ℕ) (body work : List ℕ) → List ℕ
planes_shown form header w h body work =
    choose header.enable_rle_compression (unpack_planes (planes_for form header w h) work body).work (drop (sum_over sample_count_of (alpha_planes header.use_alpha w h)) body)

abbrev pub alpha_list : PixelForm → BitmapStreamHeader → (w h : ℕ) (body work : List ℕ) → List ℕ
alpha_list form header w h body work =
    choose header.enable_rle_compression (drop (alpha_offset_of form header w h) (unpack_planes (planes_for form header w h) work body).work) body

pub record Shown (form : PixelForm) (header : BitmapStreamHeader) (w h : ℕ) (body work image : List ℕ) : Type 0 where
  pub size : ℕ
  pub passed : ChecksPassed form header w h (length body) (length work) (length image) size
  pub count : ℕ
  pub read : header.enable_rle_compression ≡ true → (unpack_planes (planes_for form header w h) work body).answer ≡ counted count
  pub image_is : (unpack_to form header w h body work image).image
      ≡ write_rows (row_size form w) (image_row form header.color_plane_definition header.use_alpha w h (planes_shown form header w h body work) (alpha_list form header w h body work)) h image

module _ (form : PixelForm) (header : BitmapStreamHeader) (w h : ℕ) (body work image : List ℕ) where
  pub shown : (n : ℕ) → (unpack_to form header w h body work image).answer ≡ counted n → Shown form header w h body work image
  unfolding unpack_rle unpack_raw image_from_work write_image
  shown n e = by_tests (check_picture form header w h (length body) (length work) (length image)) refl
    where
      planes : (m : ℕ) → check_picture form header w h (length body) (length work) (length image) ≡ counted m → header.enable_rle_compression ≡ true
          → (a : Answer) → (unpack_planes (planes_for form header w h) work body).answer ≡ a → Shown form header w h body work image
      planes m et eb (refused r) ea =
          refused_not_counted
          (sym (ap (λ (a : Answer). (image_from_work form header w h (unpack_planes (planes_for form header w h) work body).work image a).answer) ea)
          ∙ sym (ap (λ (p : PictureOutcome). p.answer) (unpack_to_rle form header w h body work image m et eb))
          ∙ e)
      planes m et eb (counted k) ea = record {
        size = m;
        passed = checks_passed form header w h (length body) (length work) (length image) m et;
        count = k;
        read = λ _. ea;
        image_is = ap (λ (p : PictureOutcome). p.image) (unpack_to_rle form header w h body work image m et eb)
            ∙ ap (λ (a : Answer). (image_from_work form header w h (unpack_planes (planes_for form header w h) work body).work image a).image) ea
            ∙ (λ i.
            write_rows (row_size form w)
            (image_row form header.color_plane_definition header.use_alpha w h
            (choose (sym eb i) (unpack_planes (planes_for form header w h) work body).work (drop (sum_over sample_count_of (alpha_planes header.use_alpha w h)) body))
            (choose (sym eb i) (drop (alpha_offset_of form header w h) (unpack_planes (planes_for form header w h) work body).work) body))
            h image);
      }

      by_kind : (m : ℕ) → check_picture form header w h (length body) (length work) (length image) ≡ counted m
          → (b : Bool) → header.enable_rle_compression ≡ b → Shown form header w h body work image
      by_kind m et true eb = planes m et eb (unpack_planes (planes_for form header w h) work body).answer refl
      by_kind m et false eb = record {
        size = m;
        passed = checks_passed form header w h (length body) (length work) (length image) m et;
        count = 0;
        read = λ t. let z : ◌≡◌ {A = ℕ} 0 1 = let f : true ≡ false = sym t ∙ eb in cc in absurd (omega arith);
        image_is = ap (λ (p : PictureOutcome). p.image) (unpack_to_raw form header w h body work image m et eb)
            ∙ (λ i.
            write_rows (row_size form w)
            (image_row form header.color_plane_definition header.use_alpha w h
            (choose (sym eb i) (unpack_planes (planes_for form header w h) work body).work (drop (sum_over sample_count_of (alpha_planes header.use_alpha w h)) body))
            (choose (sym eb i) (drop (alpha_offset_of form header w h) (unpack_planes (planes_for form header w h) work body).work) body))
            h image);
      }

      by_tests : (a : Answer) → check_picture form header w h (length body) (length work) (length image) ≡ a → Shown form header w h body work image
      by_tests (refused r) et = refused_not_counted (sym (ap (λ (p : PictureOutcome). p.answer) (unpack_to_refused form header w h body work image r et)) ∙ e)
      by_tests (counted m) et = by_kind m et header.enable_rle_compression refl
