-- The checks of a picture, one after the other, and what is known once all pass.
use Prim.Native.Nat.{ℕ, ◌≤◌, ◌<◌}
use mathlib.Core.Bool.{false}
use mathlib.Core.Path.{◌≡◌, sym, ap, ◌∙◌}
use mathlib.Core.List.{List, [], ◌∷◌}
use lib.Dec.{ltb}
use borrow.Author.Tests.{lt-ltb, le-ltb, ltb-false}
use Rattle.rle_format.specs.Answer.{Answer, counted, refused}
use Rattle.rle_format.specs.Sides.{check_sides_of, AllowedSides}
use Rattle.rle_format.proofs.Sides.{allowed_sides, check_sides_passes}
use Rattle.bitmap_format.specs.declared.BitmapStreamHeader.{BitmapStreamHeader}
use Rattle.bitmap_format.specs.Pixels.{PixelForm}
use Rattle.bitmap_format.specs.Checks.{Check, check, first_refusal_of}
use Rattle.bitmap_format.specs.Sizes.{min_body_size_of, work_size_of, image_size_of}
use Rattle.bitmap_format.specs.Picture.{is_loss_level_invalid_of, picture_checks, check_picture}
use Rattle.bitmap_format.proofs.Checks.{check_refuses, check_passes, no_checks, sides_passed, check_passed}

-- ---- the checks after those of the sides

module _ (form : PixelForm) (header : BitmapStreamHeader) (w h body work image : ℕ) where
  abbrev checks_after_sides : Answer
  checks_after_sides = first_refusal_of (picture_checks form header w h body work image) (counted (image_size_of form w h))

  -- the checks from that of the image, of the work area and of the body on
  abbrev checks_from_image : List Check
  checks_from_image = check 6 (ltb image (image_size_of form w h)) ∷ []

  abbrev checks_from_work : List Check
  checks_from_work = check 5 (ltb work (work_size_of form header w h)) ∷ checks_from_image

  abbrev checks_from_body : List Check
  checks_from_body = check 4 (ltb body (min_body_size_of header w h)) ∷ checks_from_work

  abbrev passed_answer : Answer
  passed_answer = counted (image_size_of form w h)

-- ---- the checks after refusals 1 to 3, one after the other, with the minimum sizes as the code computes them

module _ (form : PixelForm) (header : BitmapStreamHeader) (w h body work image : ℕ) (passed_3 : AllowedSides w h × (is_loss_level_invalid_of header.color_plane_definition ≡ false)) where
  abbrev checks : Answer
  checks = check_picture form header w h body work image

  abbrev passed : Answer
  passed = passed_answer form header w h body work image

  abbrev from_work : List Check
  from_work = checks_from_work form header w h body work image

  abbrev from_image : List Check
  from_image = checks_from_image form header w h body work image

  -- a size of sides that pass is not 0
  size_is : (n m : ℕ) → n ≡ check_sides_of (λ (_ : ℕ). 0) w h m → n ≡ m
  size_is n m e = e ∙ check_sides_passes (λ (_ : ℕ). 0) w h m passed_3.0

  level_passed : checks ≡ first_refusal_of (checks_from_body form header w h body work image) passed
  unfolding check_picture
  level_passed = check_sides_passes refused w h (checks_after_sides form header w h body work image) passed_3.0 ∙ check_passes _ (checks_from_body form header w h body work image) passed passed_3.1

  module _ (min_body : ℕ) (eb : min_body ≡ check_sides_of (λ (_ : ℕ). 0) w h (min_body_size_of header w h)) where
    pub body_refused : body < min_body → refused 4 ≡ checks
    body_refused l = sym (level_passed ∙ check_refuses _ from_work passed (lt-ltb body (min_body_size_of header w h) (rw (size_is _ _ eb) at l)))

    module _ (lb : min_body ≤ body) (min_work : ℕ) (ek : min_work ≡ check_sides_of (λ (_ : ℕ). 0) w h (work_size_of form header w h)) where
      body_passed : checks ≡ first_refusal_of from_work passed
      body_passed = level_passed ∙ check_passes _ from_work passed (le-ltb body (min_body_size_of header w h) (rw (size_is _ _ eb) at lb))

      pub work_refused : work < min_work → refused 5 ≡ checks
      work_refused l = sym (body_passed ∙ check_refuses _ from_image passed (lt-ltb work (work_size_of form header w h) (rw (size_is _ _ ek) at l)))

      module _ (lk : min_work ≤ work) (min_image : ℕ) (ei : min_image ≡ check_sides_of (λ (_ : ℕ). 0) w h (image_size_of form w h)) where
        work_passed : checks ≡ first_refusal_of from_image passed
        work_passed = body_passed ∙ check_passes _ from_image passed (le-ltb work (work_size_of form header w h) (rw (size_is _ _ ek) at lk))

        pub image_refused : image < min_image → refused 6 ≡ checks
        image_refused l = sym (work_passed ∙ check_refuses _ [] passed (lt-ltb image (image_size_of form w h) (rw (size_is _ _ ei) at l)))

        pub all_passed : min_image ≤ image → counted min_image ≡ checks
        all_passed l = ap counted (size_is _ _ ei) ∙ sym (work_passed ∙ check_passes _ [] passed (le-ltb image (image_size_of form w h) (rw (size_is _ _ ei) at l)) ∙ no_checks passed)

-- ---- what is known of the slices once all checks passed
pub record ChecksPassed (form : PixelForm) (header : BitmapStreamHeader) (w h body work image n : ℕ) : Type 0 where
  pub width_most : w ≤ 8192
  pub height_most : h ≤ 8192
  pub loss : is_loss_level_invalid_of header.color_plane_definition ≡ false
  pub body_enough : min_body_size_of header w h ≤ body
  pub work_enough : work_size_of form header w h ≤ work
  pub image_enough : image_size_of form w h ≤ image
  pub answer : n ≡ image_size_of form w h

pub checks_passed : (form : PixelForm) (header : BitmapStreamHeader) (w h body work image n : ℕ) → check_picture form header w h body work image ≡ counted n → ChecksPassed form header w h body work image n
unfolding check_picture
checks_passed form header w h body work image n e =
    let i = sides_passed w h n (checks_after_sides form header w h body work image) e in
    let sides : AllowedSides w h = allowed_sides w h i.0 in
    let three = check_passed (check 3 (is_loss_level_invalid_of header.color_plane_definition)) (checks_from_body form header w h body work image) (counted (image_size_of form w h)) n i.1 in
    let four = check_passed (check 4 (ltb body (min_body_size_of header w h))) (checks_from_work form header w h body work image) (counted (image_size_of form w h)) n three.1 in
    let five = check_passed (check 5 (ltb work (work_size_of form header w h))) (checks_from_image form header w h body work image) (counted (image_size_of form w h)) n four.1 in
    let six = check_passed (check 6 (ltb image (image_size_of form w h))) [] (counted (image_size_of form w h)) n five.1 in
    let last : counted (image_size_of form w h) ≡ counted n = sym (no_checks (counted (image_size_of form w h))) ∙ six.1 in
    record {
      width_most = sides.wide;
      height_most = sides.high;
      loss = three.0;
      body_enough = ltb-false body (min_body_size_of header w h) four.0;
      work_enough = ltb-false work (work_size_of form header w h) five.0;
      image_enough = ltb-false image (image_size_of form w h) six.0;
      answer = cc;
    }
