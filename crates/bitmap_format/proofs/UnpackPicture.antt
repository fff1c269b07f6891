-- A picture by the answer of its checks, and what its sizes and its loss level say once they are checked.
use Prim.Native.Nat.{ℕ, ◌+◌, ◌≤◌}
use mathlib.Core.Bool.{Bool, true, false, ◌||◌}
use mathlib.Core.Path.{◌≡◌, refl, sym, ap, ◌∙◌}
use mathlib.Core.List.{List, [], ◌∷◌, ◌++◌}
use native.Mathlib.Nat.{add_assoc, zero-add}
use native.Mathlib.Omega.{arith}
use lib.Dec.{ltb, eqb}
use lib.ListN.{length}
use borrow.Author.Tests.{ltb-false, eqb-false}
use Rattle.rle_format.specs.Choice.{choose}
use Rattle.rle_format.specs.Answer.{Answer, counted, refused}
use Rattle.rle_format.proofs.Answer.{refused_not_counted}
use Rattle.bitmap_format.specs.declared.BitmapStreamHeader.{BitmapStreamHeader}
use Rattle.bitmap_format.specs.declared.ColorPlaneDefinition.TheVariants.{AYCoCg}
use Rattle.bitmap_format.specs.Planes.{PlaneAt, subsampled, colour_planes, alpha_planes, planes_with_alpha_at, planes_of}
use Rattle.bitmap_format.specs.Pixels.{PixelForm, shown_alpha_size_of}
use Rattle.bitmap_format.specs.Sizes.{sample_count_of, min_plane_size_of, sum_over, min_body_size_of, colour_planes_size, alpha_offset_of, work_size_of, image_size_of}
use Rattle.bitmap_format.specs.UnpackPlanes.{unpack_planes}
use Rattle.bitmap_format.specs.Picture.{PictureOutcome, refused_picture, is_loss_level_invalid_of, check_picture, write_image, unpack_raw, image_from_work, unpack_rle, unpack_to}
use Rattle.bitmap_format.proofs.Sizes.{work_size_rle, image_size-max}
use Rattle.bitmap_format.proofs.PictureChecks.{checks_passed}

-- ---- the picture by the answer of its checks

module _ (form : PixelForm) (header : BitmapStreamHeader) (w h : ℕ) (body work image : List ℕ) where
  pub unpack_to_refused : (r : ℕ) → check_picture form header w h (length body) (length work) (length image) ≡ refused r → unpack_to form header w h body work image ≡ refused_picture work image r
  unfolding unpack_to
  unpack_to_refused r e = cc e

  module _ (n : ℕ) (e : check_picture form header w h (length body) (length work) (length image) ≡ counted n) where
    unpack_to_checked : unpack_to form header w h body work image ≡ choose header.enable_rle_compression (unpack_rle form header w h body work image) (unpack_raw form header w h body work image)
    unfolding unpack_to
    unpack_to_checked = cc e

    pub unpack_to_rle : header.enable_rle_compression ≡ true → unpack_to form header w h body work image ≡ unpack_rle form header w h body work image
    unpack_to_rle t = unpack_to_checked ∙ ap (λ (b : Bool). choose b (unpack_rle form header w h body work image) (unpack_raw form header w h body work image)) t

    pub unpack_to_raw : header.enable_rle_compression ≡ false → unpack_to form header w h body work image ≡ unpack_raw form header w h body work image
    unpack_to_raw t = unpack_to_checked ∙ ap (λ (b : Bool). choose b (unpack_rle form header w h body work image) (unpack_raw form header w h body work image)) t

-- ---- what a picture does not change

-- no refusal changes the image (FORMAT 8.3)
pub image_unchanged : (form : PixelForm) (header : BitmapStreamHeader) (w h : ℕ) (body work image : List ℕ) (r : ℕ) → (unpack_to form header w h body work image).answer ≡ refused r
    → (unpack_to form header w h body work image).image ≡ image
unfolding unpack_rle unpack_raw write_image image_from_work
image_unchanged form header w h body work image r e = by_checks (check_picture form header w h (length body) (length work) (length image)) refl
  where
    planes : (work : List ℕ) (a : Answer) → (image_from_work form header w h work image a).answer ≡ refused r → (image_from_work form header w h work image a).image ≡ image
    planes work (counted n) e = refused_not_counted (sym e)
    planes work (refused q) e = refl

    read : (n : ℕ) → check_picture form header w h (length body) (length work) (length image) ≡ counted n → (b : Bool) → header.enable_rle_compression ≡ b
        → (unpack_to form header w h body work image).image ≡ image
    read n et true eb =
        let p = unpack_to_rle form header w h body work image n et eb in
        let u = unpack_planes (planes_with_alpha_at (alpha_offset_of form header w h) header w h) work body in
        ap (λ (p : PictureOutcome). p.image) p ∙ planes u.work u.answer (sym (ap (λ (p : PictureOutcome). p.answer) p) ∙ e)
    read n et false eb = refused_not_counted (sym e ∙ ap (λ (p : PictureOutcome). p.answer) (unpack_to_raw form header w h body work image n et eb))

    by_checks : (a : Answer) → check_picture form header w h (length body) (length work) (length image) ≡ a → (unpack_to form header w h body work image).image ≡ image
    by_checks (refused q) et = ap (λ (p : PictureOutcome). p.image) (unpack_to_refused form header w h body work image q et)
    by_checks (counted n) et = read n et header.enable_rle_compression refl

-- a raw picture does not change the work area (FORMAT 2.5)
pub work_unchanged : (form : PixelForm) (header : BitmapStreamHeader) (w h : ℕ) (body work image : List ℕ) → header.enable_rle_compression ≡ false → (unpack_to form header w h body work image).work ≡ work
unfolding unpack_raw write_image
work_unchanged form header w h body work image eb = by_checks (check_picture form header w h (length body) (length work) (length image)) refl
  where
    by_checks : (a : Answer) → check_picture form header w h (length body) (length work) (length image) ≡ a → (unpack_to form header w h body work image).work ≡ work
    by_checks (refused q) et = ap (λ (p : PictureOutcome). p.work) (unpack_to_refused form header w h body work image q et)
    by_checks (counted n) et = ap (λ (p : PictureOutcome). p.work) (unpack_to_raw form header w h body work image n et eb)

-- ---- how many bytes are written

image_from_work_count : (form : PixelForm) (header : BitmapStreamHeader) (w h n : ℕ) (work image : List ℕ) (a : Answer) → (image_from_work form header w h work image a).answer ≡ counted n → n ≡ image_size_of form w h
unfolding image_from_work write_image
image_from_work_count form header w h n work image (counted m) e = cc
image_from_work_count form header w h n work image (refused r) e = refused_not_counted e

-- a picture that was written has no more than 4 × 8,192 × 8,192 bytes
pub image_count_max : (form : PixelForm) (header : BitmapStreamHeader) (w h : ℕ) (body work image : List ℕ) (n : ℕ) → (unpack_to form header w h body work image).answer ≡ counted n → n ≤ 268435456
unfolding unpack_rle unpack_raw write_image
image_count_max form header w h body work image n e = by_checks (check_picture form header w h (length body) (length work) (length image)) refl
  where
    size : (m : ℕ) → check_picture form header w h (length body) (length work) (length image) ≡ counted m → n ≡ image_size_of form w h → n ≤ 268435456
    size m et en =
        let p = checks_passed form header w h (length body) (length work) (length image) m et in
        omega (arith, image_size-max form w h p.width_most p.height_most)

    read : (m : ℕ) → check_picture form header w h (length body) (length work) (length image) ≡ counted m → (b : Bool) → header.enable_rle_compression ≡ b → n ≤ 268435456
    read m et true eb =
        size m et
        (image_from_work_count form header w h n _ image (unpack_planes (planes_with_alpha_at (alpha_offset_of form header w h) header w h) work body).answer (sym (ap (λ (p : PictureOutcome). p.answer) (unpack_to_rle form header w h body work image m et eb)) ∙ e))
    read m et false eb =
        let same : counted (image_size_of form w h) ≡ counted n = sym (ap (λ (p : PictureOutcome). p.answer) (unpack_to_raw form header w h body work image m et eb)) ∙ e in
        let en : n ≡ image_size_of form w h = cc in
        size m et en

    by_checks : (a : Answer) → check_picture form header w h (length body) (length work) (length image) ≡ a → n ≤ 268435456
    by_checks (refused r) et = refused_not_counted (sym (sym e ∙ ap (λ (p : PictureOutcome). p.answer) (unpack_to_refused form header w h body work image r et)))
    by_checks (counted m) et = read m et header.enable_rle_compression refl

-- ---- the sizes that were checked, by the kind of picture

pub sum_over-append : (size : PlaneAt → ℕ) (xs ys : List PlaneAt) → sum_over size (xs ++ ys) ≡ sum_over size xs + sum_over size ys
unfolding sum_over
sum_over-append size [] ys = sym (zero-add (sum_over size ys))
sum_over-append size (p ∷ xs) ys = ap (λ (n : ℕ). size p + n) (sum_over-append size xs ys) ∙ sym (add_assoc (size p) (sum_over size xs) (sum_over size ys))

-- an RLE picture has a work area for its colour planes, and for alpha if it is shown
pub rle_work_enough : (form : PixelForm) (header : BitmapStreamHeader) (w h n : ℕ) → header.enable_rle_compression ≡ true → work_size_of form header w h ≤ n
    → shown_alpha_size_of form header.use_alpha w h + colour_planes_size header w h ≤ n
rle_work_enough form header w h n e l = omega (arith, work_size_rle form header w h e)

-- a raw body reaches its colour planes, behind alpha
pub raw_body_enough : (header : BitmapStreamHeader) (w h n : ℕ) → header.enable_rle_compression ≡ false → min_body_size_of header w h ≤ n
    → sum_over sample_count_of (alpha_planes header.use_alpha w h) + sum_over sample_count_of (colour_planes (subsampled header.color_plane_definition) w h) ≤ n
unfolding min_body_size_of planes_with_alpha_at
raw_body_enough header w h n e l =
    let raw : min_body_size_of header w h ≡ sum_over sample_count_of (planes_of header w h) = ap (λ (b : Bool). sum_over (min_plane_size_of b) (planes_of header w h)) e in
    let parts : sum_over sample_count_of (planes_of header w h) ≡ sum_over sample_count_of (alpha_planes header.use_alpha w h) + sum_over sample_count_of (colour_planes (subsampled header.color_plane_definition) w h) =
    sum_over-append sample_count_of (alpha_planes header.use_alpha w h) (colour_planes (subsampled header.color_plane_definition) w h) in
    rw (raw ∙ parts) at l

-- a loss level that passed its check
pub loss_level_range : (level : ℕ) (s : Bool) → is_loss_level_invalid_of (AYCoCg level s) ≡ false → (1 ≤ level) × (level ≤ 7)
unfolding is_loss_level_invalid_of
loss_level_range level s e = go (eqb level 0) (ltb 7 level) refl refl e
  where
    some : (n : ℕ) → (n ≡ 0 → ⊥) → 1 ≤ n
    some n h = omega arith

    go : (a b : Bool) → eqb level 0 ≡ a → ltb 7 level ≡ b → (a || b) ≡ false → (1 ≤ level) × (level ≤ 7)
    go true b ea eb e = let z : ◌≡◌ {A = ℕ} 0 1 = cc in absurd (omega arith)
    go false true ea eb e = let z : ◌≡◌ {A = ℕ} 0 1 = cc in absurd (omega arith)
    go false false ea eb e = (some level (eqb-false level 0 ea), ltb-false 7 level eb)
