-- The outcomes of a picture.
use Prim.Native.Nat.{ℕ, ◌+◌, ◌*◌, ◌≤◌}
use mathlib.Core.Bool.{Bool, true, false}
use mathlib.Core.Path.{◌≡◌, refl, sym, ap, ◌∙◌}
use mathlib.Core.List.{List}
use native.Mathlib.Nat.{add-zero}
use native.Mathlib.Omega.{arith}
use lib.ListN.{length, drop}
use Rattle.std.specs.Prelude.{Result, Ok, Err}
use Rattle.std.specs.Result.{IsErrAnd}
use Rattle.rle_format.specs.declared.Refusal.{Refusal}
use Rattle.rle_format.specs.Answer.{Answer, counted, number, to_answer}
use Rattle.rle_format.specs.Sides.{check_sides_of, AllowedSides}
use Rattle.rle_format.proofs.Sides.{allowed_sides, check_sides_passes}
use Rattle.rle_format.proofs.Slice.{suffix, suffix_drop}
use Rattle.pixel_format.specs.declared.PixelFormat.{PixelFormat}
use Rattle.pixel_format.specs.declared.PixelFormat.TheVariants.{FourBytes}
use Rattle.pixel_format.specs.declared.PixelLayout.{PixelLayout}
use Rattle.bitmap_format.specs.declared.BitmapStreamHeader.{BitmapStreamHeader}
use Rattle.bitmap_format.specs.Planes.{alpha_planes_at, alpha_planes, planes_with_alpha_at}
use Rattle.bitmap_format.specs.Pixels.{PixelForm, three_bytes, four_bytes, format_to_form, shown_alpha_size_of}
use Rattle.bitmap_format.specs.Sizes.{sample_count_of, sum_over, min_body_size_of, colour_planes_size, alpha_offset_of, work_size_of, row_size, image_size_of}
use Rattle.bitmap_format.specs.Image.{image_row, write_rows}
use Rattle.bitmap_format.specs.Checks.{first_refusal_of}
use Rattle.bitmap_format.specs.UnpackPlanes.{unpack_planes}
use Rattle.bitmap_format.specs.Picture.{PictureOutcome, refused_picture, is_loss_level_invalid_of, picture_checks, check_picture, write_image, unpack_raw, image_from_work, unpack_rle}
use Rattle.bitmap_format.proofs.Answer.{passed_up}
use Rattle.bitmap_format.proofs.Checks.{sides_passed}
use Rattle.bitmap_format.proofs.UnpackPicture.{rle_work_enough, raw_body_enough}
use Rattle.bitmap_planes.proofs.PlaneSequence.{length_suffix, PlanesRead}
use Rattle.bitmap_image.specs.WritePlanes.{write_planes_of}
use Rattle.bitmap_image.proofs.PlanesFit.{PlanesKnown, planes_written}

-- what a function that unpacks a picture shows: its answer d, and the work area and the image after it
abbrev pub PictureResult : (p : PictureOutcome) (work_after image_after : List ℕ) (d : Result ℕ Refusal) → Type 0
PictureResult p work_after image_after d = (to_answer d ≡ p.answer) × ((work_after ≡ p.work) × (image_after ≡ p.image))

pub result_cong : (p q : PictureOutcome) (work image : List ℕ) (d : Result ℕ Refusal) → p ≡ q → PictureResult q work image d → PictureResult p work image d
result_cong p q work image d e l = rw e l

-- the sides of a picture that passed all checks
pub checked_sides : (form : PixelForm) (header : BitmapStreamHeader) (w h body work image n : ℕ) → check_picture form header w h body work image ≡ counted n → AllowedSides w h
unfolding check_picture
checked_sides form header w h body work image n e =
    allowed_sides w h (sides_passed w h n (first_refusal_of (picture_checks form header w h body work image) (counted (image_size_of form w h))) e).0

-- ---- alpha_offset

pub offset_four : (format : PixelFormat) (layout : PixelLayout) (header : BitmapStreamHeader) (w h n : ℕ) → format ≡ FourBytes layout → AllowedSides w h
    → n ≡ check_sides_of (λ (_ : ℕ). 0) w h (colour_planes_size header w h) → n ≡ alpha_offset_of (format_to_form format) header w h
offset_four format layout header w h n e s en =
    en ∙ check_sides_passes (λ (_ : ℕ). 0) w h (colour_planes_size header w h) s ∙ ap (λ (f : PixelFormat). alpha_offset_of (format_to_form f) header w h) (sym e)

-- ---- decode_rle

-- alpha has room behind its offset, and the colour planes before
pub record WorkRoom (form : PixelForm) (header : BitmapStreamHeader) (w h offset room : ℕ) : Type 0 where
  pub colour : colour_planes_size header w h ≤ room
  pub alpha : offset + shown_alpha_size_of form header.use_alpha w h ≤ room

pub work_room : (form : PixelForm) (header : BitmapStreamHeader) (w h offset room : ℕ) → header.enable_rle_compression ≡ true → work_size_of form header w h ≤ room
    → offset ≡ alpha_offset_of form header w h → WorkRoom form header w h offset room
work_room three_bytes header w h offset room e l eo = let all = rle_work_enough three_bytes header w h room e l in record { colour = omega arith; alpha = omega arith }
work_room (four_bytes p) header w h offset room e l eo = let all = rle_work_enough (four_bytes p) header w h room e l in record { colour = omega arith; alpha = omega arith }

-- work is the work area after the planes, and r their answer
module _ (form : PixelForm) (header : BitmapStreamHeader) (w h offset : ℕ) (at : offset ≡ alpha_offset_of form header w h) (body work₀ work image : List ℕ) (r : Result ℕ Refusal)
    (u : PlanesRead (unpack_planes (planes_with_alpha_at offset header w h) work₀ body) work r) where
  from_planes : unpack_rle form header w h body work₀ image ≡ image_from_work form header w h work image (to_answer r)
  unfolding unpack_rle
  from_planes =
      (λ i. image_from_work form header w h (unpack_planes (planes_with_alpha_at (sym at i) header w h) work₀ body).work image (unpack_planes (planes_with_alpha_at (sym at i) header w h) work₀ body).answer)
      ∙ (λ i. image_from_work form header w h (sym u.1 i) image (sym u.0 i))

  pub rle_refused : (q : Refusal) → r ≡ Err q → (up : Result ℕ Refusal) → IsErrAnd up (λ (k : Refusal). k ≡ q) → PictureResult (unpack_rle form header w h body work₀ image) work image up
  unfolding image_from_work
  rle_refused q e up is =
      let p : unpack_rle form header w h body work₀ image ≡ refused_picture work image (number q) = from_planes ∙ ap (λ (a : Answer). image_from_work form header w h work image a) (ap to_answer e) in
      result_cong (unpack_rle form header w h body work₀ image) (refused_picture work image (number q)) work image up p (passed_up up q is, (refl, refl))

  -- the image is written from two parts of the work area: all of it, and alpha
  pub rle_written : (n : ℕ) → r ≡ Ok n → AllowedSides w h → is_loss_level_invalid_of header.color_plane_definition ≡ false → WorkRoom form header w h offset (length work)
      → image_size_of form w h ≤ length image → (after : List ℕ) → after ≡ write_planes_of form header w h (suffix work 0) (suffix work offset) image → (size : ℕ)
      → size ≡ check_sides_of (λ (_ : ℕ). 0) w h (image_size_of form w h) → PictureResult (unpack_rle form header w h body work₀ image) work after (Ok size)
  unfolding image_from_work write_image
  rle_written n e s loss room fits after ea size es =
      let p : unpack_rle form header w h body work₀ image ≡ write_image form header w h work (drop (alpha_offset_of form header w h) work) work image =
      from_planes ∙ ap (λ (a : Answer). image_from_work form header w h work image a) (ap to_answer e) in
      let known : PlanesKnown form header w h (length (suffix work 0)) (length (suffix work offset)) (length image) =
      record { sides = s; image_room = fits; planes_room = omega (arith, length_suffix work 0, room.colour); alpha_room = omega (arith, length_suffix work offset, room.alpha); loss = loss } in
      result_cong (unpack_rle form header w h body work₀ image) (write_image form header w h work (drop (alpha_offset_of form header w h) work) work image) work after (Ok size) p (
        ap counted (es ∙ check_sides_passes (λ (_ : ℕ). 0) w h (image_size_of form w h) s),
        (
          refl,
          ea
              ∙ planes_written form header w h (suffix work 0) (suffix work offset) image known
              ∙ (λ i.
              write_rows (row_size form w)
              (image_row form header.color_plane_definition header.use_alpha w h (suffix_drop work 0 i) ((suffix_drop work offset ∙ ap (λ (k : ℕ). drop k work) at) i)) h image),
        ),
      )

-- ---- decode_raw

pub alpha_flagged : (alpha : Bool) (w h : ℕ) → alpha ≡ true → w * h ≡ sum_over sample_count_of (alpha_planes alpha w h)
unfolding sum_over alpha_planes_at
alpha_flagged alpha w h e = rw e (sym (add-zero (w * h)))

pub alpha_absent : (alpha : Bool) (w h : ℕ) → alpha ≡ false → 0 ≡ sum_over sample_count_of (alpha_planes alpha w h)
unfolding sum_over alpha_planes_at
alpha_absent alpha w h e = rw e

-- alpha that is shown is in the body
shown_in_body : (form : PixelForm) (alpha : Bool) (w h : ℕ) → shown_alpha_size_of form alpha w h ≤ sum_over sample_count_of (alpha_planes alpha w h)
shown_in_body three_bytes alpha w h = omega arith
shown_in_body (four_bytes p) true w h = omega (arith, alpha_flagged true w h refl)
shown_in_body (four_bytes p) false w h = omega arith

pub start_within : (header : BitmapStreamHeader) (w h start room : ℕ) → header.enable_rle_compression ≡ false → min_body_size_of header w h ≤ room
    → start ≡ sum_over sample_count_of (alpha_planes header.use_alpha w h) → start ≤ room
start_within header w h start room e l es = omega (arith, raw_body_enough header w h room e l)

pub raw_rows : (form : PixelForm) (header : BitmapStreamHeader) (w h start : ℕ) (body image after : List ℕ) → header.enable_rle_compression ≡ false → AllowedSides w h
    → is_loss_level_invalid_of header.color_plane_definition ≡ false → min_body_size_of header w h ≤ length body → image_size_of form w h ≤ length image
    → start ≡ sum_over sample_count_of (alpha_planes header.use_alpha w h) → after ≡ write_planes_of form header w h (suffix body start) (suffix body 0) image
    → after
    ≡ write_rows (row_size form w)
    (image_row form header.color_plane_definition header.use_alpha w h (drop (sum_over sample_count_of (alpha_planes header.use_alpha w h)) body) body) h image
raw_rows form header w h start body image after e s loss long fits es ea =
    let all = raw_body_enough header w h (length body) e long in
    let shown = shown_in_body form header.use_alpha w h in
    let known : PlanesKnown form header w h (length (suffix body start)) (length (suffix body 0)) (length image) =
    record { sides = s; image_room = fits; planes_room = omega (arith, length_suffix body start); alpha_room = omega (arith, length_suffix body 0); loss = loss } in
    ea
    ∙ planes_written form header w h (suffix body start) (suffix body 0) image known
    ∙ (λ i.
    write_rows (row_size form w)
    (image_row form header.color_plane_definition header.use_alpha w h ((suffix_drop body start ∙ ap (λ (k : ℕ). drop k body) es) i) (suffix_drop body 0 i)) h image)

pub raw_written : (form : PixelForm) (header : BitmapStreamHeader) (w h n : ℕ) (body work image after : List ℕ) (d : Result ℕ Refusal) → to_answer d ≡ counted n → n ≡ image_size_of form w h
    → after
    ≡ write_rows (row_size form w)
    (image_row form header.color_plane_definition header.use_alpha w h (drop (sum_over sample_count_of (alpha_planes header.use_alpha w h)) body) body) h image
    → PictureResult (unpack_raw form header w h body work image) work after d
unfolding unpack_raw write_image
raw_written form header w h n body work image after d ed en ea = (ed ∙ ap counted en, (refl, ea))
