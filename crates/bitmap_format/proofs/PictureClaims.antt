-- The claims of PictureClaims.antt, proved.
use Prim.Native.Nat.{ℕ, ◌+◌, ◌*◌, ◌≤◌, ◌<◌}
use mathlib.Core.Bool.{Bool, true, false, ◌||◌}
use mathlib.Core.Path.{◌≡◌, refl, sym, ap, ◌∙◌}
use mathlib.Core.List.{List}
use native.Mathlib.Nat.{zero-add}
use native.Mathlib.Omega.{arith}
use lib.Dec.{ltb, eqb}
use lib.ListN.{length, take, drop, get_or, get_or-append}
use borrow.Author.Tests.{le-ltb}
use Rattle.rle_format.specs.Choice.{choose}
use Rattle.rle_format.specs.Sides.{check_sides_of}
use Rattle.rle_format.specs.Answer.{Answer, counted, refused}
use Rattle.rle_format.specs.Slice.{overwrite}
use Rattle.rle_format.specs.Unpack.{unpack_plane}
use Rattle.rle_format.proofs.Answer.{refused_not_counted}
use Rattle.pixel_format.specs.Channel.{ChannelOffsets}
use Rattle.pixel_format.proofs.Layouts.{Apart, all_apart}
use Rattle.bitmap_format.specs.declared.BitmapStreamHeader.{BitmapStreamHeader}
use Rattle.bitmap_format.specs.declared.ColorPlaneDefinition.{ColorPlaneDefinition}
use Rattle.bitmap_format.specs.declared.Rgb.{Rgb}
use Rattle.bitmap_format.specs.Checks.{first_refusal_of}
use Rattle.bitmap_format.specs.Planes.{alpha_planes}
use Rattle.bitmap_format.specs.Pixels.{PixelForm, three_bytes, four_bytes, pixel_bytes, alpha_at, shown_alpha_size_of}
use Rattle.bitmap_format.specs.Sizes.{sample_count_of, sum_over, min_body_size_of, colour_planes_size, work_size_of, row_size, image_size_of}
use Rattle.bitmap_format.specs.Image.{colour_at, image_row}
use Rattle.bitmap_format.specs.UnpackPlanes.{PlanesOutcome, unpack_planes}
use Rattle.bitmap_format.specs.Picture.{PictureOutcome, is_loss_level_invalid_of, planes_for, check_picture, write_image, unpack_raw, image_from_work, unpack_rle, unpack_to, unpack_pixels}
use Rattle.bitmap_format.specs.PictureClaims.{Buffers, ThreeBytesUnchanged, pixel_index, alpha_samples, EachPixelHolds, AlphaChecked, AlphaStaysWhole, RefusedAlphaLeavesColours, LargeEnough, in_form, SameRefusals}
use Rattle.bitmap_format.proofs.Sizes.{work_size_rle}
use Rattle.bitmap_format.proofs.PictureChecks.{checks_passed}
use Rattle.bitmap_format.proofs.UnpackPicture.{unpack_to_refused, unpack_to_rle, unpack_to_raw}
use Rattle.bitmap_format.proofs.Pixels.{red_at, green_at, blue_at, alpha_at_lem}
use Rattle.bitmap_format.proofs.PlanesAlike.{written_all}
use Rattle.bitmap_format.proofs.AlphaKept.{alpha_whole, alpha_refused, forms_alike}
use Rattle.bitmap_format.proofs.PixelAt.{in_plane, colour_agrees, byte_of_image}
use Rattle.bitmap_format.proofs.WrittenPicture.{planes_shown, alpha_list, Shown, shown}

-- ---- three bytes

pub three_bytes_unchanged : ThreeBytesUnchanged
unfolding work_size_of image_size_of row_size image_row
three_bytes_unchanged header w h = record { work_size_is = sum; image_size_is = refl; row_size_is = refl; planes = refl; row = λ samples alpha r. refl }
  where
    sum : choose header.enable_rle_compression (0 + colour_planes_size header w h) 0 ≡ choose header.enable_rle_compression (colour_planes_size header w h) 0
    sum = ap (λ (n : ℕ). choose header.enable_rle_compression n 0) (zero-add (colour_planes_size header w h))

-- an RLE picture that passed refusal 5
rle_room : (form : PixelForm) (header : BitmapStreamHeader) (w h room : ℕ) → header.enable_rle_compression ≡ true → work_size_of form header w h ≤ room
    → colour_planes_size header w h + shown_alpha_size_of form header.use_alpha w h ≤ room
rle_room form header w h room e l = omega (arith, work_size_rle form header w h e)

-- ---- the colour planes of two pictures of one body

module _ (f g : PixelForm) (header : BitmapStreamHeader) (w h : ℕ) (body work image work-g image-g : List ℕ)
    (s : Shown f header w h body work image) (t : Shown g header w h body work-g image-g) where
  pub planes_agree : take (colour_planes_size header w h) (planes_shown f header w h body work) ≡ take (colour_planes_size header w h) (planes_shown g header w h body work-g)
  planes_agree = go header.enable_rle_compression refl
    where
      raw : List ℕ
      raw = drop (sum_over sample_count_of (alpha_planes header.use_alpha w h)) body

      go : (b : Bool) → header.enable_rle_compression ≡ b
          → take (colour_planes_size header w h) (planes_shown f header w h body work) ≡ take (colour_planes_size header w h) (planes_shown g header w h body work-g)
      go false e =
          ap (λ (b : Bool). take (colour_planes_size header w h) (choose b (unpack_planes (planes_for f header w h) work body).work raw)) e
          ∙ sym (ap (λ (b : Bool). take (colour_planes_size header w h) (choose b (unpack_planes (planes_for g header w h) work-g body).work raw)) e)
      go true e =
          let alike = forms_alike header w h f g work work-g body (rle_room f header w h (length work) e s.passed.work_enough) (rle_room g header w h (length work-g) e t.passed.work_enough) in
          ap (λ (b : Bool). take (colour_planes_size header w h) (choose b (unpack_planes (planes_for f header w h) work body).work raw)) e
          ∙ alike.planes s.count (s.read e)
          ∙ sym (ap (λ (b : Bool). take (colour_planes_size header w h) (choose b (unpack_planes (planes_for g header w h) work-g body).work raw)) e)

-- ---- alpha

either : (t : Bool) (a b c : ℕ) → t ≡ false → choose t a c ≡ choose t b c
either t a b c e = ap (λ (t : Bool). choose t a c) e ∙ sym (ap (λ (t : Bool). choose t b c) e)

get_d_over : (d vs : List ℕ) (i : ℕ) → i < length vs → get_or (overwrite d vs) i 0 ≡ get_or vs i 0
unfolding overwrite
get_d_over d vs i l = get_or-append vs (drop (length vs) d) 0 i l

module _ (p : ChannelOffsets) (header : BitmapStreamHeader) (w h : ℕ) (body work image : List ℕ) (s : Shown (four_bytes p) header w h body work image) where
  -- the work area of a picture with alpha
  alpha_room : header.enable_rle_compression ≡ true → header.use_alpha ≡ true → colour_planes_size header w h + w * h ≤ length work
  alpha_room e f =
      let full : choose header.use_alpha (w * h) 0 ≡ w * h = ap (λ (t : Bool). choose t (w * h) 0) f in
      omega (arith, full, rle_room (four_bytes p) header w h (length work) e s.passed.work_enough)

  -- alpha's plane was read, since all were
  alpha_read : header.enable_rle_compression ≡ true → header.use_alpha ≡ true → length (unpack_plane w h (w * h) body).written ≡ w * h
  alpha_read e f = go (unpack_plane w h (w * h) body).answer refl
    where
      go : (a : Answer) → (unpack_plane w h (w * h) body).answer ≡ a → length (unpack_plane w h (w * h) body).written ≡ w * h
      go (counted n) ea = written_all w h (w * h) n body ea
      go (refused r) ea = refused_not_counted (sym (alpha_refused header w h p work body f (alpha_room e f) r ea).0 ∙ s.read e)

  pub alpha_shown : (row column : ℕ) → row < h → column < w
      → alpha_at header.use_alpha (alpha_list (four_bytes p) header w h body work) w row column ≡ alpha_at header.use_alpha (alpha_samples header w h body) w row column
  unfolding alpha_at alpha_samples
  alpha_shown row column r c = by_flag header.use_alpha refl
    where
      by_kind : (b : Bool) → header.enable_rle_compression ≡ b → header.use_alpha ≡ true
          → get_or (alpha_list (four_bytes p) header w h body work) (row * w + column) 0 ≡ get_or (alpha_samples header w h body) (row * w + column) 0
      by_kind false e f =
          ap (λ (b : Bool). get_or (choose b (drop (colour_planes_size header w h) (unpack_planes (planes_for (four_bytes p) header w h) work body).work) body) (row * w + column) 0) e
          ∙ sym (ap (λ (b : Bool). get_or (choose b (unpack_plane w h (w * h) body).written body) (row * w + column) 0) e)
      by_kind true e f =
          ap (λ (b : Bool). get_or (choose b (drop (colour_planes_size header w h) (unpack_planes (planes_for (four_bytes p) header w h) work body).work) body) (row * w + column) 0) e
          ∙ ap (λ (l : List ℕ). get_or l (row * w + column) 0) (alpha_whole header w h p work body f (alpha_room e f))
          ∙ get_d_over (drop (colour_planes_size header w h) work) (unpack_plane w h (w * h) body).written (row * w + column) (omega (arith, alpha_read e f, in_plane row column w h r c))
          ∙ sym (ap (λ (b : Bool). get_or (choose b (unpack_plane w h (w * h) body).written body) (row * w + column) 0) e)

      by_flag : (t : Bool) → header.use_alpha ≡ t
          → choose header.use_alpha (get_or (alpha_list (four_bytes p) header w h body work) (row * w + column) 0) 255
          ≡ choose header.use_alpha (get_or (alpha_samples header w h body) (row * w + column) 0) 255
      by_flag false f = either header.use_alpha _ _ 255 f
      by_flag true f = ap (λ (k : ℕ). choose header.use_alpha k 255) (by_kind header.enable_rle_compression refl f)

-- ---- the claim

pub each_pixel_holds : EachPixelHolds
each_pixel_holds p rearranged header w h body four three n m en em row column r c = record {
  red = here p.r q.r_below ∙ red_at p q (colour_at d f w h planes row column) alpha ∙ ap (λ (k : Rgb). k.r) same ∙ sym (there 0 (omega arith));
  green = here p.g q.g_below ∙ green_at p q (colour_at d f w h planes row column) alpha ∙ ap (λ (k : Rgb). k.g) same ∙ sym (there 1 (omega arith));
  blue = here p.b q.b_below ∙ blue_at p q (colour_at d f w h planes row column) alpha ∙ ap (λ (k : Rgb). k.b) same ∙ sym (there 2 (omega arith));
  transparency = here p.a q.a_below ∙ alpha_at_lem p q (colour_at d f w h planes row column) alpha ∙ alpha_shown p header w h body four.work four.image s row column r c;
}
  where
    q : Apart p
    q = all_apart p rearranged

    s : Shown (four_bytes p) header w h body four.work four.image
    s = shown (four_bytes p) header w h body four.work four.image n en

    t : Shown three_bytes header w h body three.work three.image
    t = shown three_bytes header w h body three.work three.image m em

    d : ColorPlaneDefinition
    d = header.color_plane_definition

    f : Bool
    f = header.use_alpha

    planes : List ℕ
    planes = planes_shown (four_bytes p) header w h body four.work

    planes₃ : List ℕ
    planes₃ = planes_shown three_bytes header w h body three.work

    alpha : ℕ
    alpha = alpha_at f (alpha_list (four_bytes p) header w h body four.work) w row column

    same : colour_at d f w h planes row column ≡ colour_at d f w h planes₃ row column
    same =
        colour_agrees d f w h planes planes₃ row column
        (planes_agree (four_bytes p) three_bytes header w h body four.work four.image three.work three.image s t) r c

    here : (k : ℕ) → k < 4
        → get_or (unpack_to (four_bytes p) header w h body four.work four.image).image (pixel_index (four_bytes p) w row column k) 0
        ≡ get_or (pixel_bytes (four_bytes p) (colour_at d f w h planes row column) alpha) k 0
    here k l =
        ap (λ (i : List ℕ). get_or i (pixel_index (four_bytes p) w row column k) 0) s.image_is
        ∙ byte_of_image (four_bytes p) d f w h planes (alpha_list (four_bytes p) header w h body four.work) four.image s.passed.image_enough row column k r c l

    there : (k : ℕ) → k < 3
        → get_or (unpack_to three_bytes header w h body three.work three.image).image (pixel_index three_bytes w row column k) 0
        ≡ get_or (pixel_bytes three_bytes (colour_at d f w h planes₃ row column) 0) k 0
    there k l =
        ap (λ (i : List ℕ). get_or i (pixel_index three_bytes w row column k) 0) t.image_is
        ∙ byte_of_image three_bytes d f w h planes₃ (alpha_list three_bytes header w h body three.work) three.image t.passed.image_enough row column k r c l

-- ---- alpha

-- the work area after the planes is the picture's, read or refused
from_work : (form : PixelForm) (header : BitmapStreamHeader) (w h : ℕ) (work image : List ℕ) (a : Answer) → (image_from_work form header w h work image a).work ≡ work
unfolding image_from_work write_image
from_work form header w h work image (counted n) = refl
from_work form header w h work image (refused r) = refl

-- the work area of a picture with alpha that passed all checks
module _ (p : ChannelOffsets) (header : BitmapStreamHeader) (w h : ℕ) (body work image : List ℕ) (k : AlphaChecked p header w h body work image) where
  abbrev planes : PlanesOutcome
  planes = unpack_planes (planes_for (four_bytes p) header w h) work body

  checked_room : colour_planes_size header w h + w * h ≤ length work
  checked_room =
      let full : choose header.use_alpha (w * h) 0 ≡ w * h = ap (λ (t : Bool). choose t (w * h) 0) k.flagged in
      let passed = checks_passed (four_bytes p) header w h (length body) (length work) (length image) k.size k.checked in
      omega (arith, full, rle_room (four_bytes p) header w h (length work) k.rle passed.work_enough)

  is_rle : unpack_pixels p header w h body work image ≡ image_from_work (four_bytes p) header w h planes.work image planes.answer
  unfolding unpack_rle
  is_rle = unpack_to_rle (four_bytes p) header w h body work image k.size k.checked k.rle

  work_is : (unpack_pixels p header w h body work image).work ≡ planes.work
  work_is = ap (λ (q : PictureOutcome). q.work) is_rle ∙ from_work (four_bytes p) header w h planes.work image planes.answer

pub alpha_stays_whole : AlphaStaysWhole
alpha_stays_whole p header w h body work image k =
    ap (drop (colour_planes_size header w h)) (work_is p header w h body work image k) ∙ alpha_whole header w h p work body k.flagged (checked_room p header w h body work image k)

pub refused_alpha_leaves_colours : RefusedAlphaLeavesColours
unfolding image_from_work
refused_alpha_leaves_colours p header w h body work image k r e =
    let stop = alpha_refused header w h p work body k.flagged (checked_room p header w h body work image k) r e in (
      ap (λ (q : PictureOutcome). q.answer) (is_rle p header w h body work image k)
          ∙ ap (λ (a : Answer). (image_from_work (four_bytes p) header w h (planes p header w h body work image k).work image a).answer) stop.0,
      ap (take (colour_planes_size header w h)) (work_is p header w h body work image k) ∙ stop.1,
    )

-- ---- the same refusals

-- the checks where there is room
abbrev roomy : PixelForm → BitmapStreamHeader → (w h body : ℕ) → Answer
roomy form header w h body =
    check_sides_of refused w h
    (choose (is_loss_level_invalid_of header.color_plane_definition) (refused 3)
    (choose (ltb body (min_body_size_of header w h)) (refused 4) (counted (image_size_of form w h))))

roomy_checks : (form : PixelForm) (header : BitmapStreamHeader) (w h body : ℕ) (a : Buffers) → LargeEnough form header w h a
    → check_picture form header w h body (length a.work) (length a.image) ≡ roomy form header w h body
unfolding check_picture first_refusal_of
roomy_checks form header w h body a room = λ i.
    check_sides_of refused w h
    (choose (is_loss_level_invalid_of header.color_plane_definition) (refused 3)
    (choose (ltb body (min_body_size_of header w h)) (refused 4)
    (choose (le-ltb (length a.work) (work_size_of form header w h) room.work_enough i) (refused 5)
    (choose (le-ltb (length a.image) (image_size_of form w h) room.image_enough i) (refused 6) (counted (image_size_of form w h))))))

roomy_form : (f g : PixelForm) (header : BitmapStreamHeader) (w h body : ℕ) → roomy g header w h body ≡ in_form g w h (roomy f header w h body)
unfolding check_sides_of
roomy_form f g header w h body =
    go (eqb w 0 || eqb h 0) (ltb 8192 w || ltb 8192 h) (is_loss_level_invalid_of header.color_plane_definition) (ltb body (min_body_size_of header w h))
  where
    go : (s t l b : Bool)
        → choose s (refused 1) (choose t (refused 2) (choose l (refused 3) (choose b (refused 4) (counted (image_size_of g w h)))))
        ≡ in_form g w h (choose s (refused 1) (choose t (refused 2) (choose l (refused 3) (choose b (refused 4) (counted (image_size_of f w h))))))
    go true t l b = refl
    go false true l b = refl
    go false false true b = refl
    go false false false true = refl
    go false false false false = refl

module _ (f g : PixelForm) (header : BitmapStreamHeader) (w h : ℕ) (body : List ℕ) (a b : Buffers) (ra : LargeEnough f header w h a) (rb : LargeEnough g header w h b) where
  abbrev one : PictureOutcome
  one = unpack_to f header w h body a.work a.image

  abbrev two : PictureOutcome
  two = unpack_to g header w h body b.work b.image

  abbrev checked_one : Answer
  checked_one = check_picture f header w h (length body) (length a.work) (length a.image)

  checks_same : check_picture g header w h (length body) (length b.work) (length b.image) ≡ in_form g w h checked_one
  checks_same =
      roomy_checks g header w h (length body) b rb ∙ roomy_form f g header w h (length body) ∙ ap (in_form g w h) (sym (roomy_checks f header w h (length body) a ra))

  from_same : (work image work-g image-g : List ℕ) (p q : Answer) → p ≡ q
      → (image_from_work g header w h work-g image-g q).answer ≡ in_form g w h (image_from_work f header w h work image p).answer
  unfolding image_from_work write_image
  from_same work image work-g image-g (counted n) q e = ap (λ (q : Answer). (image_from_work g header w h work-g image-g q).answer) (sym e)
  from_same work image work-g image-g (refused r) q e = ap (λ (q : Answer). (image_from_work g header w h work-g image-g q).answer) (sym e)

  by_kind : (m : ℕ) → checked_one ≡ counted m → (t : Bool) → header.enable_rle_compression ≡ t → two.answer ≡ in_form g w h one.answer
  unfolding unpack_rle unpack_raw write_image
  by_kind m e true eb =
      let u = unpack_planes (planes_for f header w h) a.work body in
      let v = unpack_planes (planes_for g header w h) b.work body in
      let alike = forms_alike header w h f g a.work b.work body (rle_room f header w h (length a.work) eb ra.work_enough) (rle_room g header w h (length b.work) eb rb.work_enough) in
      ap (λ (p : PictureOutcome). p.answer) (unpack_to_rle g header w h body b.work b.image (image_size_of g w h) (checks_same ∙ ap (in_form g w h) e) eb)
      ∙ from_same u.work a.image v.work b.image u.answer v.answer alike.answer
      ∙ ap (λ (p : PictureOutcome). in_form g w h p.answer) (sym (unpack_to_rle f header w h body a.work a.image m e eb))
  by_kind m e false eb =
      ap (λ (p : PictureOutcome). p.answer) (unpack_to_raw g header w h body b.work b.image (image_size_of g w h) (checks_same ∙ ap (in_form g w h) e) eb)
      ∙ ap (λ (p : PictureOutcome). in_form g w h p.answer) (sym (unpack_to_raw f header w h body a.work a.image m e eb))

  by_checks : (t : Answer) → checked_one ≡ t → two.answer ≡ in_form g w h one.answer
  by_checks (refused r) e =
      ap (λ (p : PictureOutcome). p.answer) (unpack_to_refused g header w h body b.work b.image r (checks_same ∙ ap (in_form g w h) e))
      ∙ ap (λ (p : PictureOutcome). in_form g w h p.answer) (sym (unpack_to_refused f header w h body a.work a.image r e))
  by_checks (counted m) e = by_kind m e header.enable_rle_compression refl

pub same_refusals : SameRefusals
same_refusals f g header w h body a b ra rb =
    by_checks f g header w h body a b ra rb (check_picture f header w h (length body) (length a.work) (length a.image)) refl
