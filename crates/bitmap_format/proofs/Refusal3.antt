-- Refusal 3: a picture with a valid loss level is not refused with it, and the loss level that a stream has is valid.
use mathlib.Core.Path.{◌≡◌, refl, sym, ap, ◌∙◌}
use mathlib.Core.Logic.{⊎_elim}
use mathlib.Core.Bool.{Bool, true, false, ◌||◌}
use mathlib.Core.List.{List, [], ◌∷◌}
use Prim.Native.Nat.{ℕ, ◌-◌}
use native.Mathlib.Omega.{arith}
use lib.Dec.{ltb, eqb}
use lib.ListN.{length, drop}
use Rattle.rle_format.specs.Choice.{choose}
use Rattle.rle_format.specs.Sides.{check_sides_of}
use Rattle.rle_format.specs.Answer.{Answer, counted, refused, add_count}
use Rattle.rle_format.proofs.Answer.{refused_not_counted}
use Rattle.rle_format.proofs.Plane.{PlaneRefusal, plane_bounded}
use Rattle.bitmap_format.specs.declared.BitmapStreamHeader.{BitmapStreamHeader}
use Rattle.bitmap_format.specs.Planes.{PlaneAt, planes_with_alpha_at}
use Rattle.bitmap_format.specs.Pixels.{PixelForm}
use Rattle.bitmap_format.specs.Checks.{first_refusal_of}
use Rattle.bitmap_format.specs.Sizes.{min_body_size_of, alpha_offset_of, work_size_of, image_size_of}
use Rattle.bitmap_format.specs.UnpackPlanes.{PlanesOutcome, add_read, unpack_plane_at, unpack_planes}
use Rattle.bitmap_format.specs.Picture.{PictureOutcome, is_loss_level_invalid_of, check_picture, write_image, unpack_raw, image_from_work, unpack_rle, unpack_to}
use Rattle.bitmap_format.proofs.UnpackPlanes.{work_after, unpack_planes_read}
use Rattle.bitmap_format.proofs.UnpackPicture.{unpack_to_refused, unpack_to_rle, unpack_to_raw}
use Rattle.bitmap_format.specs.HeaderByte.{header_from_byte_of}
use Rattle.bitmap_format.specs.Stream.{split_rest, split_stream_of, unpack_split, unpack_stream_by, unpack_stream_to}
use Rattle.bitmap_format.proofs.HeaderByte.{read_level_valid}

-- ---- planes

first_number : (p : PlaneAt) (work body : List ℕ) (r : ℕ) → (unpack_plane_at p work body).answer ≡ refused r → PlaneRefusal r
first_number p work body r e =
    let b = rw e at (plane_bounded p.width p.height (length work - p.offset) body) in
    b.1

planes_number : (ps : List PlaneAt) (work body : List ℕ) (r : ℕ) → (unpack_planes ps work body).answer ≡ refused r → PlaneRefusal r
unfolding unpack_planes add_read
planes_number [] work body r e = refused_not_counted (sym e)
planes_number (p ∷ ps) work body r e = go (λ n. planes_number ps (work_after p work body) (drop n body) r) (unpack_plane_at p work body).answer refl
  where
    on : (n : ℕ) (a : Answer) → add_count n a ≡ refused r → a ≡ refused r
    on n (counted k) e = refused_not_counted (sym e)
    on n (refused q) e = e

    go : ((n : ℕ) → (unpack_planes ps (work_after p work body) (drop n body)).answer ≡ refused r → PlaneRefusal r) → (a : Answer) → (unpack_plane_at p work body).answer ≡ a → PlaneRefusal r
    go ih (refused q) ea =
        let same : refused q ≡ refused r = sym (stopped q ea) ∙ e in
        let qr : q ≡ r = cc in
        first_number p work body r (ea ∙ ap refused qr)
      where
        stopped : (q : ℕ) → (unpack_plane_at p work body).answer ≡ refused q → (unpack_planes (p ∷ ps) work body).answer ≡ refused q
        stopped q ea = cc ea
    go ih (counted n) ea = ih n (on n (unpack_planes ps (work_after p work body) (drop n body)).answer (sym (ap (λ (u : PlanesOutcome). u.answer) (unpack_planes_read p ps work body n ea)) ∙ e))

not_3 : {X : Type 0} → PlaneRefusal 3 → X
not_3 n = absurd (⊎_elim (λ e. omega arith) (⊎_elim (λ e. omega arith) (⊎_elim (λ e. omega arith) (λ e. omega arith))) n)

-- ---- a picture

not_refused_3 : {X : Type 0} (r : ℕ) → (r ≡ 3 → ⊥) → refused r ≡ refused 3 → X
not_refused_3 r h e = let z : r ≡ 3 = cc in absurd (h z)

module _ (form : PixelForm) (header : BitmapStreamHeader) (w h : ℕ) (valid : is_loss_level_invalid_of header.color_plane_definition ≡ false) where
  checks_not_3 : (body work image : ℕ) → check_picture form header w h body work image ≡ refused 3 → ⊥
  unfolding check_picture check_sides_of first_refusal_of
  checks_not_3 body work image e =
      go (eqb w 0 || eqb h 0) (ltb 8192 w || ltb 8192 h) (is_loss_level_invalid_of header.color_plane_definition) (ltb body (min_body_size_of header w h)) (ltb work (work_size_of form header w h)) (ltb image (image_size_of form w h)) valid e
    where
      go : (s t three four five six : Bool) → three ≡ false
          → choose s (refused 1) (choose t (refused 2) (choose three (refused 3) (choose four (refused 4) (choose five (refused 5) (choose six (refused 6) (counted (image_size_of form w h))))))) ≡ refused 3 → ⊥
      go true t three four five six r e = not_refused_3 1 (λ z. omega arith) e
      go false true three four five six r e = not_refused_3 2 (λ z. omega arith) e
      go false false true four five six r e = let z : ◌≡◌ {A = ℕ} 0 1 = cc in absurd (omega arith)
      go false false false true five six r e = not_refused_3 4 (λ z. omega arith) e
      go false false false false true six r e = not_refused_3 5 (λ z. omega arith) e
      go false false false false false true r e = not_refused_3 6 (λ z. omega arith) e
      go false false false false false false r e = refused_not_counted (sym e)

  pub picture_not_3 : (body work image : List ℕ) → (unpack_to form header w h body work image).answer ≡ refused 3 → ⊥
  unfolding unpack_rle unpack_raw write_image image_from_work
  picture_not_3 body work image e = by_checks (check_picture form header w h (length body) (length work) (length image)) refl
    where
      planes : (u : PlanesOutcome) → (u.answer ≡ refused 3 → ⊥) → (image_from_work form header w h u.work image u.answer).answer ≡ refused 3 → ⊥
      planes u k e = go u.answer k e
        where
          go : (a : Answer) → (a ≡ refused 3 → ⊥) → (image_from_work form header w h u.work image a).answer ≡ refused 3 → ⊥
          go (counted n) k e = refused_not_counted (sym e)
          go (refused r) k e = k e

      read : (n : ℕ) → check_picture form header w h (length body) (length work) (length image) ≡ counted n → (b : Bool) → header.enable_rle_compression ≡ b → ⊥
      read n et true eb =
          planes (unpack_planes (planes_with_alpha_at (alpha_offset_of form header w h) header w h) work body) (λ z. not_3 (planes_number (planes_with_alpha_at (alpha_offset_of form header w h) header w h) work body 3 z))
          (sym (ap (λ (p : PictureOutcome). p.answer) (unpack_to_rle form header w h body work image n et eb)) ∙ e)
      read n et false eb = refused_not_counted (sym (sym (ap (λ (p : PictureOutcome). p.answer) (unpack_to_raw form header w h body work image n et eb)) ∙ e))

      by_checks : (a : Answer) → check_picture form header w h (length body) (length work) (length image) ≡ a → ⊥
      by_checks (refused r) et =
          let same : refused r ≡ refused 3 = sym (ap (λ (p : PictureOutcome). p.answer) (unpack_to_refused form header w h body work image r et)) ∙ e in
          checks_not_3 (length body) (length work) (length image) (et ∙ same)
      by_checks (counted n) et = read n et header.enable_rle_compression refl

-- ---- a stream

pub stream_not_3 : (form : PixelForm) (w h : ℕ) (stream work image : List ℕ) → (unpack_stream_to form w h stream work image).answer ≡ refused 3 → ⊥
unfolding unpack_stream_by split_stream_of unpack_split split_rest
stream_not_3 form w h [] work image e = not_refused_3 13 (λ z. omega arith) e
stream_not_3 form w h (byte ∷ rest) work image e = go (header_from_byte_of byte).enable_rle_compression rest e
  where
    go : (rle : Bool) (rest : List ℕ) → (unpack_split (λ (header : BitmapStreamHeader) (body : List ℕ). unpack_to form header w h body work image) work image (split_rest (header_from_byte_of byte) rle rest)).answer ≡ refused 3 → ⊥
    go true rest e = picture_not_3 form (header_from_byte_of byte) w h (read_level_valid byte) _ work image e
    go false [] e = not_refused_3 14 (λ z. omega arith) e
    go false (b ∷ rest) e = picture_not_3 form (header_from_byte_of byte) w h (read_level_valid byte) _ work image e
