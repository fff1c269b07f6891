-- Splitting a stream in the cases that the code tells apart: empty, RLE, raw of one byte, raw; unpacking it, and its work area.
use mathlib.Core.Path.{◌≡◌, refl, sym, ap, ◌∙◌}
use mathlib.Core.Bool.{Bool, true, false}
use mathlib.Core.List.{List, [], ◌∷◌, ◌++◌}
use Prim.Native.Nat.{ℕ, ◌-◌}
use native.Mathlib.Omega.{arith}
use lib.ListN.{length, take, length-append}
use lib.Seq.{take-append_seam}
use Rattle.std.specs.Prelude.{Option, Some, None, Ok, Err, ok_or, slice_get, MatchOption}
use Rattle.std.specs.List.{IsFirstAndRest, IsLastAndRest}
use Rattle.std.specs.Borrow.{Bor}
use Rattle.rle_format.specs.declared.Refusal.{Refusal}
use Rattle.rle_format.specs.declared.Refusal.TheVariants.{EmptyStream, MissingPad}
use Rattle.rle_format.specs.Answer.{Answer, number}
use Rattle.rle_format.specs.Sides.{check_sides_of}
use Rattle.rle_format.proofs.Sides.{are_sides_allowed, check_sides_refuses, allowed_sides, check_sides_passes}
use Rattle.bitmap_format.specs.declared.BitmapStreamHeader.{BitmapStreamHeader}
use Rattle.bitmap_format.specs.Pixels.{PixelForm}
use Rattle.bitmap_format.specs.Sizes.{work_size_of}
use Rattle.bitmap_format.specs.Picture.{PictureOutcome, refused_picture}
use Rattle.bitmap_format.specs.HeaderByte.{header_from_byte_of}
use Rattle.bitmap_format.specs.Stream.{split, split_refused, without_pad, split_rest, split_stream_of, unpack_split, unpack_stream_by, stream_work_size_of}
use Rattle.bitmap_stream.specs.declared.Split.{Split}
use Rattle.bitmap_stream.specs.Split.{split_of, body_of}

-- a contract for one outcome is the contract for an equal one
pub left_as : (p q : PictureOutcome) (a : Answer) (work image : List ℕ) → p ≡ q → (a ≡ q.answer) × ((work ≡ q.work) × (image ≡ q.image))
    → (a ≡ p.answer) × ((work ≡ p.work) × (image ≡ p.image))
left_as p q a work image e l = (
  l.0 ∙ sym (ap (λ (x : PictureOutcome). x.answer) e),
  (l.1.0 ∙ sym (ap (λ (x : PictureOutcome). x.work) e), l.1.1 ∙ sym (ap (λ (x : PictureOutcome). x.image) e)),
)

-- ---- a split stream

-- an empty stream has no first byte
pub no_first_byte : (stream : List ℕ) (o : Option (Bor ℕ × Bor (List ℕ))) (e : Refusal) → MatchOption o (length stream ≡ 0) (λ p. IsFirstAndRest stream p.0.now p.1.now)
    → Err e ≡ ok_or o EmptyStream → split_refused (number e) ≡ split_stream_of stream
unfolding split_stream_of
no_first_byte [] None e m is = let k : e ≡ EmptyStream = cc in ap (λ (r : Refusal). split_refused (number r)) k
no_first_byte (b ∷ rest) None e m is = absurd (omega (arith, m))
no_first_byte stream (Some p) e m is = absurd cc

module _ (stream : List ℕ) (first : ℕ) (rest : List ℕ) (s : IsFirstAndRest stream first rest) (header : BitmapStreamHeader) (eh : header ≡ header_from_byte_of first) where
  first_byte : (rle : Bool) → header.enable_rle_compression ≡ rle → split_stream_of stream ≡ split_rest header rle rest
  unfolding split_stream_of
  first_byte rle er =
      ap split_stream_of s.0
      ∙ (λ i. split_rest (sym eh i) (sym eh i).enable_rle_compression rest)
      ∙ ap (λ (t : Bool). split_rest header t rest) er

  pub split_rle : header.enable_rle_compression ≡ true → split header rest ≡ split_stream_of stream
  unfolding split_rest without_pad
  split_rle er = sym (first_byte true er)

  module _ (er : header.enable_rle_compression ≡ false) where
    -- a raw stream of one byte has no pad byte
    pub no_pad : (o : Option (Bor ℕ × Bor (List ℕ))) (e : Refusal) → MatchOption o (length rest ≡ 0) (λ p. IsLastAndRest rest p.0.now p.1.now)
        → Err e ≡ ok_or o MissingPad → split_refused (number e) ≡ split_stream_of stream
    unfolding split_rest
    no_pad None e m is = let k : e ≡ MissingPad = cc in ap (λ (r : Refusal). split_refused (number r)) k ∙ sym (first_byte false er ∙ none rest m)
      where
        none : (rest : List ℕ) → length rest ≡ 0 → split_rest header false rest ≡ split_refused 14
        none [] e = refl
        none (b ∷ rest) e = absurd (omega (arith, e))
    no_pad (Some p) e m is = absurd cc

    -- the last byte is the pad byte
    pub split_padded : (pad : ℕ) (body : List ℕ) → IsLastAndRest rest pad body → split header body ≡ split_stream_of stream
    unfolding split_rest without_pad
    split_padded pad body l = sym (first_byte false er ∙ ap (split_rest header false) l.0 ∙ without body)
      where
        take_front : (xs : List ℕ) → take (length (xs ++ (pad ∷ [])) - 1) (xs ++ (pad ∷ [])) ≡ xs
        take_front xs =
            let n : length (xs ++ (pad ∷ [])) - 1 ≡ length xs = omega (arith, length-append xs (pad ∷ [])) in
            ap (λ (k : ℕ). take k (xs ++ (pad ∷ []))) n ∙ take-append_seam xs (pad ∷ [])

        without : (body : List ℕ) → split_rest header false (body ++ (pad ∷ [])) ≡ split header body
        without [] = refl
        without (b ∷ body) = ap (split header) (take_front (b ∷ body))

-- the body begins behind the first byte, whatever follows it
pub body_behind : (stream : List ℕ) (first : ℕ) (rest body tail : List ℕ) → IsFirstAndRest stream first rest → rest ≡ body ++ tail → body ≡ body_of stream (length body)
body_behind stream first rest body tail s l =
    sym (ap (λ (xs : List ℕ). body_of xs (length body)) s.0 ∙ ap (take (length body)) l ∙ take-append_seam body tail)

-- ---- unpacking a split stream; u unpacks a body

module _ (u : BitmapStreamHeader → List ℕ → PictureOutcome) (work image stream : List ℕ) where
  pub split_body : (s : Split) → split_of (Ok s) ≡ split_stream_of stream → unpack_stream_by u work image stream ≡ u s.header s.body.now
  unfolding unpack_stream_by unpack_split
  split_body s e = ap (unpack_split u work image) (sym e)

  pub split_refused_lem : (q : Refusal) → split_of (Err q) ≡ split_stream_of stream → unpack_stream_by u work image stream ≡ refused_picture work image (number q)
  unfolding unpack_stream_by unpack_split
  split_refused_lem q e = ap (unpack_split u work image) (sym e)

-- ---- the work area

pub work_empty : (form : PixelForm) (w h : ℕ) (stream : List ℕ) → None ≡ slice_get stream 0
    → ◌≡◌ {A = ℕ} 0 (check_sides_of (λ (_ : ℕ). 0) w h (stream_work_size_of form w h stream))
unfolding stream_work_size_of
work_empty form w h (b ∷ rest) e = absurd cc
work_empty form w h [] e = go (are_sides_allowed w h) refl
  where
    go : (t : Bool) → are_sides_allowed w h ≡ t → ◌≡◌ {A = ℕ} 0 (check_sides_of (λ (_ : ℕ). 0) w h 0)
    go true et = sym (check_sides_passes (λ (_ : ℕ). 0) w h 0 (allowed_sides w h et))
    go false et = sym (check_sides_refuses 0 w h 0 et)

pub work_some : (form : PixelForm) (w h r : ℕ) (stream : List ℕ) (byte : ℕ) (header : BitmapStreamHeader) → Some byte ≡ slice_get stream 0 → header ≡ header_from_byte_of byte
    → r ≡ check_sides_of (λ (_ : ℕ). 0) w h (work_size_of form header w h) → r ≡ check_sides_of (λ (_ : ℕ). 0) w h (stream_work_size_of form w h stream)
unfolding stream_work_size_of
work_some form w h r [] byte header some eh e = absurd cc
work_some form w h r (b ∷ rest) byte header some eh e =
    let is : header ≡ header_from_byte_of b = eh ∙ ap header_from_byte_of cc in
    e ∙ ap (λ (x : BitmapStreamHeader). check_sides_of (λ (_ : ℕ). 0) w h (work_size_of form x w h)) is
