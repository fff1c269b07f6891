-- Packing a picture: the checks, and each body.
use mathlib.Core.Path.{◌≡◌, refl, sym, ap, ◌∙◌}
use mathlib.Core.Bool.{Bool, true, false, ◌||◌}
use mathlib.Core.List.{List, [], ◌∷◌}
use Prim.Native.Nat.{ℕ, ◌+◌, ◌*◌, ◌≤◌, ◌<◌}
use native.Mathlib.Omega.{arith}
use lib.ListN.{length, take, length-append}
use lib.Seq.{length-take-le}
use lib.Dec.{ltb}
use borrow.Author.Tests.{lt-ltb, le-ltb, ltb-false}
use Rattle.rle_format.specs.Answer.{counted, refused, refuse}
use Rattle.rle_format.specs.Pack.{write_segments}
use Rattle.rle_format.specs.Sides.{AllowedSides}
use Rattle.rle_format.proofs.Sides.{allowed_sides}
use Rattle.bitmap_format.specs.Checks.{check, first_refusal_of}
use Rattle.bitmap_format.specs.PackPicture.{picture_segments, raw_samples, raw_body, write_all_or_nothing, any_short, pack_checks, check_pack, pack_body, pack_picture}
use Rattle.bitmap_format.proofs.Checks.{no_checks, sides_passed, check_passed}

-- ---- sources that are long enough

module _ (n : ℕ) (p : List ℕ) (planes : List (List ℕ)) (h : any_short n (p ∷ planes) ≡ false) where
  pub first_long_enough : n ≤ length p
  unfolding any_short
  first_long_enough = ltb-false (length p) n (both (ltb (length p) n) (any_short n planes) h)
    where
      both : (s t : Bool) → (s || t) ≡ false → s ≡ false
      both true t e = e
      both false t e = refl

  pub rest_long_enough : any_short n planes ≡ false
  unfolding any_short
  rest_long_enough = both (ltb (length p) n) (any_short n planes) h
    where
      both : (s t : Bool) → (s || t) ≡ false → t ≡ false
      both true t e = let z : ◌≡◌ {A = ℕ} 0 1 = cc in absurd (omega arith)
      both false t e = e

-- ---- the raw body (FORMAT 7.4)

length-raw_samples : (n : ℕ) (planes : List (List ℕ)) → any_short n planes ≡ false → length (raw_samples n planes) ≡ length planes * n
unfolding raw_samples
length-raw_samples n [] h = omega arith
length-raw_samples n (p ∷ planes) h =
    let first = length-take-le n p (first_long_enough n p planes h) in
    let rest = length-raw_samples n planes (rest_long_enough n p planes h) in
    omega (arith, length-append (take n p) (raw_samples n planes))

pub length-raw_body : (n : ℕ) (planes : List (List ℕ)) → any_short n planes ≡ false → length (raw_body n planes) ≡ length planes * n + 1
unfolding raw_body
length-raw_body n planes h = omega (arith, length-append (raw_samples n planes) (0 ∷ []), length-raw_samples n planes h)

-- ---- the checks

module _ (w h : ℕ) (planes : List (List ℕ)) where
  -- where they refuse, nothing is written
  pub pack_picture_refused : (rle : Bool) (room k : ℕ) → check_pack w h planes ≡ refused k → pack_picture rle w h room planes ≡ refuse k
  unfolding pack_picture
  pack_picture_refused rle room k e = cc e

  -- where they pass, sides and sources are known
  pub record PackChecked (n : ℕ) : Type 0 where
    pub sides : AllowedSides w h
    pub long : any_short (w * h) planes ≡ false
    pub count : n ≡ w * h

  pub pack_checked : (n : ℕ) → check_pack w h planes ≡ counted n → PackChecked n
  unfolding check_pack
  pack_checked n e =
      let i = sides_passed w h n (first_refusal_of (pack_checks (w * h) planes) (counted (w * h))) e in
      let j = check_passed (check 11 (any_short (w * h) planes)) [] (counted (w * h)) n i.1 in
      let last : counted (w * h) ≡ counted n = sym (no_checks (counted (w * h))) ∙ j.1 in
      record { sides = allowed_sides w h i.0; long = j.0; count = cc }

-- ---- a picture that passes them

module _ (rle : Bool) (w h room n : ℕ) (planes : List (List ℕ)) (e : check_pack w h planes ≡ counted n) where
  pack_picture_body : pack_picture rle w h room planes ≡ pack_body rle w h room planes
  unfolding pack_picture
  pack_picture_body = cc e

  pub pack_picture_rle : rle ≡ true → pack_picture rle w h room planes ≡ write_segments (picture_segments w h planes) room
  unfolding pack_body
  pack_picture_rle t = pack_picture_body ∙ ap (λ (b : Bool). pack_body b w h room planes) t

  module _ (t : rle ≡ false) where
    pub pack_picture_all_or_nothing : pack_picture rle w h room planes ≡ write_all_or_nothing (raw_body (w * h) planes) room
    unfolding pack_body
    pack_picture_all_or_nothing = pack_picture_body ∙ ap (λ (b : Bool). pack_body b w h room planes) t

    pub pack_picture_raw : length (raw_body (w * h) planes) ≤ room
        → pack_picture rle w h room planes ≡ record { written = raw_body (w * h) planes; answer = counted (length (raw_body (w * h) planes)) }
    unfolding write_all_or_nothing
    pack_picture_raw fits = pack_picture_all_or_nothing ∙ rw (le-ltb room (length (raw_body (w * h) planes)) fits)

    pub pack_picture_no_room : room < length (raw_body (w * h) planes) → pack_picture rle w h room planes ≡ refuse 12
    unfolding write_all_or_nothing
    pack_picture_no_room small = pack_picture_all_or_nothing ∙ rw (lt-ltb room (length (raw_body (w * h) planes)) small)
