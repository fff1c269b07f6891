-- The header byte written in front of a body, which was packed into what follows the first byte of the destination. An empty destination has
-- no first byte: the body is then packed into all of it, and refused.
use mathlib.Core.Path.{◌≡◌, refl, sym, ap, ◌∙◌}
use mathlib.Core.Bool.{Bool}
use mathlib.Core.List.{List, [], ◌∷◌, ◌++◌}
use Prim.Native.Nat.{ℕ, ◌+◌, ◌-◌, ◌≤◌, ◌<◌}
use native.Mathlib.Nat.{add_comm}
use native.Mathlib.Omega.{arith}
use lib.ListN.{length, take, set, length-drop}
use Rattle.std.specs.Prelude.{min, Result, Ok, Err}
use Rattle.rle_format.specs.declared.Refusal.{Refusal}
use Rattle.rle_format.specs.Answer.{Answer, counted, refused, Outcome, number}
use Rattle.rle_format.specs.Slice.{overwrite}
use Rattle.rle_format.proofs.Slice.{suffix, replace_suffix, suffix_drop, replace_suffix-append, length-replace_suffix}
use Rattle.bitmap_format.specs.declared.BitmapStreamHeader.{BitmapStreamHeader}
use Rattle.bitmap_format.specs.declared.Encoded.{Encoded}
use Rattle.bitmap_format.specs.HeaderByte.{header_to_byte_of}
use Rattle.bitmap_format.specs.PackPicture.{EncodedAnswer, encoded_count, encoded_refusal, with_header, encoded_to_answer, check_pack, pack_picture, header_to_send_of}
use Rattle.bitmap_format.specs.Stream.{StreamOutcome, with_header_byte, empty_destination, pack_stream, pack_picture_stream}
use Rattle.bitmap_format.proofs.PackRoom.{pack_picture_within}
use Rattle.bitmap_format.proofs.EmptyDestination.{no_room}

-- the destination and the answer, from the answer of packing the body; `dst` has the body from its second byte on
abbrev pub header_written : EncodedAnswer → (dst : List ℕ) → StreamOutcome
header_written (encoded_count n header) dst = record { slice = set dst 0 (header_to_byte_of header); answer = counted (n + 1) }
header_written (encoded_refusal r) dst = record { slice = dst; answer = refused r }

-- any packer that returns `header`, answers at most its room, and refuses as it must without any
module _ (header : BitmapStreamHeader) (checked : Answer) (pack : ℕ → Outcome) (within : (room m : ℕ) → (pack room).answer ≡ counted m → m ≤ room)
    (none : (pack 0).answer ≡ empty_destination checked) where
  -- d is the destination before the call, ys what follows its first byte afterwards, e the answer of the packer
  byte_written : (first : ℕ) (rest ys : List ℕ) (e : EncodedAnswer) → e ≡ with_header header (pack (length (suffix (first ∷ rest) 1))).answer
      → ys ≡ overwrite (suffix (first ∷ rest) 1) (pack (length (suffix (first ∷ rest) 1))).written
      → header_written e (replace_suffix (first ∷ rest) 1 ys) ≡ pack_stream header checked pack (first ∷ rest)
  unfolding pack_stream with_header_byte
  byte_written first rest ys e es ey =
      let d : List ℕ = first ∷ rest in
      let part : suffix d 1 ≡ rest = suffix_drop d 1 in
      let answered : e ≡ with_header header (pack (length rest)).answer = es ∙ ap (λ (l : List ℕ). with_header header (pack (length l)).answer) part in
      let back : replace_suffix d 1 ys ≡ first ∷ overwrite rest (pack (length rest)).written =
      replace_suffix-append d ys 1 ∙ ap (λ (l : List ℕ). first ∷ l) (ey ∙ ap (λ (l : List ℕ). overwrite l (pack (length l)).written) part) in
      (λ i. header_written (answered i) (back i)) ∙ by_answer (pack (length rest)).answer
    where
      by_answer : (a : Answer) → header_written (with_header header a) (first ∷ overwrite rest (pack (length rest)).written) ≡ with_header_byte header first rest (pack (length rest)).written a
      by_answer (counted n) = λ i. record { slice = header_to_byte_of header ∷ overwrite rest (pack (length rest)).written; answer = counted (add_comm n 1 i) }
      by_answer (refused r) = refl

  -- nothing is packed into no bytes
  none_packed : (e : EncodedAnswer) → e ≡ with_header header (pack 0).answer → (n : ℕ) (h : BitmapStreamHeader) → e ≡ encoded_count n h → ⊥
  none_packed e es n h en = by_answer checked (sym en ∙ es ∙ ap (with_header header) none)
    where
      by_answer : (a : Answer) → encoded_count n h ≡ with_header header (empty_destination a) → ⊥
      by_answer (counted m) e = absurd cc
      by_answer (refused r) e = absurd cc

  module _ (e : Result Encoded Refusal) where
    into_none : (ys : List ℕ) → length ys ≡ 0 → encoded_to_answer e ≡ with_header header (pack 0).answer
        → (header_written (encoded_to_answer e) ys ≡ pack_stream header checked pack []) × ((b : Encoded) → e ≡ Ok b → b.bytes < length ys)
    unfolding pack_stream
    into_none (y ∷ ys) z es = absurd (omega arith)
    into_none [] z es = (empty checked (es ∙ ap (with_header header) none), λ b eb. absurd (none_packed (encoded_to_answer e) es b.bytes b.header (ap encoded_to_answer eb)))
      where
        empty : (a : Answer) → encoded_to_answer e ≡ with_header header (empty_destination a) → header_written (encoded_to_answer e) [] ≡ record { slice = []; answer = empty_destination a }
        empty (counted m) e = ap (λ (x : EncodedAnswer). header_written x []) e
        empty (refused r) e = ap (λ (x : EncodedAnswer). header_written x []) e

    into_some : (first : ℕ) (rest ys : List ℕ) → length ys ≡ length (suffix (first ∷ rest) 1) → encoded_to_answer e ≡ with_header header (pack (length (suffix (first ∷ rest) 1))).answer
        → ys ≡ overwrite (suffix (first ∷ rest) 1) (pack (length (suffix (first ∷ rest) 1))).written
        → (header_written (encoded_to_answer e) (replace_suffix (first ∷ rest) 1 ys) ≡ pack_stream header checked pack (first ∷ rest))
        × ((b : Encoded) → e ≡ Ok b → b.bytes < length (replace_suffix (first ∷ rest) 1 ys))
    into_some first rest ys kept es ey =
        let d : List ℕ = first ∷ rest in
        let same : length (replace_suffix d 1 ys) ≡ length d = length-replace_suffix d ys 1 kept in
        let part : length (suffix d 1) ≡ length d - 1 = ap length (suffix_drop d 1) ∙ length-drop 1 d in
        (byte_written first rest ys (encoded_to_answer e) es ey, λ b eb. by_answer (pack (length (suffix d 1))).answer refl b eb same part)
      where
        by_answer : (a : Answer) → (pack (length (suffix (first ∷ rest) 1))).answer ≡ a → (b : Encoded) → e ≡ Ok b
            → length (replace_suffix (first ∷ rest) 1 ys) ≡ length (first ∷ rest) → length (suffix (first ∷ rest) 1) ≡ length (first ∷ rest) - 1 → b.bytes < length (replace_suffix (first ∷ rest) 1 ys)
        by_answer (refused r) ea b eb same part =
            let z : encoded_count b.bytes b.header ≡ encoded_refusal r = sym (ap encoded_to_answer eb) ∙ es ∙ ap (with_header header) ea in
            absurd cc
        by_answer (counted m) ea b eb same part =
            let z : encoded_count b.bytes b.header ≡ encoded_count m header = sym (ap encoded_to_answer eb) ∙ es ∙ ap (with_header header) ea in
            let nm : b.bytes ≡ m = cc in
            omega (arith, within (length (suffix (first ∷ rest) 1)) m ea)

    into_rest : (d ys : List ℕ) (start : ℕ) → start ≡ min 1 (length d) → length ys ≡ length (suffix d start) → encoded_to_answer e ≡ with_header header (pack (length (suffix d start))).answer
        → ys ≡ overwrite (suffix d start) (pack (length (suffix d start))).written
        → (header_written (encoded_to_answer e) (replace_suffix d start ys) ≡ pack_stream header checked pack d) × ((b : Encoded) → e ≡ Ok b → b.bytes < length (replace_suffix d start ys))
    into_rest [] ys start is kept es ey =
        let s : suffix [] start ≡ [] = ap (suffix []) is in
        let r : replace_suffix [] start ys ≡ ys = replace_suffix-append [] ys start ∙ ap (λ (k : ℕ). take k [] ++ ys) is in
        let all = into_none ys (kept ∙ ap length s) (es ∙ ap (λ (l : List ℕ). with_header header (pack (length l)).answer) s) in
        (ap (header_written (encoded_to_answer e)) r ∙ all.0, λ b eb. let f = all.1 b eb in omega (arith, ap length r))
    into_rest (first ∷ rest) ys start is kept es ey =
        let one : start ≡ 1 = is ∙ least (length (first ∷ rest)) (omega arith) in
        let s = ap (suffix (first ∷ rest)) one in
        let r = ap (λ (k : ℕ). replace_suffix (first ∷ rest) k ys) one in
        let all = into_some first rest ys (kept ∙ ap length s) (es ∙ ap (λ (l : List ℕ). with_header header (pack (length l)).answer) s)
        (ey ∙ ap (λ (l : List ℕ). overwrite l (pack (length l)).written) s) in
        (ap (header_written (encoded_to_answer e)) r ∙ all.0, λ b eb. let f = all.1 b eb in omega (arith, ap length r))
      where
        least : (n : ℕ) → 1 ≤ n → min 1 n ≡ 1
        least n l = omega (arith, l)

-- ---- the packers of pictures: d is the destination before the call, ys what follows `start` afterwards, e the answer of packing the body

module _ (alpha rle : Bool) (w h : ℕ) (p : List ℕ) (planes : List (List ℕ)) (d ys : List ℕ) (start : ℕ) (is : start ≡ min 1 (length d)) (e : Result Encoded Refusal)
    (kept : length ys ≡ length (suffix d start))
    (es : encoded_to_answer e ≡ with_header (header_to_send_of alpha rle) (pack_picture rle w h (length (suffix d start)) (p ∷ planes)).answer)
    (ey : ys ≡ overwrite (suffix d start) (pack_picture rle w h (length (suffix d start)) (p ∷ planes)).written) where
  both : (header_written (encoded_to_answer e) (replace_suffix d start ys) ≡ pack_picture_stream alpha rle w h (p ∷ planes) d)
      × ((b : Encoded) → e ≡ Ok b → b.bytes < length (replace_suffix d start ys))
  both =
      into_rest (header_to_send_of alpha rle) (check_pack w h (p ∷ planes)) (λ (room : ℕ). pack_picture rle w h room (p ∷ planes))
      (λ room m e. pack_picture_within rle w h room (p ∷ planes) m e) (no_room w h p planes rle) e d ys start is kept es ey

  -- a refusal keeps the first byte
  pub stream_refused : (r : Refusal) → e ≡ Err r
      → (refused (number r) ≡ (pack_picture_stream alpha rle w h (p ∷ planes) d).answer) × (replace_suffix d start ys ≡ (pack_picture_stream alpha rle w h (p ∷ planes) d).slice)
  stream_refused r er =
      let is = sym (ap (λ (x : Result Encoded Refusal). header_written (encoded_to_answer x) (replace_suffix d start ys)) er) ∙ both.0 in
      (ap (λ (o : StreamOutcome). o.answer) is, ap (λ (o : StreamOutcome). o.slice) is)

  module _ (b : Encoded) (eb : e ≡ Ok b) where
    -- the count of the header byte fits too
    pub stream_fits : b.bytes < length (replace_suffix d start ys)
    stream_fits = both.1 b eb

    pub stream_written : (counted (b.bytes + 1) ≡ (pack_picture_stream alpha rle w h (p ∷ planes) d).answer)
        × (set (replace_suffix d start ys) 0 (header_to_byte_of b.header) ≡ (pack_picture_stream alpha rle w h (p ∷ planes) d).slice)
    stream_written =
        let is = sym (ap (λ (x : Result Encoded Refusal). header_written (encoded_to_answer x) (replace_suffix d start ys)) eb) ∙ both.0 in
        (ap (λ (o : StreamOutcome). o.answer) is, ap (λ (o : StreamOutcome). o.slice) is)

-- the outcome of a call is that of a call with equal sides
pub same_sides : (alpha rle : Bool) (planes : List (List ℕ)) (d : List ℕ) (w h v u : ℕ) (answer : Answer) (slice : List ℕ)
    → (answer ≡ (pack_picture_stream alpha rle v u planes d).answer) × (slice ≡ (pack_picture_stream alpha rle v u planes d).slice) → v ≡ w → u ≡ h
    → (answer ≡ (pack_picture_stream alpha rle w h planes d).answer) × (slice ≡ (pack_picture_stream alpha rle w h planes d).slice)
same_sides alpha rle planes d w h v u answer slice is ew eh = (
  is.0 ∙ (λ i. (pack_picture_stream alpha rle (ew i) (eh i) planes d).answer),
  is.1 ∙ (λ i. (pack_picture_stream alpha rle (ew i) (eh i) planes d).slice),
)
