-- The numbers that a C function returns fit 64 bits. Assumes nothing.
use mathlib.Core.Path.{◌≡◌, refl, sym, ap, ◌∙◌}
use mathlib.Core.Bool.{Bool}
use mathlib.Core.List.{List}
use Prim.Native.Nat.{ℕ, zero, suc, ◌≤◌, ◌<◌}
use lib.ListN.{length}
use native.Mathlib.Omega.{arith}
use lib.IntN.{ℤ, pos, neg_ℤ}
use mir.Facts.{to_z-of_z}
use mir.Val.{SFits, to_z, of_z}
use mir.Syntax.{w64}
use Rattle.std.specs.Prelude.{Result, Ok}
use Rattle.rle_format.specs.declared.Refusal.{Refusal}
use Rattle.rle_format.specs.Answer.{Answer, counted, refused, to_answer}
use Rattle.bitmap_format.specs.declared.BitmapStreamHeader.{BitmapStreamHeader}
use Rattle.bitmap_format.specs.declared.Encoded.{Encoded}
use Rattle.bitmap_format.specs.PackPicture.{pack_picture, with_header, encoded_to_answer, drop_header}
use Rattle.bitmap_format.specs.Stream.{pack_picture_stream}
use Rattle.bitmap_format.proofs.PackRoom.{pack_picture_within}
use Rattle.bitmap_format.proofs.StreamCounts.{packed_stream_within}
use Rattle.rdp6.specs.Number.{c_number}

pub refusal_fits : (r : ℕ) → r ≤ 255 → SFits w64 (neg_ℤ (pos r))
refusal_fits zero h = record { sfits = omega arith }
refusal_fits (suc r) h = record { sfits = omega arith }

-- the number of an answer, read back from 64 bits
pub read_back : (n : ℤ) (a b : Answer) → SFits w64 (c_number a) → n ≡ c_number a → a ≡ b → to_z w64 (of_z w64 n) ≡ c_number b
read_back n a b f e is =
    let g : SFits w64 n = rw e f in
    to_z-of_z g ∙ e ∙ ap c_number is

-- ---- the answer of packing a picture

-- without the header record it is the definition's
pub answer_without_header : (e : Result Encoded Refusal) (header : BitmapStreamHeader) (a : Answer) → encoded_to_answer e ≡ with_header header a → drop_header (encoded_to_answer e) ≡ a
answer_without_header e header a t = ap drop_header t ∙ bare a
  where
    bare : (a : Answer) → drop_header (with_header header a) ≡ a
    bare (counted n) = refl
    bare (refused r) = refl

-- a picture that was packed has fewer bytes than any slice can have. `size` is its answer without the header record
pub encoded_count_max : (rle : Bool) (w h room : ℕ) (planes : List (List ℕ)) (e : Result Encoded Refusal) (size : Result ℕ Refusal) → to_answer size ≡ drop_header (encoded_to_answer e)
    → drop_header (encoded_to_answer e) ≡ (pack_picture rle w h room planes).answer → room < 9223372036854775808 → (n : ℕ) → size ≡ Ok n → n < 9223372036854775808
encoded_count_max rle w h room planes e size s t small n is =
    omega (arith, pack_picture_within rle w h room planes n (sym t ∙ sym s ∙ ap to_answer is))

-- ---- the answer of packing a stream

pub stream_count_max : (alpha rle : Bool) (w h : ℕ) (planes : List (List ℕ)) (dst : List ℕ) (p : Result ℕ Refusal) → to_answer p ≡ (pack_picture_stream alpha rle w h planes dst).answer
    → length dst < 9223372036854775808 → (n : ℕ) → p ≡ Ok n → n < 9223372036854775808
stream_count_max alpha rle w h planes dst p t small n is =
    omega (arith, packed_stream_within alpha rle w h planes dst n (sym t ∙ ap to_answer is))
