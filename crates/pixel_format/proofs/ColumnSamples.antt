-- The samples in a column of pixels: each is a byte of a word.
use Rattle.std.proofs.Common.{◌≡◌, ℕ, zero, suc, ◌+◌, ◌-◌, ◌*◌, ◌/◌, ◌%◌, ◌^◌, ◌≤◌, ◌<◌, List, [], ◌∷◌, ◌++◌, length, get_or, take, drop, refl, sym, ap, ◌∙◌, arith, length-drop}
use Rattle.std.proofs.Math.ListN.{get_or-append}
use mathlib.Core.Logic.{⊎_elim}
use Rattle.std.proofs.Math.Seq.{length-take-le}
use Rattle.std.proofs.lemmas.List.{get_or-take, get_or-drop, get_or-append_right}
use Rattle.std.proofs.lemmas.Grind.{same_number_lists}
use Rattle.rle_format.proofs.Cases.{le_or_gt}
use Rattle.rle_format.proofs.Slice.{suffix, replace_suffix, suffix_drop, length-replace_suffix}
use Rattle.pixel_format.specs.Column.{IsCopied}
use Rattle.std.specs.Int.{w32, from_le_bytes, to_le_bytes}
use Rattle.std.proofs.lemmas.Nat.{le_bytes_4}

-- the byte at an offset of the word of four bytes from index `at` on
module _ (p : List ℕ) (at w : ℕ) (h₀ : get_or p at 0 < 256) (h₁ : get_or p (at + 1) 0 < 256) (h₂ : get_or p (at + 2) 0 < 256) (h₃ : get_or p (at + 3) 0 < 256)
    (is : w ≡ from_le_bytes w32 (get_or p at 0 ∷ get_or p (at + 1) 0 ∷ get_or p (at + 2) 0 ∷ get_or p (at + 3) 0 ∷ [])) where
  small : (i : ℕ) → get_or (get_or p at 0 ∷ get_or p (at + 1) 0 ∷ get_or p (at + 2) 0 ∷ get_or p (at + 3) 0 ∷ []) i 0 < 256
  small zero = h₀
  small (suc zero) = h₁
  small (suc (suc zero)) = h₂
  small (suc (suc (suc zero))) = h₃
  small (suc (suc (suc (suc i)))) = omega arith

  bytes : to_le_bytes w32 w ≡ get_or p at 0 ∷ get_or p (at + 1) 0 ∷ get_or p (at + 2) 0 ∷ get_or p (at + 3) 0 ∷ []
  bytes = le_bytes_4 _ w refl small is

  pub byte_at_offset : (offset : ℕ) → offset < 4 → w / 2 ^ (8 * offset) % 256 ≡ get_or p (at + offset) 0
  byte_at_offset zero l =
      let one : w / 1 % 256 ≡ w % 256 = omega arith in
      let z : at ≡ at + 0 = omega arith in
      one ∙ ap (λ (b : List ℕ). get_or b 0 0) bytes ∙ ap (λ (n : ℕ). get_or p n 0) z
  byte_at_offset (suc zero) l = ap (λ (b : List ℕ). get_or b 1 0) bytes
  byte_at_offset (suc (suc zero)) l = ap (λ (b : List ℕ). get_or b 2 0) bytes
  byte_at_offset (suc (suc (suc zero))) l = ap (λ (b : List ℕ). get_or b 3 0) bytes
  byte_at_offset (suc (suc (suc (suc k)))) l = absurd (omega arith)

-- samples that are copied to the part behind those that are
pub copied_more : (s d ys tail : List ℕ) (from i n : ℕ) → i ≤ length d → n ≤ length ys → IsCopied s from d i → IsCopied s (from + i) ys n → IsCopied s from (take i d ++ (ys ++ tail)) (i + n)
copied_more s d ys tail from i n hd hy before part k h =
    let front = length-take-le i d hd in
    ⊎_elim
    (λ (l : k < i). get_or-append (take i d) (ys ++ tail) 0 k (omega arith) ∙ get_or-take i d k 0 l ∙ before k l)
    (λ (l : i < suc k).
    let at : from + i + (k - i) ≡ from + k = omega arith in
    get_or-append_right (take i d) (ys ++ tail) i k 0 front (omega arith) ∙ get_or-append ys tail 0 (k - i) (omega arith) ∙ part (k - i) (omega arith) ∙ ap (λ (m : ℕ). get_or s m 0) at)
    (le_or_gt (suc k) i)

-- the same where that part is all that is behind
pub suffix_copied : (s d ys : List ℕ) (from i n : ℕ) → i ≤ length d → length ys ≡ length (suffix d i) → n ≤ length (suffix d i) → IsCopied s from d i → IsCopied s (from + i) ys n → IsCopied s from (replace_suffix d i ys) (i + n)
suffix_copied s d ys from i n h e l = copied_more s d ys _ from i n h (omega arith)

-- a slice whose bytes are all copied
pub all_copied : (s d : List ℕ) (from n : ℕ) → n ≡ length d → from + n ≤ length s → IsCopied s from d n → d ≡ take n (drop from s)
all_copied s d from n e h is =
    let left = length-drop from s in
    let long : length (take n (drop from s)) ≡ n = length-take-le n (drop from s) (omega arith) in
    same_number_lists d (take n (drop from s)) (sym e ∙ sym long)
    (λ k l. is k (omega arith) ∙ sym (get_or-drop from s k 0) ∙ sym (get_or-take n (drop from s) k 0 (omega arith)))

-- three parts, each behind the one before, to the end
module _ (s d ys zs : List ℕ) (from i j k : ℕ) (room : from + length d ≤ length s) (first : i ≤ length d) (same : length ys ≡ length (suffix d i)) (second : j ≤ length (suffix d i))
    (same' : length zs ≡ length (suffix (replace_suffix d i ys) (i + j))) (third : k ≤ length (suffix (replace_suffix d i ys) (i + j))) (last : length (suffix (replace_suffix d i ys) (i + j)) < k + 1) where
  pub three_copied : IsCopied s from d i → IsCopied s (from + i) ys j → IsCopied s (from + (i + j)) zs k → replace_suffix (replace_suffix d i ys) (i + j) zs ≡ take (length d) (drop from s)
  three_copied one two three =
      let e : List ℕ = replace_suffix d i ys in
      let l : length e ≡ length d = length-replace_suffix d ys i same in
      let l' : length (replace_suffix e (i + j) zs) ≡ length e = length-replace_suffix e zs (i + j) same' in
      let left : length (suffix d i) ≡ length d - i = ap length (suffix_drop d i) ∙ length-drop i d in
      let left' : length (suffix e (i + j)) ≡ length e - (i + j) = ap length (suffix_drop e (i + j)) ∙ length-drop (i + j) e in
      let all = suffix_copied s e zs from (i + j) k (omega arith) same' third (suffix_copied s d ys from i j first same second one two) three in
      let whole : i + j + k ≡ length d = omega arith in
      all_copied s (replace_suffix e (i + j) zs) from (length d) (omega arith) room (λ m h. all m (omega arith))
