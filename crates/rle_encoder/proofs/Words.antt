-- A word of flags. The trailing zeros of the word that has a 1 for each flag that is not v tell the first of these.
use Rattle.std.proofs.Common.{◌≡◌, ℕ, zero, suc, ◌+◌, ◌-◌, ◌*◌, ◌/◌, ◌%◌, ◌<◌, ◌≤◌, List, [], ◌∷◌, length, get_or, take, drop, replicate, get_or-take, get_or-drop, w64, refl, ap, ◌∙◌, arith}
use lib.Count.{count_trailing_zeros}
use Rattle.std.specs.Int.{from_le_bytes}
use Rattle.rle_encoder.specs.RunFlags.{Bits, word_of, flag_word}

-- eight flags, read as an array
pub eight_as_word : (flags bytes : List ℕ) (at : ℕ) → bytes ≡ take (at + 8 - at) (drop at flags) → from_le_bytes w64 bytes ≡ flag_word flags at
unfolding flag_word
eight_as_word flags bytes at e =
    let each : (i : ℕ) → i < 8 → get_or bytes i 0 ≡ get_or flags (at + i) 0 =
    λ i l. ap (λ (l : List ℕ). get_or l i 0) e ∙ get_or-take (at + 8 - at) (drop at flags) i 0 (omega arith) ∙ get_or-drop at flags i 0 in
    let first : at + 0 ≡ at = omega arith in
    let none : get_or bytes 0 0 ≡ get_or flags at 0 = each 0 (omega arith) ∙ ap (λ (k : ℕ). get_or flags k 0) first in
    omega (arith, none, each 1 (omega arith), each 2 (omega arith), each 3 (omega arith), each 4 (omega arith), each 5 (omega arith), each 6 (omega arith), each 7 (omega arith))

-- ---- trailing zeros

even : (k n m : ℕ) → n ≡ 2 * m → count_trailing_zeros (suc k) n ≡ suc (count_trailing_zeros k m)
unfolding count_trailing_zeros
even k n m e =
    let low : n % 2 ≡ 0 = omega arith in
    let half : n / 2 ≡ m = omega arith in
    rw (low, half)

odd : (k n : ℕ) → n % 2 ≡ 1 → count_trailing_zeros (suc k) n ≡ 0
unfolding count_trailing_zeros
odd k n e = rw e

-- eight bits for each byte
abbrev pub bits : ℕ → ℕ
bits zero = zero
bits (suc k) = suc (suc (suc (suc (suc (suc (suc (suc (bits k))))))))

byte_zero : (k w : ℕ) → count_trailing_zeros (bits (suc k)) (256 * w) ≡ 8 + count_trailing_zeros (bits k) w
byte_zero k w =
    let b : ℕ = bits k in
    even (suc (suc (suc (suc (suc (suc (suc b))))))) (256 * w) (128 * w) (omega arith)
    ∙ ap suc (even (suc (suc (suc (suc (suc (suc b)))))) (128 * w) (64 * w) (omega arith))
    ∙ ap (λ (t : ℕ). suc (suc t)) (even (suc (suc (suc (suc (suc b))))) (64 * w) (32 * w) (omega arith))
    ∙ ap (λ (t : ℕ). suc (suc (suc t))) (even (suc (suc (suc (suc b)))) (32 * w) (16 * w) (omega arith))
    ∙ ap (λ (t : ℕ). suc (suc (suc (suc t)))) (even (suc (suc (suc b))) (16 * w) (8 * w) (omega arith))
    ∙ ap (λ (t : ℕ). suc (suc (suc (suc (suc t))))) (even (suc (suc b)) (8 * w) (4 * w) (omega arith))
    ∙ ap (λ (t : ℕ). suc (suc (suc (suc (suc (suc t)))))) (even (suc b) (4 * w) (2 * w) (omega arith))
    ∙ ap (λ (t : ℕ). suc (suc (suc (suc (suc (suc (suc t))))))) (even b (2 * w) w refl)
    ∙ omega arith

-- ---- the first flag that is set

pub record First (xs : List ℕ) (t : ℕ) : Type 0 where
  pub within : t < length xs
  pub set : get_or xs t 0 ≡ 1
  pub before : (j : ℕ) → j < t → get_or xs j 0 ≡ 0

pub lowest_first : (xs : List ℕ) → Bits xs 0 (length xs) → 0 < word_of xs → First xs (count_trailing_zeros (bits (length xs)) (word_of xs) / 8)
lowest_first [] h p = absurd (omega arith)
lowest_first (zero ∷ xs) h p =
    let w : ℕ = word_of xs in
    let ih = lowest_first xs (λ j f l. h (suc j) (omega arith) (omega arith)) (omega arith) in
    let t : ℕ = count_trailing_zeros (bits (length xs)) w in
    let whole : 0 + 256 * w ≡ 256 * w = omega arith in
    let place : count_trailing_zeros (bits (suc (length xs))) (0 + 256 * w) / 8 ≡ suc (t / 8) =
    ap (λ (n : ℕ). count_trailing_zeros (bits (suc (length xs))) n / 8) whole ∙ ap (λ (n : ℕ). n / 8) (byte_zero (length xs) w) ∙ omega arith in
    rw place
    record {
      within = omega (arith, ih.within);
      set = ih.set;
      before = later t ih;
    }
  where
    later : (t : ℕ) → First xs (t / 8) → (j : ℕ) → j < suc (t / 8) → get_or (zero ∷ xs) j 0 ≡ 0
    later t ih zero l = refl
    later t ih (suc j) l = ih.before j (omega arith)
lowest_first (suc zero ∷ xs) h p =
    let w : ℕ = word_of xs in
    let none : count_trailing_zeros (bits (suc (length xs))) (1 + 256 * w) / 8 ≡ 0 = ap (λ (n : ℕ). n / 8) (odd (suc (suc (suc (suc (suc (suc (suc (bits (length xs))))))))) (1 + 256 * w) (omega arith)) ∙ omega arith in
    rw none
    record {
      within = omega arith;
      set = refl;
      before = λ j l. absurd (omega arith);
    }
lowest_first (suc (suc x) ∷ xs) h p = absurd (omega (arith, h 0 (omega arith) (omega arith)))

-- a word that is 0 has no flag that is set
pub none_set : (xs : List ℕ) → word_of xs ≡ 0 → (j : ℕ) → j < length xs → get_or xs j 0 ≡ 0
none_set [] e j l = absurd (omega arith)
none_set (x ∷ xs) e zero l = omega arith
none_set (x ∷ xs) e (suc j) l = none_set xs (omega arith) j (omega arith)

-- ---- the flags that are not v

abbrev pub flipped : List ℕ → List ℕ
flipped [] = []
flipped (x ∷ xs) = (1 - x) ∷ flipped xs

pub flipped_at : (xs : List ℕ) (j : ℕ) → j < length xs → get_or (flipped xs) j 0 ≡ 1 - get_or xs j 0
flipped_at [] j l = absurd (omega arith)
flipped_at (x ∷ xs) zero l = refl
flipped_at (x ∷ xs) (suc j) l = flipped_at xs j (omega arith)

pub flipped_word : (xs : List ℕ) → Bits xs 0 (length xs) → word_of xs + word_of (flipped xs) ≡ word_of (replicate (length xs) 1)
flipped_word [] h = refl
flipped_word (x ∷ xs) h = omega (arith, h 0 (omega arith) (omega arith), flipped_word xs (λ j f l. h (suc j) (omega arith) (omega arith)))

-- a 1 for each flag that is not v
abbrev pub others_of : (v : ℕ) → List ℕ → List ℕ
others_of zero xs = xs
others_of (suc v) xs = flipped xs

length_flipped : (xs : List ℕ) → length (flipped xs) ≡ length xs
length_flipped [] = refl
length_flipped (x ∷ xs) = ap suc (length_flipped xs)

module _ (v : ℕ) (small : v ≤ 1) (xs : List ℕ) (known : Bits xs 0 (length xs)) where
  pub length_others : length (others_of v xs) ≡ length xs
  length_others = go v
    where
      go : (v : ℕ) → length (others_of v xs) ≡ length xs
      go zero = refl
      go (suc v) = length_flipped xs

  -- which one is not v, and which is
  pub others_at : (j : ℕ) → j < length xs → (get_or (others_of v xs) j 0 ≤ 1) × (get_or (others_of v xs) j 0 ≡ 0 → get_or xs j 0 ≡ v) × (get_or (others_of v xs) j 0 ≡ 1 → get_or xs j 0 ≡ 1 - v)
  others_at j l = go v small
    where
      go : (v : ℕ) → v ≤ 1 → (get_or (others_of v xs) j 0 ≤ 1) × (get_or (others_of v xs) j 0 ≡ 0 → get_or xs j 0 ≡ v) × (get_or (others_of v xs) j 0 ≡ 1 → get_or xs j 0 ≡ 1 - v)
      go zero s = (omega (arith, known j (omega arith) l), λ e. e, λ e. e)
      go (suc zero) s =
          let f = flipped_at xs j l in
          let b = known j (omega arith) l in
          (omega arith, λ e. omega arith, λ e. omega arith)
      go (suc (suc v)) s = absurd (omega arith)

  pub others_bits : Bits (others_of v xs) 0 (length (others_of v xs))
  others_bits j f l = (others_at j (omega (arith, length_others))).0

  pub others_word : (w : ℕ) → (v ≡ 0 → w ≡ word_of xs) × (v ≡ 1 → w + word_of xs ≡ word_of (replicate (length xs) 1)) → w ≡ word_of (others_of v xs)
  others_word w is = go v small is
    where
      go : (v : ℕ) → v ≤ 1 → (v ≡ 0 → w ≡ word_of xs) × (v ≡ 1 → w + word_of xs ≡ word_of (replicate (length xs) 1)) → w ≡ word_of (others_of v xs)
      go zero s is = is.0 refl
      go (suc zero) s is = omega (arith, is.1 refl, flipped_word xs known)
      go (suc (suc v)) s is = absurd (omega arith)

-- no word is greater than that of flags that are all set
pub word_at_most : (xs : List ℕ) → Bits xs 0 (length xs) → word_of xs ≤ word_of (replicate (length xs) 1)
word_at_most xs known = omega (arith, flipped_word xs known)
