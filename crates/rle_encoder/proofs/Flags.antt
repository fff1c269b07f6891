-- What a word of eight flags says of them, and four words at a time; the flags of a row and those behind it.
use Rattle.std.proofs.Common.{◌≡◌, ℕ, zero, suc, ◌+◌, ◌-◌, ◌/◌, ◌<◌, ◌≤◌, Bool, true, false, ◌&&◌, eqb, List, ◌++◌, length, get_or, take, replicate, length-take-le, get_or-take, sym, refl, ap, ◌∙◌, ⊎_elim, arith, eq-eqb, ne_eqb}
use Rattle.std.proofs.lemmas.List.{get_or_append_left, get_or-append_right, get_or-replicate, length-replicate}
use lib.Count.{count_trailing_zeros}
use Rattle.rle_format.specs.Choice.{choose}
use Rattle.rle_format.proofs.Cases.{le_or_gt, eq_or_ne}
use Rattle.rle_encoder.specs.RunFlags.{four_equal_of, flag_at, Flagged, AllAre, Bits, word_of, eight_at, flag_word, OthersWord}
use Rattle.rle_encoder.proofs.Words.{First, lowest_first, none_set, others_of, length_others, others_at, others_bits, others_word, word_at_most, bits as bits_of}

-- ---- flags that are all the same

-- up to an index, and from there on
pub all_both : (v : ℕ) (flags : List ℕ) (from mid to : ℕ) → AllAre v flags from mid → AllAre v flags mid to → AllAre v flags from to
all_both v flags from mid to one two j h l = ⊎_elim (λ (k : mid ≤ j). two j k l) (λ (k : j < mid). one j h k) (le_or_gt mid j)

-- ---- a word

-- the first flag from `at` on that is not v is t further, and is o
abbrev pub Found : (v o : ℕ) (flags : List ℕ) (at t : ℕ) → Type 0
Found v o flags at t = (t ≤ 7) × AllAre v flags at (at + t) × (get_or flags (at + t) 0 ≡ o)

module _ (flags : List ℕ) (at : ℕ) where
  eight : (j : ℕ) → j < 8 → get_or (eight_at flags at) j 0 ≡ get_or flags (at + j) 0
  eight zero l = let e : at ≡ at + 0 = omega arith in ap (λ (k : ℕ). get_or flags k 0) e
  eight (suc zero) l = refl
  eight (suc (suc zero)) l = refl
  eight (suc (suc (suc zero))) l = refl
  eight (suc (suc (suc (suc zero)))) l = refl
  eight (suc (suc (suc (suc (suc zero))))) l = refl
  eight (suc (suc (suc (suc (suc (suc zero)))))) l = refl
  eight (suc (suc (suc (suc (suc (suc (suc zero))))))) l = refl
  eight (suc (suc (suc (suc (suc (suc (suc (suc j)))))))) l = absurd (omega arith)

  -- the first n of the eight flags
  eight_are : (v n : ℕ) → n ≤ 8 → ((j : ℕ) → j < n → get_or (eight_at flags at) j 0 ≡ v) → AllAre v flags at (at + n)
  eight_are v n m h j a l =
      let e : at + (j - at) ≡ j = omega arith in
      ap (λ (k : ℕ). get_or flags k 0) (sym e) ∙ sym (eight (j - at) (omega arith)) ∙ h (j - at) (omega arith)

  module _ (known : Bits flags at (at + 8)) where
    bits : Bits (eight_at flags at) 0 8
    bits j f l = rw (eight j l) (known (at + j) (omega arith) (omega arith))

    pub word_most : (w : ℕ) → w ≡ flag_word flags at → w ≤ 0x0101010101010101
    unfolding flag_word
    word_most w e = omega (arith, word_at_most (eight_at flags at) bits)

    module _ (v w : ℕ) (small : v ≤ 1) (is : OthersWord v flags at w) where
      word_is : w ≡ word_of (others_of v (eight_at flags at))
      unfolding flag_word
      word_is = others_word v small (eight_at flags at) bits w is

      at_each : (j : ℕ) → j < 8 → (get_or (others_of v (eight_at flags at)) j 0 ≤ 1) × (get_or (others_of v (eight_at flags at)) j 0 ≡ 0 → get_or (eight_at flags at) j 0 ≡ v) × (get_or (others_of v (eight_at flags at)) j 0 ≡ 1 → get_or (eight_at flags at) j 0 ≡ 1 - v)
      at_each j l = others_at v small (eight_at flags at) bits j l

      all_eight : length (others_of v (eight_at flags at)) ≡ 8
      all_eight = length_others v small (eight_at flags at) bits

      -- a word that is 0
      pub word_none : w ≡ 0 → AllAre v flags at (at + 8)
      word_none z =
          eight_are v 8 (omega arith)
          (λ j l. (at_each j l).1 (none_set (others_of v (eight_at flags at)) (sym word_is ∙ z) j (omega (arith, all_eight))))

      -- the first flag of another
      pub word_first : (t : ℕ) → (w ≡ 0 → ⊥) → t ≡ count_trailing_zeros 64 w / 8 → Found v (1 - v) flags at t
      word_first t z e =
          let first : First (others_of v (eight_at flags at)) (count_trailing_zeros 64 (word_of (others_of v (eight_at flags at))) / 8) =
          ap_bits (lowest_first (others_of v (eight_at flags at)) (others_bits v small (eight_at flags at) bits) (omega (arith, word_is))) in
          let place : t ≡ count_trailing_zeros 64 (word_of (others_of v (eight_at flags at))) / 8 = e ∙ ap (λ (k : ℕ). count_trailing_zeros 64 k / 8) word_is in
          found t (rw place first)
        where
          ap_bits : First (others_of v (eight_at flags at)) (count_trailing_zeros (bits_of (length (others_of v (eight_at flags at)))) (word_of (others_of v (eight_at flags at))) / 8) → First (others_of v (eight_at flags at)) (count_trailing_zeros 64 (word_of (others_of v (eight_at flags at))) / 8)
          ap_bits f = rw all_eight at f

          found : (t : ℕ) → First (others_of v (eight_at flags at)) t → Found v (1 - v) flags at t
          found t f =
              let few : t < 8 = omega (arith, f.within, all_eight) in
              (omega arith, eight_are v t (omega arith) (λ j l. (at_each j (omega arith)).1 (f.before j l)), sym (eight t few) ∙ (at_each t few).2 f.set)

-- ---- four words

-- four numbers whose sum is 0
all_zero : (a b c d : ℕ) → a + b + c + d ≡ 0 → (a ≡ 0) × (b ≡ 0) × (c ≡ 0) × (d ≡ 0)
all_zero a b c d e = (omega arith, omega arith, omega arith, omega arith)

module _ (flags : List ℕ) (at : ℕ) (known : Bits flags at (at + 32)) (v : ℕ) (small : v ≤ 1) where
  part : (k to : ℕ) → k ≤ 24 → at + k + 8 ≡ to → (w : ℕ) → OthersWord v flags (at + k) w → w ≡ 0 → AllAre v flags (at + k) to
  part k to h e w is z = rw (← e) (word_none flags (at + k) (λ j f l. known j (omega arith) (omega arith)) v w small is z)

  pub four_words_none : (a b c d : ℕ) → OthersWord v flags at a → OthersWord v flags (at + 8) b → OthersWord v flags (at + 16) c → OthersWord v flags (at + 24) d → a + b + c + d ≡ 0
      → AllAre v flags at (at + 32)
  four_words_none a b c d ea eb ec ed sum =
      let none = all_zero a b c d sum in
      all_both v flags at (at + 8) (at + 32) (word_none flags at (λ j f l. known j (omega arith) (omega arith)) v a small ea none.0)
      (all_both v flags (at + 8) (at + 16) (at + 32) (part 8 (at + 16) (omega arith) (omega arith) b eb none.1)
      (all_both v flags (at + 16) (at + 24) (at + 32) (part 16 (at + 24) (omega arith) (omega arith) c ec none.2) (part 24 (at + 32) (omega arith) (omega arith) d ed none.3)))

-- ---- what a flag says

module _ (a b c d : ℕ) where
  four_bit : four_equal_of a b c d ≤ 1
  unfolding four_equal_of
  four_bit = go (eqb a b && eqb a c && eqb a d)
    where
      go : (t : Bool) → choose t 1 0 ≤ 1
      go true = omega arith
      go false = omega arith

  pub four_set : four_equal_of a b c d ≡ 1 → (b ≡ a) × (c ≡ a) × (d ≡ a)
  unfolding four_equal_of
  four_set e =
      ⊎_elim
      (λ (p : a ≡ b).
      ⊎_elim
      (λ (q : a ≡ c).
      ⊎_elim
      (λ (r : a ≡ d). (sym p, sym q, sym r))
      (λ (r : a ≡ d → ⊥). let z : ◌≡◌ {A = ℕ} 0 1 = cc (eq-eqb a b p, eq-eqb a c q, ne_eqb a d r) in absurd (omega arith))
      (eq_or_ne a d))
      (λ (q : a ≡ c → ⊥). let z : ◌≡◌ {A = ℕ} 0 1 = cc (eq-eqb a b p, ne_eqb a c q) in absurd (omega arith))
      (eq_or_ne a c))
      (λ (p : a ≡ b → ⊥). let z : ◌≡◌ {A = ℕ} 0 1 = cc (ne_eqb a b p) in absurd (omega arith))
      (eq_or_ne a b)

  pub four_clear : four_equal_of a b c d ≡ 0 → b ≡ a → c ≡ a → d ≡ a → ⊥
  unfolding four_equal_of
  four_clear e p q r = let z : ◌≡◌ {A = ℕ} 0 1 = sym e ∙ rw (eq-eqb a b (sym p), eq-eqb a c (sym q), eq-eqb a d (sym r)) in absurd (omega arith)

-- ---- the flags of a row, and the eight behind them, which are cleared

pub row_bits : (codes flags eight rest : List ℕ) (width k : ℕ) → Flagged codes flags 0 width → width ≤ length flags → k ≡ 8 → eight ≡ replicate k 0 → Bits (take width flags ++ (eight ++ rest)) 0 (width + 8)
row_bits codes flags eight rest width k known long all clear j f h =
    let n : length (take width flags) ≡ width = length-take-le width flags long in
    let e : length eight ≡ 8 = ap length clear ∙ length-replicate k 0 ∙ all in
    ⊎_elim
    (λ (m : width ≤ j).
    let at : get_or (take width flags ++ (eight ++ rest)) j 0 ≡ 0 =
    get_or-append_right (take width flags) (eight ++ rest) width j 0 n m
    ∙ get_or_append_left eight rest 0 (j - width) (omega arith)
    ∙ ap (λ (l : List ℕ). get_or l (j - width) 0) clear
    ∙ get_or-replicate k (j - width) 0 0 (omega arith) in
    omega arith)
    (λ (m : j < width).
    let at : get_or (take width flags ++ (eight ++ rest)) j 0 ≡ flag_at codes j =
    get_or_append_left (take width flags) (eight ++ rest) 0 j (omega arith) ∙ get_or-take width flags j 0 m ∙ known j f m in
    omega (arith, four_bit (get_or codes j 0) (get_or codes (j + 1) 0) (get_or codes (j + 2) 0) (get_or codes (j + 3) 0)))
    (le_or_gt width j)
