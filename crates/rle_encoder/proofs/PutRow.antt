-- A row packed from run to run: the segments that are left, and the flags that are not overwritten yet.
use Rattle.std.proofs.Common.{◌≡◌, ℕ, ◌+◌, ◌-◌, ◌*◌, ◌/◌, ◌<◌, ◌≤◌, min, List, [], ◌++◌, length, get_or, take, drop, sym, ap, ◌∙◌, arith, length-drop, drop_of_length-le, length-take-le, get_or-drop, take_all}
use Rattle.rle_format.specs.Segment.{segments_bytes}
use Rattle.rle_format.specs.Pack.{split_segments, row_segments}
use Rattle.rle_format.proofs.Slice.{suffix, suffix_drop}
use Rattle.rle_format.proofs.PackingSize.{run_size_max, row_size_max}
use Rattle.rle_encoder.specs.RunFlags.{Flagged, Bits, AllAre}
use Rattle.rle_encoder.specs.Put.{SameFrom}
use Rattle.rle_encoder.proofs.Put.{PutHead, put_first}
use Rattle.rle_encoder.proofs.Steps.{part_of}
use Rattle.rle_encoder.proofs.Flagged.{some, row_raw, row_cut}

module _ (codes : List ℕ) (width : ℕ) (long : width ≤ length codes) where
  pub row_begins : (out : List ℕ) → width + width / 15 + 24 ≤ length out → PutHead (row_segments (take width codes)) (row_segments (drop 0 (take width codes))) out out 0 0
  row_begins out room = put_first (row_segments (take width codes)) out 0 (omega (arith, row_size_max (take width codes), length-take-le width codes long))

  pub row_over : (i : ℕ) → width ≤ i → row_segments (drop i (take width codes)) ≡ []
  unfolding row_segments
  row_over i h =
      let n : length (take width codes) ≤ i = omega (arith, length-take-le width codes long) in
      ap row_segments (drop_of_length-le (take width codes) {i = i} n)

  -- of the rest of the array, the first bytes are those of the row
  lent : (i n : ℕ) → i + n ≤ width → take n (drop i (take width codes)) ≡ take n (suffix codes i)
  lent i n h = part_of codes width 0 i long n h ∙ ap (take n) (sym (suffix_drop codes i))

  module _ (flags : List ℕ) (i : ℕ) (known : Flagged codes flags i width) where
    pub lent_raw : (p : ℕ) → i < width → AllAre 0 flags i p → width ≤ p + 3
        → row_segments (drop i (take width codes)) ≡ split_segments (take (width - i) (suffix codes i)) 0
    lent_raw p h clear near =
        let n = length-drop i (take width codes) in
        let all : take (width - i) (drop i (take width codes)) ≡ drop i (take width codes) =
        take_all (width - i) (drop i (take width codes)) (omega (arith, length-take-le width codes long)) in
        row_raw codes flags width long i known p h clear near ∙ ap (λ (l : List ℕ). split_segments l 0) (sym all ∙ lent i (width - i) (omega arith))

    pub lent_cut : (p e q : ℕ) → i ≤ p → p + 3 < width → AllAre 0 flags i p → get_or flags p 0 ≡ 1 → p ≤ e → e ≤ width + 7 → AllAre 1 flags p e
        → (e < width → get_or flags e 0 ≡ 0) → q ≡ min (e + 3) width
        → row_segments (drop i (take width codes)) ≡ split_segments (take (p + 1 - i) (suffix codes i)) (q - p - 1) ++ row_segments (drop q (take width codes))
    lent_cut p e q order far clear first behind most set last is =
        row_cut codes flags width long i known p e order far clear first behind most set last q is
        ∙ ap (λ (l : List ℕ). split_segments l (q - p - 1) ++ row_segments (drop q (take width codes))) (lent i (p + 1 - i) (omega arith))

    -- a run has at least three repeats
    pub cut_long : (p e q : ℕ) → i ≤ p → p + 3 < width → AllAre 0 flags i p → get_or flags p 0 ≡ 1 → p ≤ e → e ≤ width + 7 → AllAre 1 flags p e
        → (e < width → get_or flags e 0 ≡ 0) → q ≡ min (e + 3) width → 3 ≤ q - p - 1
    cut_long p e q order far clear first behind most set last is =
        omega (arith, some codes flags width long i known p e order far clear first behind most set last)

-- ---- the flags, which stand behind the segments in one array

-- the segments up to a run that ends at value q, and the 16 bytes behind them, end before flag q
pub below_flags : (width q to next : ℕ) (raw : List ℕ) (run i : ℕ) → 15 * to ≤ 16 * i → i + length raw + run ≡ q → 1 ≤ length raw → 3 ≤ run → q ≤ width
    → next ≡ to + length (segments_bytes (split_segments raw run)) → (15 * next ≤ 16 * q) × (next + 16 ≤ width / 15 + 16 + q)
below_flags width q to next raw run i few all some long within is =
    let most = run_size_max raw run some long in
    (omega (arith, most), omega (arith, most))

module _ (d₀ d : List ℕ) (from start q : ℕ) (same : SameFrom d₀ d from) (behind : from ≤ start + q) where
  flag_same : (j : ℕ) → q ≤ j → get_or (suffix d start) j 0 ≡ get_or (suffix d₀ start) j 0
  flag_same j h =
      let there : (l : List ℕ) → get_or (suffix l start) j 0 ≡ get_or l (start + j) 0 = λ l. ap (λ (k : List ℕ). get_or k j 0) (suffix_drop l start) ∙ get_or-drop start l j 0 in
      there d ∙ same (start + j) (omega arith) ∙ sym (there d₀)

  pub flagged_same : (codes : List ℕ) (i to : ℕ) → i ≤ q → Flagged codes (suffix d₀ start) i to → Flagged codes (suffix d start) q to
  flagged_same codes i to o known j f h = flag_same j f ∙ known j (omega arith) h

  pub bits_same : (i to : ℕ) → i ≤ q → Bits (suffix d₀ start) i to → Bits (suffix d start) q to
  bits_same i to o known j f h = rw (flag_same j f) (known j (omega arith) h)

-- the flags as the loop begins
module _ (packed : List ℕ) (start from : ℕ) (e : start ≡ from) where
  flags_there : suffix packed start ≡ drop from packed
  flags_there = suffix_drop packed start ∙ ap (λ (k : ℕ). drop k packed) e

  pub flagged_there : (codes : List ℕ) (i to : ℕ) → Flagged codes (drop from packed) i to → Flagged codes (suffix packed start) i to
  flagged_there codes i to known j f h = ap (λ (l : List ℕ). get_or l j 0) flags_there ∙ known j f h

  pub bits_there : (i to : ℕ) → Bits (drop from packed) i to → Bits (suffix packed start) i to
  bits_there i to known j f h = omega (arith, ap (λ (l : List ℕ). get_or l j 0) flags_there, known j f h)
