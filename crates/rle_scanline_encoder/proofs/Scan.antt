-- The scan of a row by its indices. The pending raw values are at `start` to `last`, the value after them is at `last` and
-- is repeated from there up to i.
use mathlib.Core.Path.{◌≡◌, refl, sym, ap, ◌∙◌}
use mathlib.Core.Logic.{⊎_elim}
use mathlib.Core.List.{List, [], ◌∷◌, ◌++◌}
use Prim.Native.Nat.{ℕ, suc, ◌+◌, ◌-◌, ◌≤◌, ◌<◌}
use native.Mathlib.Omega.{arith}
use native.Mathlib.Numerals.{add-one}
use borrow.Author.Tests.{le-leb, lt-leb}
use lib.ListN.{length, get_or, take, drop, replicate, length-take, length-drop, length-replicate, get_or-replicate, drop_of_length-le}
use lib.Seq.{drop-cons, drop-drop, take-add, take-suc, take_all, get_or-take, get_or-drop, ext_get_or}
use Rattle.rle_format.specs.Segment.{Segment}
use Rattle.rle_format.specs.Pack.{split_segments, scan_segments, row_segments}
use Rattle.rle_scanline_encoder.specs.RowEnd.{row_end_segments}
use Rattle.rle_format.proofs.Cases.{le_or_gt}
use Rattle.rle_format.proofs.SegmentSteps.{scan_segments-repeat, scan_segments_close, scan_segments_join, scan_segments_end_run, scan_segments_end_raw}

-- the segments that are still to be written
unfoldable pub scan : (codes : List ℕ) (start last i : ℕ) → List Segment
scan codes start last i = scan_segments (take (last - start) (drop start codes)) (get_or codes last 0) (i - last - 1) (drop i codes)

pub record Scanned (codes : List ℕ) (start last i : ℕ) : Type 0 where
  pub order : start ≤ last
  pub before : last < i
  pub within : i ≤ length codes
  pub same : (j : ℕ) → last ≤ j → j < i → get_or codes j 0 ≡ get_or codes last 0

-- ---- at the row's start

pub scan_start : (codes : List ℕ) → 1 ≤ length codes → row_segments codes ≡ scan codes 0 0 1
unfolding row_segments scan
scan_start [] h = absurd (omega arith)
scan_start (x ∷ xs) h = refl

pub scanned_start : (codes : List ℕ) → 1 ≤ length codes → Scanned codes 0 0 1
scanned_start codes h =
    record {
      order = omega arith;
      before = omega arith;
      within = h;
      same = λ j a b. let z : j ≡ 0 = omega arith in rw z;
    }

-- a value that starts anew at i
pub scanned_new : (codes : List ℕ) (start i : ℕ) → start ≤ i → i < length codes → Scanned codes start i (i + 1)
scanned_new codes start i o h =
    record {
      order = o;
      before = omega arith;
      within = omega arith;
      same = λ j a b. let z : j ≡ i = omega arith in rw z;
    }

-- ---- at the row's end

pub row_end_segments_run : (codes : List ℕ) (start last : ℕ) → 3 ≤ length codes - last - 1
    → row_end_segments codes start last ≡ split_segments (take (last + 1 - start) (drop start codes)) (length codes - last - 1)
row_end_segments_run codes start last h = rw (le-leb 3 (length codes - last - 1) h)

pub row_end_segments_raw : (codes : List ℕ) (start last : ℕ) → length codes - last - 1 < 3 → row_end_segments codes start last ≡ split_segments (drop start codes) 0
row_end_segments_raw codes start last h = rw (lt-leb 3 (length codes - last - 1) h)

-- ---- at an index of the scan

module _ (codes : List ℕ) (start last i : ℕ) (at : Scanned codes start last i) where
  -- the value and its repeats, as a part of the row
  repeats_are_run : take (i - last) (drop last codes) ≡ replicate (i - last) (get_or codes last 0)
  repeats_are_run =
      let n = at.before in
      let w = at.within in
      let d = length-drop last codes in
      let t = length-take (i - last) (drop last codes) in
      let r = length-replicate (i - last) (get_or codes last 0) in
      ext_get_or 0 (take (i - last) (drop last codes)) (replicate (i - last) (get_or codes last 0)) (omega arith)
      (λ j h.
      get_or-take (i - last) (drop last codes) j 0 (omega arith)
      ∙ get_or-drop last codes j 0
      ∙ at.same (last + j) (omega arith) (omega arith)
      ∙ sym (get_or-replicate (i - last) j (get_or codes last 0) 0 (omega arith)))

  -- the raw values that are pending, with the value and its repeats
  pending_with_repeats : take (last - start) (drop start codes) ++ get_or codes last 0 ∷ replicate (i - last - 1) (get_or codes last 0) ≡ take (i - start) (drop start codes)
  pending_with_repeats =
      let v = get_or codes last 0 in
      let o = at.order in
      let b = at.before in
      let n : i - last ≡ suc (i - last - 1) = omega arith in
      let m : i - start ≡ (last - start) + (i - last) = omega arith in
      let p : start + (last - start) ≡ last = omega arith in
      ap (λ (l : List ℕ). take (last - start) (drop start codes) ++ l)
      (ap (λ (k : ℕ). replicate k v) (sym n)
      ∙ sym repeats_are_run
      ∙ ap (λ (k : ℕ). take (i - last) (drop k codes)) (sym p)
      ∙ ap (take (i - last)) (sym (drop-drop (last - start) start codes)))
      ∙ sym (take-add (last - start) (i - last) (drop start codes))
      ∙ ap (λ (k : ℕ). take k (drop start codes)) (sym m)

  -- the raw values that are pending, with the value alone
  pending_with_value : take (last - start) (drop start codes) ++ get_or codes last 0 ∷ [] ≡ take (last + 1 - start) (drop start codes)
  pending_with_value =
      let o = at.order in
      let b = at.before in
      let w = at.within in
      let d = length-drop start codes in
      let p : start + (last - start) ≡ last = omega arith in
      let n : last + 1 - start ≡ suc (last - start) = omega arith in
      sym
      (ap (λ (k : ℕ). take k (drop start codes)) n
      ∙ take-suc (drop start codes) (last - start) 0 (omega arith)
      ∙ ap (λ (x : ℕ). take (last - start) (drop start codes) ++ x ∷ []) (get_or-drop start codes (last - start) 0 ∙ ap (λ (k : ℕ). get_or codes k 0) p))

  -- the value once more
  pub scan_repeat : i < length codes → get_or codes i 0 ≡ get_or codes last 0 → scan codes start last i ≡ scan codes start last (i + 1)
  unfolding scan
  scan_repeat h e =
      let b = at.before in
      let n : suc (i - last - 1) ≡ suc i - last - 1 = omega arith in
      rw (drop-cons codes i 0 h, add-one i)
      (scan_segments-repeat (take (last - start) (drop start codes)) (get_or codes last 0) (i - last - 1) (get_or codes i 0) (drop (suc i) codes) e ∙ rw n)

  pub scanned_repeat : i < length codes → get_or codes i 0 ≡ get_or codes last 0 → Scanned codes start last (i + 1)
  scanned_repeat h e =
      let b = at.before in
      record {
        order = at.order;
        before = omega arith;
        within = omega arith;
        same = λ j a b. ⊎_elim (λ (k : suc j ≤ i). at.same j a k) (λ (k : i < suc j). let z : j ≡ i = omega arith in rw z e) (le_or_gt (suc j) i);
      }

  -- another value after fewer than 3 repeats: they join the raw values
  pub scan_join : i < length codes → (get_or codes i 0 ≡ get_or codes last 0 → ⊥) → i - last - 1 < 3 → scan codes start last i ≡ scan codes start i (i + 1)
  unfolding scan
  scan_join h e k =
      let n : 0 ≡ suc i - i - 1 = omega arith in
      rw (drop-cons codes i 0 h, add-one i)
      (scan_segments_join (take (last - start) (drop start codes)) (get_or codes last 0) (i - last - 1) (get_or codes i 0) (drop (suc i) codes) e k
      ∙ rw (pending_with_repeats, ← n))

  -- another value after 3 or more: they end a segment
  pub scan_close : i < length codes → (get_or codes i 0 ≡ get_or codes last 0 → ⊥) → 3 ≤ i - last - 1
      → scan codes start last i ≡ split_segments (take (last + 1 - start) (drop start codes)) (i - last - 1) ++ scan codes i i (i + 1)
  unfolding scan
  scan_close h e k =
      let n : suc i - i - 1 ≡ 0 = omega arith in
      let z : i - i ≡ 0 = omega arith in
      rw (add-one i, n, z)
      (ap (scan_segments (take (last - start) (drop start codes)) (get_or codes last 0) (i - last - 1)) (drop-cons codes i 0 h)
      ∙ scan_segments_close (take (last - start) (drop start codes)) (get_or codes last 0) (i - last - 1) (get_or codes i 0) (drop (suc i) codes) e k
      ∙ rw pending_with_value)

  -- the row's end, after 3 or more repeats and after fewer
  scan_end_run : i ≡ length codes → 3 ≤ i - last - 1 → scan codes start last i ≡ split_segments (take (last + 1 - start) (drop start codes)) (i - last - 1)
  unfolding scan
  scan_end_run e k =
      rw (drop_of_length-le codes {i = i} (omega arith), ← pending_with_value)
      (scan_segments_end_run (take (last - start) (drop start codes)) (get_or codes last 0) (i - last - 1) k)

  scan_end_raw : i ≡ length codes → i - last - 1 < 3 → scan codes start last i ≡ split_segments (take (i - start) (drop start codes)) 0
  unfolding scan
  scan_end_raw e k =
      rw (drop_of_length-le codes {i = i} (omega arith), ← pending_with_repeats)
      (scan_segments_end_raw (take (last - start) (drop start codes)) (get_or codes last 0) (i - last - 1) k)

  pub scan_end : i ≡ length codes → scan codes start last i ≡ row_end_segments codes start last
  scan_end e =
      let d = length-drop start codes in
      ⊎_elim
      (λ (k : 3 ≤ i - last - 1).
      scan_end_run e k ∙ ap (λ (n : ℕ). split_segments (take (last + 1 - start) (drop start codes)) (n - last - 1)) e
      ∙ sym (row_end_segments_run codes start last (omega arith)))
      (λ (k : i - last - 1 < 3).
      scan_end_raw e k ∙ ap (λ (l : List ℕ). split_segments l 0) (take_all (i - start) (drop start codes) (omega arith))
      ∙ sym (row_end_segments_raw codes start last (omega arith)))
      (le_or_gt 3 (i - last - 1))
