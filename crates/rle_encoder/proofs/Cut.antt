-- How a row is divided (FORMAT 5.1): the first value with three or more repeats ends a segment, together with all its repeats. So the segments
-- of a row are found by a search for four neighbours that are equal.
use Rattle.std.proofs.Common.{◌≡◌, ℕ, zero, suc, ◌+◌, ◌-◌, ◌<◌, ◌≤◌, List, [], ◌++◌, length, get_or, take, drop, sym, ap, ◌∙◌, ⊎_elim, append-nil, add-one, arith, drop_of_length-le, drop-cons}
use Rattle.rle_format.specs.Segment.{Segment}
use Rattle.rle_format.specs.Pack.{split_segments, row_segments}
use Rattle.rle_format.proofs.Cases.{le_or_gt, eq_or_ne}
use Rattle.rle_scanline_encoder.proofs.Scan.{Scanned, scan, scan_repeat, scan_join, scan_close, scan_end, scanned_new, scanned_repeat, row_end_segments_run, row_end_segments_raw}

-- the value at index j and the next three are equal
abbrev pub Four : (row : List ℕ) (j : ℕ) → Type 0
Four row j = (j + 3 < length row) × (get_or row (j + 1) 0 ≡ get_or row j 0) × (get_or row (j + 2) 0 ≡ get_or row j 0) × (get_or row (j + 3) 0 ≡ get_or row j 0)

-- the segments of the rest of a row, as the scan gives them
begins : (row : List ℕ) (start : ℕ) → start < length row → row_segments (drop start row) ≡ scan row start start (start + 1)
unfolding row_segments scan
begins row start h =
    let z : start - start ≡ 0 = omega arith in
    let n : suc start - start - 1 ≡ 0 = omega arith in
    rw (add-one start, z, n) (ap row_segments (drop-cons row start 0 h))

module _ (row : List ℕ) (start : ℕ) where
  -- a value without three repeats
  few : (last i : ℕ) → Scanned row start last i → (Four row last → ⊥) → i - last - 1 < 3
  few last i at fewer =
      let w = at.within in
      ⊎_elim
      (λ (h : 3 ≤ i - last - 1).
      absurd (fewer (omega arith, at.same (last + 1) (omega arith) (omega arith), at.same (last + 2) (omega arith) (omega arith), at.same (last + 3) (omega arith) (omega arith))))
      (λ (h : i - last - 1 < 3). h)
      (le_or_gt 3 (i - last - 1))

  module _ (none : (j : ℕ) → start ≤ j → Four row j → ⊥) where
    -- no four neighbours are equal up to the end of the row
    to_end : (k last i : ℕ) → Scanned row start last i → i + k ≡ length row → scan row start last i ≡ split_segments (drop start row) 0
    to_end zero last i at e =
        let short = few last i at (none last at.order) in
        scan_end row start last i at (omega arith) ∙ row_end_segments_raw row start last (omega arith)
    to_end (suc k) last i at e =
        let short = few last i at (none last at.order) in
        let b = at.before in
        let o = at.order in
        let rest : i + 1 + k ≡ length row = omega arith in
        ⊎_elim
        (λ (same : get_or row i 0 ≡ get_or row last 0).
        scan_repeat row start last i at (omega arith) same ∙ to_end k last (i + 1) (scanned_repeat row start last i at (omega arith) same) rest)
        (λ (other : get_or row i 0 ≡ get_or row last 0 → ⊥).
        scan_join row start last i at (omega arith) other short ∙ to_end k i (i + 1) (scanned_new row start i (omega arith) (omega arith)) rest)
        (eq_or_ne (get_or row i 0) (get_or row last 0))

    pub uncut : start < length row → row_segments (drop start row) ≡ split_segments (drop start row) 0
    uncut h = begins row start h ∙ to_end (length row - (start + 1)) start (start + 1) (scanned_new row start start (omega arith) h) (omega arith)

  module _ (p : ℕ) (four : Four row p) (none : (j : ℕ) → start ≤ j → j < p → Four row j → ⊥) where
    -- up to the first four neighbours that are equal
    to_run : (k last i : ℕ) → Scanned row start last i → i + k ≡ p → scan row start last i ≡ scan row start p (p + 1)
    to_run zero last i at e =
        let b = at.before in
        let short = few last i at (none last at.order (omega arith)) in
        let here : i ≡ p = omega arith in
        let other : get_or row i 0 ≡ get_or row last 0 → ⊥ =
        λ (same : get_or row i 0 ≡ get_or row last 0).
        let was : get_or row (p - 1) 0 ≡ get_or row last 0 = at.same (p - 1) (omega arith) (omega arith) in
        let is : get_or row p 0 ≡ get_or row (p - 1) 0 = ap (λ (j : ℕ). get_or row j 0) (sym here) ∙ same ∙ sym was in
        let at0 : p - 1 + 1 ≡ p = omega arith in
        let at1 : p - 1 + 2 ≡ p + 1 = omega arith in
        let at2 : p - 1 + 3 ≡ p + 2 = omega arith in
        none (p - 1) (omega (arith, at.order)) (omega arith) (
          omega (arith, four.0),
          ap (λ (j : ℕ). get_or row j 0) at0 ∙ is,
          ap (λ (j : ℕ). get_or row j 0) at1 ∙ four.1 ∙ is,
          ap (λ (j : ℕ). get_or row j 0) at2 ∙ four.2 ∙ is,
        ) in
        scan_join row start last i at (omega (arith, four.0)) other short ∙ ap (λ (j : ℕ). scan row start j (j + 1)) here
    to_run (suc k) last i at e =
        let short = few last i at (none last at.order (omega (arith, at.before))) in
        let b = at.before in
        let o = at.order in
        let rest : i + 1 + k ≡ p = omega arith in
        let in_row : i < length row = omega (arith, four.0) in
        ⊎_elim
        (λ (same : get_or row i 0 ≡ get_or row last 0).
        scan_repeat row start last i at in_row same ∙ to_run k last (i + 1) (scanned_repeat row start last i at in_row same) rest)
        (λ (other : get_or row i 0 ≡ get_or row last 0 → ⊥).
        scan_join row start last i at in_row other short ∙ to_run k i (i + 1) (scanned_new row start i (omega arith) in_row) rest)
        (eq_or_ne (get_or row i 0) (get_or row last 0))

    reached : start ≤ p → row_segments (drop start row) ≡ scan row start p (p + 1)
    reached h =
        let in_row : start < length row = omega (arith, four.0) in
        begins row start in_row
        ∙ ⊎_elim
        (λ (k : p ≤ start). let e : start ≡ p = omega arith in ap (λ (j : ℕ). scan row start j (j + 1)) e)
        (λ (k : start < p). to_run (p - (start + 1)) start (start + 1) (scanned_new row start start (omega arith) in_row) (omega arith))
        (le_or_gt p start)

    module _ (q : ℕ) (long : p + 4 ≤ q) (within : q ≤ length row) (same : (j : ℕ) → p ≤ j → j < q → get_or row j 0 ≡ get_or row p 0)
        (ends : q < length row → get_or row q 0 ≡ get_or row p 0 → ⊥) where
      along : (k i : ℕ) → Scanned row start p i → i + k ≡ q → (scan row start p i ≡ scan row start p q) × Scanned row start p q
      along zero i at e = let here : i ≡ q = omega arith in (ap (scan row start p) here, rw (← here) at)
      along (suc k) i at e =
          let b = at.before in
          let equal : get_or row i 0 ≡ get_or row p 0 = same i (omega arith) (omega arith) in
          let next = along k (i + 1) (scanned_repeat row start p i at (omega arith) equal) (omega arith) in
          (scan_repeat row start p i at (omega arith) equal ∙ next.0, next.1)

      pub cut : start ≤ p → row_segments (drop start row) ≡ split_segments (take (p + 1 - start) (drop start row)) (q - p - 1) ++ row_segments (drop q row)
      unfolding row_segments
      cut h =
          let run = along (q - (p + 1)) (p + 1) (scanned_new row start p h (omega (arith, four.0))) (omega arith) in
          reached h ∙ run.0
          ∙ ⊎_elim
          (λ (k : q < length row).
          scan_close row start p q run.1 k (ends k) (omega arith)
          ∙ ap (λ (ss : List Segment). split_segments (take (p + 1 - start) (drop start row)) (q - p - 1) ++ ss) (sym (begins row q k)))
          (λ (k : length row < suc q).
          let all : q ≡ length row = omega arith in
          let none : drop q row ≡ [] = drop_of_length-le row {i = q} (omega arith) in
          scan_end row start p q run.1 all
          ∙ row_end_segments_run row start p (omega arith)
          ∙ ap (λ (n : ℕ). split_segments (take (p + 1 - start) (drop start row)) (n - p - 1)) (sym all)
          ∙ sym (append-nil (split_segments (take (p + 1 - start) (drop start row)) (q - p - 1)))
          ∙ ap (λ (l : List ℕ). split_segments (take (p + 1 - start) (drop start row)) (q - p - 1) ++ row_segments l) (sym none))
          (le_or_gt (suc q) (length row))
