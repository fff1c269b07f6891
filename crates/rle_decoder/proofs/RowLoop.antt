-- The iterations of the loops of `decode_scanline` and `decode_last_segments`, on plain values. Assumes nothing.
use Rattle.std.proofs.Common.{◌≡◌, ℕ, ◌+◌, ◌-◌, ◌<◌, ◌≤◌, List, ◌++◌, length, take, drop, sym, refl, ap, ◌∙◌, append-nil, add-zero, arith, length-take-le, take-take, drop-drop, take_at}
use native.Mathlib.Nat.{sub_self, sub-zero}
use Rattle.std.specs.Prelude.{Result, Ok, Err, IsErrAnd}
use Rattle.rle_format.specs.declared.Refusal.TheVariants.{SegmentDoNotFitScanline}
use Rattle.rle_format.specs.Answer.{Answer, counted, refused, number, Outcome, stop, add_count, prepend}
use Rattle.rle_format.specs.Segment.{last_byte_after, segment_values, value_count, segment_size, read_segment}
use Rattle.rle_format.proofs.Outcome.{prepend_nil, prepend_prepend, answer_cong}
use Rattle.rle_format.proofs.Segment.{length-segment_values}
use Rattle.rle_format.proofs.Row.{row_from, row_from_full, row_from_refused, row_from_overruns, row_from_step}
use Rattle.rle_decoder.specs.Appended.{Appended}
use Rattle.rle_decoder.specs.NextSegment.{read, refused_by, segment_answer, values_of}
use Rattle.rle_decoder.specs.Rows.{coded_row, row_continued, row_to_answer, coded_values}
use Rattle.rle_decoder.specs.declared.row_so_far.StoppedRow.{StoppedRow}
use Rattle.rle_decoder.proofs.Segments.{FoundSegment, found_segment, found_refusal}

-- the invariant of both loops: o is the outcome of the whole row, a the array on entry and codes the array now
pub record RowInvariant (src a codes : List ℕ) (o : Outcome) (from width at column last : ℕ) : Type 0 where
  pub low : from ≤ at
  pub most : at ≤ length src
  pub within : column ≤ width
  pub len : length codes ≡ length a
  pub whole : o ≡ row_continued src codes from width at column last

-- what a row leaves: its answer, and its values in the first places of the array
abbrev pub Leaves : (o : Outcome) (codes : List ℕ) (width column : ℕ) → Answer → Type 0
Leaves o codes width column given = record { answer : given ≡ o.answer; codes : take column codes ≡ o.written; within : column ≤ width }

-- the same of what the code returns
abbrev pub Returns : (o : Outcome) (codes : List ℕ) (width : ℕ) → Result ℕ StoppedRow → Type 0
Returns o codes width r = Leaves o codes width (coded_values width r) (row_to_answer r)

-- a refusal that a `?` passes on
returns_refusal : (o : Outcome) (codes : List ℕ) (width column k : ℕ) (r : Result ℕ StoppedRow) (why : StoppedRow) → IsErrAnd r (λ y. y ≡ why) → why.column ≡ column → number why.reason ≡ k
    → Leaves o codes width column (refused k) → Returns o codes width r
returns_refusal o codes width column k (Ok n) why is ec ek left = absurd is
returns_refusal o codes width column k (Err y) why is ec ek left = rw (is, ec, ek) left

-- a row begins
pub row_start : (src a : List ℕ) (from width : ℕ) → from ≤ length src → RowInvariant src a a (coded_row src from width) from width from 0 0
row_start src a from width h = record {
  low = omega arith;
  most = h;
  within = omega arith;
  len = refl;
  whole = sym (rw (sub_self, sub-zero) (prepend_nil _));
}

module _ (src a codes : List ℕ) (o : Outcome) (from width at column last : ℕ) (fits : width ≤ length a) (h : RowInvariant src a codes o from width at column last) where
  -- the row stops here; behind the column the array may have changed
  row_ends : (now : List ℕ) → take column now ≡ take column codes → (r : Answer) → row_from (width - column) last (drop at src) ≡ stop r
      → Leaves o now width column (add_count (at - from) r)
  unfolding stop prepend
  row_ends now kept r e =
      let w : o ≡ prepend (take column codes) (at - from) (stop r) = h.whole ∙ ap (prepend (take column codes) (at - from)) e in
      let v : o.written ≡ take column codes = ap (λ (p : Outcome). p.written) w ∙ append-nil (take column codes) in
      record { answer = sym (answer_cong w); codes = kept ∙ sym v; within = h.within }

  -- the row is full
  pub row_full : width ≤ column → Returns o codes width (Ok (at - from))
  row_full l =
      let same : width ≡ column = omega (arith, h.within) in
      let none : width - column ≡ 0 = omega (arith, h.within) in
      let ends = row_ends codes refl (counted 0) (rw none (row_from_full last (drop at src))) in
      record { answer = sym (ap counted (add-zero (at - from))) ∙ ends.answer; codes = ap (λ (k : ℕ). take k codes) same ∙ ends.codes; within = omega arith }

  -- the next segment, whose values stand behind the column of the array, which is then `now`
  module _ (some : column < width) (now : List ℕ) (appended : Appended codes now column (values_of last (read_segment (drop at src)))) where
    kept : take column now ≡ take column codes
    kept =
        let vs = values_of last (read_segment (drop at src)) in
        let n : column ≤ column + length vs = omega arith in
        sym (take-take column (column + length vs) now n)
        ∙ ap (take column) appended
        ∙ take_at (take column codes) vs column (length-take-le column codes (omega (arith, h.len)))

    -- it is a refusal
    pub row_refused : (r : Result ℕ StoppedRow) (why : StoppedRow) → IsErrAnd r (λ y. y ≡ why) → why.column ≡ column
        → refused_by (number why.reason) ≡ segment_answer last (read_segment (drop at src)) → Returns o now width r
    row_refused r why is e answered =
        let k : ℕ = number why.reason in
        let left = row_ends now kept (refused k) (row_from_refused (width - column) last (drop at src) (omega arith) k (found_refusal k last (read_segment (drop at src)) answered)) in
        returns_refusal o now width column k r why is e refl left

    module _ (raw run next : ℕ) (e : read raw run next ≡ segment_answer last (read_segment (drop at src))) where
      f : FoundSegment src at last raw run next
      f = found_segment src at last raw run next e

      -- it overruns the row
      pub row_overruns : (r : Result ℕ StoppedRow) (why : StoppedRow) → IsErrAnd r (λ y. y ≡ why) → why.column ≡ column → why.reason ≡ SegmentDoNotFitScanline
          → width < column + raw + run → Returns o now width r
      row_overruns r why is ec er wide =
          let left = row_ends now kept (refused 9) (row_from_overruns (width - column) last (drop at src) (omega arith) f.it f.found (omega (arith, f.raws, f.runs, h.within))) in
          returns_refusal o now width column 9 r why is ec (ap number er) left

      -- it fits
      pub row_step : length now ≡ length codes → column + raw + run ≤ width → RowInvariant src a now o from width (at + 1 + raw) (column + raw + run) next
      row_step len room =
          let s = f.it in
          let vs : List ℕ = segment_values last s in
          let n : length vs ≡ raw + run = length-segment_values last s ∙ (λ i. f.raws i + f.runs i) in
          let sz : segment_size s ≡ 1 + raw = ap (λ (k : ℕ). 1 + k) f.raws in
          let c : column + raw + run ≡ column + length vs = omega arith in
          let cnt : value_count s ≡ raw + run = λ i. f.raws i + f.runs i in
          let left : width - column - (raw + run) ≡ width - (column + raw + run) = omega arith in
          let on : at + (1 + raw) ≡ at + 1 + raw = omega arith in
          let bytes : at - from + (1 + raw) ≡ at + 1 + raw - from = omega (arith, h.low) in
          let held : Appended codes now column vs = rw f.found at appended in
          let front : take (column + raw + run) now ≡ take column codes ++ vs = ap (λ (k : ℕ). take k now) c ∙ held in
          record {
            low = omega (arith, h.low);
            most = omega (arith, f.within);
            within = omega arith;
            len = len ∙ h.len;
            whole = h.whole
                ∙ ap (prepend (take column codes) (at - from)) (row_from_step (width - column) last (drop at src) (omega arith) s f.found (omega arith))
                ∙ prepend_prepend (take column codes) vs (at - from) (segment_size s) (row_from (width - column - value_count s) (last_byte_after last s) (drop (segment_size s) (drop at src)))
                ∙ (λ i. prepend (sym front i) (at - from + sz i) (row_from (width - column - cnt i) (f.lasts i) (drop (sz i) (drop at src))))
                ∙ rw (bytes, left, drop-drop (1 + raw) at src, on);
          }
