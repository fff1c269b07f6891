-- How long a packing can be, and how short. 15 raw bytes without a run take 16 bytes for 15 values, and a segment with a run of 3 or more takes fewer bytes
-- than it has values. Only the last segment of a row may be of neither kind. So the segments of n values, the last with a run of 3 or more,
-- take at most 16 × n / 15 bytes, and those of a row at most one more.
use mathlib.Core.Path.{◌≡◌}
use mathlib.Core.Logic.{⊎_elim, inl, inr}
use mathlib.Core.List.{List, [], ◌∷◌, ◌++◌}
use Prim.Native.Nat.{ℕ, zero, suc, ◌+◌, ◌*◌, ◌-◌, ◌/◌, ◌%◌, ◌≤◌, ◌<◌, min}
use native.Mathlib.Nat.{mul_comm, suc-mul}
use native.Mathlib.Omega.{arith}
use borrow.Author.Tests.{le-leb, lt-leb}
use lib.ListN.{length, take, drop, replicate, length-append, length-take, length-drop, length-replicate}
use Rattle.rle_format.specs.Delta.{delta_code, zip_with}
use Rattle.rle_format.specs.Segment.{Segment, Encodable, value_count, segment_size, last_or, segments_bytes}
use Rattle.rle_format.specs.Pack.{literal, rest_of_run, runs_of47, long_run, literals_of15, split_segments, scan_segments, row_segments, row_at, codes_at, plane_segments, packing}
use Rattle.rle_format.proofs.Cases.{le_or_gt, eq_or_ne}
use Rattle.rle_format.proofs.Segments.{segments_count, AllEncodable, segments_bytes-append}
use Rattle.rle_format.proofs.SegmentSteps.{scan_segments-repeat, scan_segments_close, scan_segments_join, scan_segments_end_run, scan_segments_end_raw}
use Rattle.rle_format.proofs.Writing.{length-segments_bytes}
use Rattle.rle_format.proofs.RowSegments.{row_segments_encodable, row_segments_count}
use Rattle.rle_format.proofs.RowAt.{length-codes_at}

abbrev size : List Segment → ℕ
size ss = length (segments_bytes ss)

size_append : (xs ys : List Segment) → size (xs ++ ys) ≡ size xs + size ys
size_append xs ys = rw (segments_bytes-append xs ys) (length-append (segments_bytes xs) (segments_bytes ys))

-- ---- a long run

rest_of_run-max : (last left : ℕ) → 15 * size (rest_of_run last left) ≤ 16 * left + 14
rest_of_run-max last left =
    ⊎_elim
    (λ (a : 16 ≤ left). rw (le-leb 16 left a) (omega arith))
    (λ (a : left < 16). rw (lt-leb 16 left a)
    (⊎_elim
    (λ (b : 4 ≤ left). rw (le-leb 4 left b) (omega arith))
    (λ (b : left < 4). rw (lt-leb 4 left b)
    (⊎_elim
    (λ (c : 1 ≤ left). rw (le-leb 1 left c) (omega (arith, length-append (replicate left last) [], length-replicate left last)))
    (λ (c : left < 1). rw (lt-leb 1 left c) (omega arith))
    (le_or_gt 1 left)))
    (le_or_gt 4 left)))
    (le_or_gt 16 left)

runs_of47-max : (k last left : ℕ) → 15 * size (runs_of47 k last left) ≤ 16 * (47 * k + left) + 14
runs_of47-max zero last left = omega (arith, rest_of_run-max last left)
runs_of47-max (suc k) last left = omega (arith, runs_of47-max k last left)

long_run-max : (last run : ℕ) → 15 * size (long_run last run) ≤ 16 * run + 14
unfolding long_run
long_run-max last run = omega (arith, runs_of47-max (run / 47) last (run % 47))

-- ---- raw values and a run of the last. `spare` is 0 if the run has 3 values or more, and 14 if there may be none

literals_of15-max : (k : ℕ) (raw : List ℕ) (run spare : ℕ) → 15 * k < length raw → 14 ≤ 16 * run + spare
    → 15 * size (literals_of15 k raw run) ≤ 16 * (length raw + run) + spare
literals_of15-max zero raw run spare h s =
    omega (arith, length-segments_bytes (literal raw (min run 15)) (long_run (last_or 0 raw) (run - 15)), long_run-max (last_or 0 raw) (run - 15))
literals_of15-max (suc k) raw run spare h s =
    let t = length-take 15 raw in
    let d = length-drop 15 raw in
    omega (
      arith,
      length-segments_bytes (literal (take 15 raw) 0) (literals_of15 k (drop 15 raw) run),
      literals_of15-max k (drop 15 raw) run spare (omega arith) s,
    )

split_segments-max : (raw : List ℕ) (run spare : ℕ) → 1 ≤ length raw → 14 ≤ 16 * run + spare
    → 15 * size (split_segments raw run) ≤ 16 * (length raw + run) + spare
unfolding split_segments
split_segments-max raw run spare h s = literals_of15-max ((length raw - 1) / 15) raw run spare (omega arith) s

pub run_size_max : (raw : List ℕ) (run : ℕ) → 1 ≤ length raw → 3 ≤ run → 15 * length (segments_bytes (split_segments raw run)) ≤ 16 * (length raw + run)
run_size_max raw run h r = omega (arith, split_segments-max raw run 0 h (omega arith))

-- ---- a row

module _ (pending : List ℕ) (last run : ℕ) where
  joined_length : length (pending ++ last ∷ replicate run last) ≡ length pending + 1 + run
  joined_length = omega (arith, length-append pending (last ∷ replicate run last), length-replicate run last)

  close_max : 3 ≤ run → 15 * size (split_segments (pending ++ last ∷ []) run) ≤ 16 * (length pending + 1 + run)
  close_max h =
      let n = length-append pending (last ∷ []) in
      omega (arith, run_size_max (pending ++ last ∷ []) run (omega arith) h)

  end_raw_max : 15 * size (split_segments (pending ++ last ∷ replicate run last) 0) ≤ 16 * (length pending + 1 + run) + 14
  end_raw_max =
      let n = joined_length in
      omega (arith, split_segments-max (pending ++ last ∷ replicate run last) 0 14 (omega arith) (omega arith))

scan_segments-max : (pending : List ℕ) (last repeats : ℕ) (rest : List ℕ)
    → 15 * size (scan_segments pending last repeats rest) ≤ 16 * (length pending + 1 + repeats + length rest) + 14
scan_segments-max pending last repeats [] =
    ⊎_elim
    (λ (h : 3 ≤ repeats). rw (scan_segments_end_run pending last repeats h) (omega (arith, close_max pending last repeats h)))
    (λ (h : repeats < 3). rw (scan_segments_end_raw pending last repeats h) (omega (arith, end_raw_max pending last repeats)))
    (le_or_gt 3 repeats)
scan_segments-max pending last repeats (value ∷ rest) =
    ⊎_elim
    (λ (e : value ≡ last). rw (scan_segments-repeat pending last repeats value rest e) (omega (arith, scan_segments-max pending last (suc repeats) rest)))
    (λ (e : value ≡ last → ⊥).
    ⊎_elim
    (λ (h : 3 ≤ repeats).
    rw (scan_segments_close pending last repeats value rest e h)
    (omega (
      arith,
      size_append (split_segments (pending ++ last ∷ []) repeats) (scan_segments [] value 0 rest),
      close_max pending last repeats h,
      scan_segments-max [] value 0 rest,
    )))
    (λ (h : repeats < 3).
    rw (scan_segments_join pending last repeats value rest e h)
    (omega (arith, joined_length pending last repeats, scan_segments-max (pending ++ last ∷ replicate repeats last) value 0 rest)))
    (le_or_gt 3 repeats))
    (eq_or_ne value last)

-- one byte for each value, and one for each 15 of them, rounded up
pub row_size_max : (codes : List ℕ) → length (segments_bytes (row_segments codes)) ≤ length codes + (length codes + 14) / 15
unfolding row_segments
row_size_max [] = omega arith
row_size_max (value ∷ rest) = omega (arith, scan_segments-max [] value 0 rest)

-- ---- a plane: at most two bytes a sample

row_at_max : (width : ℕ) (samples : List ℕ) (r : ℕ) → length (row_at width samples r) ≤ width
unfolding row_at
row_at_max width samples r = simp length-take (omega arith)

zip_with_max : (f : ℕ → ℕ → ℕ) (xs ys : List ℕ) → length (zip_with f xs ys) ≤ length ys
zip_with_max f [] ys = omega arith
zip_with_max f (x ∷ xs) [] = omega arith
zip_with_max f (x ∷ xs) (y ∷ ys) = omega (arith, zip_with_max f xs ys)

codes_at-max : (width : ℕ) (samples : List ℕ) (r : ℕ) → length (codes_at width samples r) ≤ width
unfolding codes_at
codes_at-max width samples zero = row_at_max width samples zero
codes_at-max width samples (suc r) = omega (arith, zip_with_max delta_code (row_at width samples r) (row_at width samples (suc r)), row_at_max width samples (suc r))

rows_size_max : (width rows : ℕ) (samples : List ℕ) → size (plane_segments width rows samples) ≤ 2 * (rows * width)
unfolding plane_segments
rows_size_max width zero samples = omega arith
rows_size_max width (suc rows) samples =
    let codes : List ℕ = codes_at width samples rows in
    omega (
      arith,
      size_append (plane_segments width rows samples) (row_segments codes),
      rows_size_max width rows samples,
      row_size_max codes,
      codes_at-max width samples rows,
    )

pub packing_size_max : (width height : ℕ) (samples : List ℕ) → length (packing width height samples) ≤ 2 * (width * height)
unfolding packing
packing_size_max width height samples = omega (arith, rows_size_max width height samples, mul_comm width height)

-- ---- at least one byte for each 47 values of a row, since no segment has more (FORMAT 2.4)

segment_values_max : (s : Segment) → Encodable s → value_count s ≤ 47 * segment_size s
segment_values_max s (inl c) = omega arith
segment_values_max s (inr c) = omega arith

values_max : (ss : List Segment) → AllEncodable ss → segments_count ss ≤ 47 * size ss
values_max [] v = omega arith
values_max (s ∷ ss) v = omega (arith, segment_values_max s v.0, values_max ss v.1, length-segments_bytes s ss)

row_size_min : (width : ℕ) (samples : List ℕ) (r : ℕ) → suc r * width ≤ length samples → (width + 46) / 47 ≤ size (row_segments (codes_at width samples r))
row_size_min width samples r h =
    let codes : List ℕ = codes_at width samples r in
    let m = values_max (row_segments codes) (row_segments_encodable codes) in
    omega (arith, row_segments_count codes, length-codes_at width samples r h)

rows_size_min : (width rows : ℕ) (samples : List ℕ) → rows * width ≤ length samples → rows * ((width + 46) / 47) ≤ size (plane_segments width rows samples)
unfolding plane_segments
rows_size_min width zero samples h = omega arith
rows_size_min width (suc rows) samples h =
    omega (
      arith,
      size_append (plane_segments width rows samples) (row_segments (codes_at width samples rows)),
      suc-mul rows width,
      suc-mul rows ((width + 46) / 47),
      rows_size_min width rows samples (omega (arith, suc-mul rows width)),
      row_size_min width samples rows h,
    )

pub packing_size_min : (width height : ℕ) (samples : List ℕ) → width * height ≤ length samples → height * ((width + 46) / 47) ≤ length (packing width height samples)
unfolding packing
packing_size_min width height samples h = rows_size_min width height samples (omega (arith, mul_comm width height))
