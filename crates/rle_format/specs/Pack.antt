-- The packing rules (FORMAT 5; MS-RDPEGDI 3.1.9.2): the segments of a row, the packing of a plane, and what does not fit.
use Rattle.std.specs.Prelude.{ℕ, zero, suc, ◌*◌, ◌-◌, ◌/◌, ◌%◌, min, true, false, List, [], ◌∷◌, ◌++◌, leb, ltb, eqb, length, take, drop, replicate}
use Rattle.rle_format.specs.Choice.{choose}
use Rattle.rle_format.specs.Sides.{check_sides_of}
use Rattle.rle_format.specs.Answer.{counted, Outcome, stop, refuse, prepend}
use Rattle.rle_format.specs.Delta.{delta_code, zip_with}
use Rattle.rle_format.specs.Segment.{Segment, last_or, segment_size, segment_bytes, segments_bytes}

-- a segment with raw bytes and a run of at most 15
abbrev pub literal : (raw : List ℕ) (run : ℕ) → Segment
literal raw run = record { raw = raw; run = run }

-- a segment without raw bytes: a run of 16 to 47 of the last byte
abbrev pub repeat : (run : ℕ) → Segment
repeat run = record { raw = []; run = run }

-- the end of a long run, fewer than 47 copies of `last` (FORMAT 5.3)
abbrev pub rest_of_run : (last left : ℕ) → List Segment
rest_of_run last left =
    choose (leb 16 left)
    (repeat left ∷ [])
    (choose (leb 4 left)
    (literal (last ∷ []) (left - 1) ∷ [])
    (choose (leb 1 left) (literal (replicate left last) 0 ∷ []) []))

-- k segments of 47, then the rest
abbrev pub runs_of47 : (k last left : ℕ) → List Segment
runs_of47 zero last left = rest_of_run last left
runs_of47 (suc k) last left = repeat 47 ∷ runs_of47 k last left

-- the segments of a run of any length (FORMAT 5.3). "As many as it can, at most 47" means 47 until fewer are left
unfoldable pub long_run : (last run : ℕ) → List Segment
long_run last run = runs_of47 (run / 47) last (run % 47)

-- k segments of 15 raw bytes; then the other raw bytes with at most 15 of the run; then the rest of the run (FORMAT 5.2)
abbrev pub literals_of15 : (k : ℕ) (raw : List ℕ) (run : ℕ) → List Segment
literals_of15 zero raw run = literal raw (min run 15) ∷ long_run (last_or 0 raw) (run - 15)
literals_of15 (suc k) raw run = literal (take 15 raw) 0 ∷ literals_of15 k (drop 15 raw) run

-- raw bytes and a run of the last of them, split into segments (FORMAT 5.2). 15 raw bytes go out while more than 15 are left, that is
-- (length − 1) / 15 times
unfoldable pub split_segments : (raw : List ℕ) (run : ℕ) → List Segment
split_segments raw run = literals_of15 ((length raw - 1) / 15) raw run

-- the segments of what is left of a row, in a scan from left to right (FORMAT 5.1). `pending` are raw values that are not written yet, `last`
-- is the value after them, and `repeats` how many equal values have followed it so far; the list has the values still to come
unfoldable pub scan_segments : (pending : List ℕ) (last repeats : ℕ) → List ℕ → List Segment
scan_segments pending last repeats [] =
    choose (leb 3 repeats)
    (split_segments (pending ++ last ∷ []) repeats)
    (split_segments (pending ++ last ∷ replicate repeats last) 0)
scan_segments pending last repeats (value ∷ rest) =
    elim (eqb value last) [
      | true ↦ scan_segments pending last (suc repeats) rest
      | false ↦ elim (leb 3 repeats) [
        | true ↦ split_segments (pending ++ last ∷ []) repeats ++ scan_segments [] value 0 rest
        | false ↦ scan_segments (pending ++ last ∷ replicate repeats last) value 0 rest
      ]
    ]

-- the segments of a row, given its coded values (FORMAT 5.1)
unfoldable pub row_segments : (codes : List ℕ) → List Segment
row_segments [] = []
row_segments (value ∷ rest) = scan_segments [] value 0 rest

-- row r of a plane's samples; the first is row 0 (FORMAT 2.1)
unfoldable pub row_at : (width : ℕ) (samples : List ℕ) (r : ℕ) → List ℕ
row_at width samples r = take width (drop (r * width) samples)

-- the coded values of row r (FORMAT 4.2; document 01's term)
unfoldable pub codes_at : (width : ℕ) (samples : List ℕ) (r : ℕ) → List ℕ
codes_at width samples zero = row_at width samples zero
codes_at width samples (suc r) = zip_with delta_code (row_at width samples r) (row_at width samples (suc r))

-- the segments of the first `rows` rows (FORMAT 5.4)
unfoldable pub plane_segments : (width rows : ℕ) (samples : List ℕ) → List Segment
plane_segments width zero samples = []
plane_segments width (suc rows) samples = plane_segments width rows samples ++ row_segments (codes_at width samples rows)

-- the packing of a plane (FORMAT 5.4; document 01's term)
unfoldable pub packing : (width height : ℕ) (samples : List ℕ) → List ℕ
packing width height samples = segments_bytes (plane_segments width height samples)

-- segments written one after the other into `room` bytes. The first that does not fit is refusal 12; those before it are written (FORMAT
-- 8.3). If all fit, all their bytes are written (proofs/Writing.antt: write_all)
unfoldable pub write_segments : List Segment → (room : ℕ) → Outcome
write_segments [] room = stop (counted 0)
write_segments (s ∷ ss) room =
    elim (ltb room (segment_size s)) [
      | true ↦ refuse 12
      | false ↦ prepend (segment_bytes s) (segment_size s) (write_segments ss (room - segment_size s))
    ]

-- packing a plane into a destination of `room` bytes: refusals 1, 2, 11, then 12 (FORMAT 8.2)
unfoldable pub pack_plane : (width height room : ℕ) (samples : List ℕ) → Outcome
pack_plane width height room samples =
    check_sides_of refuse width height
    (choose (ltb (length samples) (width * height)) (refuse 11) (write_segments (plane_segments width height samples) room))
