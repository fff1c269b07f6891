-- A segment (FORMAT 3; MS-RDPEGDI 2.2.2.5.1.2, RDP6_RLE_SEGMENT): its values, how it is read, and its bytes.
use Rattle.std.specs.Prelude.{◌≡◌, ◌⊎◌, ℕ, ◌+◌, ◌*◌, ◌-◌, ◌/◌, ◌%◌, ◌≤◌, List, [], ◌∷◌, ◌++◌, ltb, leb, eqb, length, take, replicate}
use Rattle.rle_format.specs.Choice.{choose}

-- raw bytes, then `run` copies of the last byte (FORMAT 3.2)
pub record Segment : Type 0 where
  pub raw : List ℕ
  pub run : ℕ

-- the last value of a list, or `before` if it is empty
abbrev pub last_or : (before : ℕ) → List ℕ → ℕ
last_or before [] = before
last_or before (x ∷ xs) = last_or x xs

-- the last byte after a segment, given the last byte before it
abbrev pub last_byte_after : (before : ℕ) → Segment → ℕ
last_byte_after before s = last_or before s.raw

-- its values (FORMAT 3.2)
abbrev pub segment_values : (before : ℕ) → Segment → List ℕ
segment_values before s = s.raw ++ replicate s.run (last_byte_after before s)

-- their number
abbrev pub value_count : Segment → ℕ
value_count s = length s.raw + s.run

-- how many bytes it has: control byte and raw bytes
abbrev pub segment_size : Segment → ℕ
segment_size s = 1 + length s.raw

-- the number of raw bytes that follow a control byte, and its run (FORMAT 3.1)
unfoldable pub raw_count : (control_byte : ℕ) → ℕ
raw_count control_byte = choose (eqb (control_byte % 16) 1) 0 (choose (eqb (control_byte % 16) 2) 0 (control_byte / 16))

unfoldable pub run_length : (control_byte : ℕ) → ℕ
run_length control_byte =
    choose (eqb (control_byte % 16) 1)
    (16 + control_byte / 16)
    (choose (eqb (control_byte % 16) 2) (32 + control_byte / 16) (control_byte % 16))

-- a segment, or the number of a refusal
pub data SegmentRead : Type 0 where
  segment : Segment → SegmentRead
  refused_segment : (number : ℕ) → SegmentRead

-- the segment at the start of a body (FORMAT 3.4)
unfoldable pub read_segment : (body : List ℕ) → SegmentRead
read_segment [] = refused_segment 7
read_segment (control_byte ∷ rest) =
    choose (eqb control_byte 0)
    (refused_segment 8)
    (choose (ltb (length rest) (raw_count control_byte))
    (refused_segment 7)
    (segment (record { raw = take (raw_count control_byte) rest; run = run_length control_byte })))

-- the control byte of an encodable segment (FORMAT 3.1)
abbrev pub control_byte : Segment → ℕ
control_byte s =
    choose (leb s.run 15)
    (16 * length s.raw + s.run)
    (choose (leb s.run 31) (16 * (s.run - 16) + 1) (16 * (s.run - 32) + 2))

-- its bytes, `segment_size` of them
abbrev pub segment_bytes : Segment → List ℕ
segment_bytes s = control_byte s ∷ s.raw

-- the bytes of several segments, one after the other
abbrev pub segments_bytes : List Segment → List ℕ
segments_bytes [] = []
segments_bytes (s ∷ ss) = segment_bytes s ++ segments_bytes ss

-- the segments that a control byte can express (FORMAT 3.3). A packing has no others (proofs/RowSegments.antt: row_segments_encodable)
abbrev pub Encodable : Segment → Type 0
Encodable s =
    ((length s.raw ≤ 15) × (s.run ≤ 15) × (s.run ≡ 1 → ⊥) × (s.run ≡ 2 → ⊥) × (1 ≤ value_count s))
    ⊎ ((s.raw ≡ []) × (16 ≤ s.run) × (s.run ≤ 47))
