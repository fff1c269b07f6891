-- The answer of reading a segment. Only contracts of inner functions use these.
use Rattle.std.specs.Prelude.{ℕ, List, [], length, Result, Ok, Err}
use Rattle.rle_format.specs.Answer.{number}
use Rattle.rle_format.specs.Segment.{SegmentRead, segment, refused_segment, last_byte_after, segment_values}
use Rattle.rle_decoder.specs.declared.row_so_far.Segment.{Segment}
use Rattle.rle_decoder.specs.declared.row_so_far.StoppedRow.{StoppedRow}

-- the number of raw bytes, the run, and the last byte after the segment; or a refusal
pub data SegmentAnswer : Type 0 where
  read : (raw run last : ℕ) → SegmentAnswer
  refused_by : (number : ℕ) → SegmentAnswer

-- the answer for what was read; `before` is the last byte before it
abbrev pub segment_answer : (before : ℕ) → SegmentRead → SegmentAnswer
segment_answer before (segment s) = read (length s.raw) s.run (last_byte_after before s)
segment_answer before (refused_segment r) = refused_by r

-- the same from what the code returns
abbrev pub next_to_answer : Result Segment StoppedRow → SegmentAnswer
next_to_answer (Ok s) = read s.raw s.run s.last
next_to_answer (Err stop) = refused_by (number stop.reason)

-- the values of what was read; a refusal has none
abbrev pub values_of : (before : ℕ) → SegmentRead → List ℕ
values_of before (segment s) = segment_values before s
values_of before (refused_segment r) = []
