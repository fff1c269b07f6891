-- `put_segment` and `put_long_sequence`, which call each other. The measure of each is the run that it is given, which falls at every call. Each
-- loop keeps that what is written, and then what is left, is all (`PutHead`).
use Rattle.std.proofs.Common.{◌-◌, ◌<◌, ◌≤◌, take, drop}
use Rattle.rle_format.specs.Pack.{split_segments, long_run}
use Rattle.rle_encoder.proofs.Put.{PutHead}
use Rattle.rle_encoder.proofs.segment.+put_long_sequence_put_segment.Given as goal

abbrev pub decreases-put_long_sequence : goal.decreases-put_long_sequence
decreases-put_long_sequence l = l.run

abbrev pub decreases-put_segment : goal.decreases-put_segment
decreases-put_segment l = l.run

abbrev pub invariant-put_long_sequence-loop-left : goal.invariant-put_long_sequence-loop-left
invariant-put_long_sequence-loop-left l =
    (l.left ≤ l.fn.run) × PutHead (long_run l.fn.last l.fn.run) (long_run l.fn.last l.left) l.fn.packed l.packed l.fn.at l.to

abbrev pub decreases-put_long_sequence-loop-left : goal.decreases-put_long_sequence-loop-left
decreases-put_long_sequence-loop-left l = l.left

abbrev pub invariant-put_segment-loop-start : goal.invariant-put_segment-loop-start
invariant-put_segment-loop-start l =
    (l.start < l.count)
    × PutHead (split_segments (take l.count l.raw) l.run) (split_segments (drop l.start (take l.count l.raw)) l.run) l.fn.packed l.packed l.fn.at l.to

abbrev pub decreases-put_segment-loop-start : goal.decreases-put_segment-loop-start
decreases-put_segment-loop-start l = l.count - l.start
