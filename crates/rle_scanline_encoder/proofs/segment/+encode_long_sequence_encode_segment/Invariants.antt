-- `encode_segment` and `encode_long_sequence`, which call each other. The measure of each is the run that it is given, which falls at every
-- call. The invariant of each loop: writing what is left from here on is writing all (`WriteInvariant`).
use Rattle.std.proofs.Common.{◌-◌, ◌≤◌, ◌<◌, length, drop}
use Rattle.rle_format.specs.Pack.{split_segments, long_run}
use Rattle.rle_format.proofs.WriteLoop.{WriteInvariant}
use Rattle.rle_scanline_encoder.proofs.segment.+encode_long_sequence_encode_segment.Given as goal

abbrev pub decreases-encode_long_sequence : goal.decreases-encode_long_sequence
decreases-encode_long_sequence l = l.run

abbrev pub decreases-encode_segment : goal.decreases-encode_segment
decreases-encode_segment l = l.run

abbrev pub invariant-encode_long_sequence-loop-left : goal.invariant-encode_long_sequence-loop-left
invariant-encode_long_sequence-loop-left l =
    (l.left ≤ l.fn.run) × WriteInvariant (long_run l.fn.last l.fn.run) (long_run l.fn.last l.left) l.fn.dst l.dst l.fn.at l.to

abbrev pub decreases-encode_long_sequence-loop-left : goal.decreases-encode_long_sequence-loop-left
decreases-encode_long_sequence-loop-left l = l.left

abbrev pub invariant-encode_segment-loop-start : goal.invariant-encode_segment-loop-start
invariant-encode_segment-loop-start l =
    (l.start < length l.raw) × WriteInvariant (split_segments l.raw l.run) (split_segments (drop l.start l.raw) l.run) l.fn.dst l.dst l.fn.at l.to

abbrev pub decreases-encode_segment-loop-start : goal.decreases-encode_segment-loop-start
decreases-encode_segment-loop-start l = length l.raw - l.start
