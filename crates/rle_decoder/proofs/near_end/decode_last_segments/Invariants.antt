-- `decode_last_segments`: an iteration of its loop is a segment; the invariant is `RowInvariant` of RowLoop.antt.
use Rattle.std.proofs.Common.{◌-◌}
use Rattle.rle_decoder.specs.Rows.{row_continued}
use Rattle.rle_decoder.proofs.RowLoop.{RowInvariant}
use Rattle.rle_decoder.proofs.near_end.decode_last_segments.Given as goal

abbrev pub invariant-loop-row : goal.invariant-loop-row
invariant-loop-row l =
    RowInvariant l.src l.fn.codes l.codes (row_continued l.src l.fn.codes l.from l.width l.fn.so_far.at l.fn.so_far.column l.fn.so_far.last) l.from l.width l.row.at l.row.column l.row.last

abbrev pub decreases-loop-row : goal.decreases-loop-row
decreases-loop-row l = l.width - l.row.column
