-- `decode_scanline`: an iteration of its loop is a segment; the invariant is `RowInvariant` of RowLoop.antt.
use Rattle.std.proofs.Common.{◌-◌}
use Rattle.rle_decoder.specs.Rows.{coded_row}
use Rattle.rle_decoder.proofs.RowLoop.{RowInvariant}
use Rattle.rle_decoder.proofs.row.decode_scanline.Given as goal

abbrev pub invariant-loop-row : goal.invariant-loop-row
invariant-loop-row l = RowInvariant l.src l.fn.codes l.codes (coded_row l.src l.from l.width) l.from l.width l.row.at l.row.column l.row.last

abbrev pub decreases-loop-row : goal.decreases-loop-row
decreases-loop-row l = l.width - l.row.column
