-- `encode_row`: writing the segments of the rest of the scan from here on is writing those of the row.
use Rattle.std.proofs.Common.{◌-◌, length}
use Rattle.rle_format.specs.Pack.{row_segments}
use Rattle.rle_format.proofs.WriteLoop.{WriteInvariant}
use Rattle.rle_scanline_encoder.proofs.Scan.{Scanned, scan}
use Rattle.rle_scanline_encoder.proofs.row.encode_row.Given as goal

abbrev pub invariant-loop-i : goal.invariant-loop-i
invariant-loop-i l =
    Scanned l.codes l.start l.last l.i × WriteInvariant (row_segments l.codes) (scan l.codes l.start l.last l.i) l.fn.dst l.dst 0 l.to

abbrev pub decreases-loop-i : goal.decreases-loop-i
decreases-loop-i l = length l.codes - l.i
