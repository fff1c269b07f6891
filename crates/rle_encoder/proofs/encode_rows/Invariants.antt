-- `encode_rows`: writing the rows from r on, from here on, is writing all rows, and the row above is at hand.
use Rattle.std.proofs.Common.{◌-◌}
use Rattle.rle_format.specs.Pack.{plane_segments}
use Rattle.pixel_format.specs.Samples.{samples_in}
use Rattle.rle_format.proofs.WriteLoop.{WriteInvariant}
use Rattle.rle_encoder.specs.CodeRow.{KeepsRowAbove}
use Rattle.rle_encoder.proofs.Rows.{segments_from_row}
use Rattle.rle_encoder.proofs.encode_rows.Given as goal

abbrev pub invariant-loop-r : goal.invariant-loop-r
invariant-loop-r l =
    KeepsRowAbove l.samples.layout l.width (samples_in l.samples) l.r l.above
    × WriteInvariant (plane_segments l.width l.r-end (samples_in l.samples)) (segments_from_row l.width (samples_in l.samples) l.r (l.r-end - l.r)) l.fn.dst l.dst 0 l.to
