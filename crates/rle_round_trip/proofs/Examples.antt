-- The examples hold: one proof for the list.
use mathlib.Core.Path.{◌≡◌, refl}
use mathlib.Core.List.{map}
use Rattle.rle_format.specs.Delta.{difference, delta_code}
use Rattle.rle_format.specs.Pack.{packing, plane_segments, codes_at, row_at, row_segments, scan_segments, split_segments, long_run}
use Rattle.rle_round_trip.specs.Prefix.{covered_values, covered_in_row}
use Rattle.rle_round_trip.specs.Examples.{examples, computed, expected}

pub examples_hold : map computed examples ≡ map expected examples
unfolding packing plane_segments codes_at row_at row_segments scan_segments split_segments long_run delta_code difference covered_values covered_in_row
examples_hold = refl
