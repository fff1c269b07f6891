-- The examples hold: one proof for the list.
use mathlib.Core.Path.{◌≡◌, refl}
use mathlib.Core.List.{map}
use Rattle.rle_format.specs.Answer.{stop, prepend}
use Rattle.rle_format.specs.Sides.{check_sides_of}
use Rattle.rle_format.specs.Slice.{overwrite, write_at}
use Rattle.rle_format.specs.Delta.{difference, delta_code, undo_delta, difference_from_code}
use Rattle.rle_format.specs.Segment.{read_segment, raw_count, run_length}
use Rattle.rle_format.specs.Unpack.{unpack_plane, unpack_rows, read_row}
use Rattle.rle_format.specs.Pack.{pack_plane, write_segments, packing, plane_segments, codes_at, row_at, row_segments, scan_segments, split_segments, long_run}
use Rattle.rle_format.specs.Examples.{examples, computed, expected}

pub examples_hold : map computed examples ≡ map expected examples
unfolding pack_plane write_segments packing plane_segments codes_at row_at row_segments scan_segments split_segments long_run delta_code difference unpack_plane unpack_rows read_row read_segment raw_count run_length undo_delta difference_from_code check_sides_of stop prepend overwrite write_at
examples_hold = refl
