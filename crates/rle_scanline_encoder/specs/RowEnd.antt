-- How a row ends (FORMAT 5.1). Only contracts of inner functions use this.
use Rattle.std.specs.Prelude.{ℕ, ◌+◌, ◌-◌, List, leb, length, take, drop}
use Rattle.rle_format.specs.Choice.{choose}
use Rattle.rle_format.specs.Segment.{Segment}
use Rattle.rle_format.specs.Pack.{split_segments}

-- the last segments of a row: the pending values begin at index `start`, and the value at `last` is repeated up to the end of the row
abbrev pub row_end_segments : (codes : List ℕ) (start last : ℕ) → List Segment
row_end_segments codes start last =
    choose (leb 3 (length codes - last - 1))
    (split_segments (take (last + 1 - start) (drop start codes)) (length codes - last - 1))
    (split_segments (drop start codes) 0)
