-- Unpacking a row and a plane (FORMAT 4; MS-RDPEGDI 3.1.9.2).
use Rattle.std.specs.Prelude.{ℕ, zero, suc, ◌+◌, ◌-◌, ◌*◌, true, false, List, [], ◌++◌, ltb, drop}
use Rattle.std.proofs.Math.Option.{Option, none, some}
use Rattle.rle_format.specs.Choice.{choose}
use Rattle.rle_format.specs.Sides.{check_sides_of}
use Rattle.rle_format.specs.Answer.{counted, refused, Outcome, stop, refuse, prepend}
use Rattle.rle_format.specs.Delta.{restore_row_of}
use Rattle.rle_format.specs.Segment.{segment, refused_segment, read_segment, segment_values, segment_size, value_count, last_byte_after}

-- a full row, with its coded values and the number of bytes read; or a row that was refused, with the coded values of its earlier segments
-- and the number of the refusal
pub data RowRead : Type 0 where
  full : (codes : List ℕ) (read : ℕ) → RowRead
  stopped : (codes : List ℕ) (number : ℕ) → RowRead

-- vs, read from n bytes, in front of a row
abbrev pub prepend_row : List ℕ → ℕ → RowRead → RowRead
prepend_row vs n (full codes read) = full (vs ++ codes) (n + read)
prepend_row vs n (stopped codes r) = stopped (vs ++ codes) r

-- the rest of a row (FORMAT 4.1): `room` is the number of values that it still has room for, `last` the last byte. `bound` limits the number of
-- segments, so that the recursion ends; number 0, which is no refusal, marks a bound that was too low. Every segment has at least one
-- value, so that a bound of at least `room` is never too low (proofs/Row.antt: row_bounded)
unfoldable pub read_row : (bound room last : ℕ) (body : List ℕ) → RowRead
read_row zero zero last body = full [] 0
read_row zero (suc room) last body = stopped [] 0
read_row (suc bound) zero last body = full [] 0
read_row (suc bound) (suc room) last body =
    elim (read_segment body) [
      | refused_segment r ↦ stopped [] r
      | segment s ↦ elim (ltb (suc room) (value_count s)) [
        | true ↦ stopped [] 9
        | false ↦ prepend_row (segment_values last s) (segment_size s) (read_row bound (suc room - value_count s) (last_byte_after last s) (drop (segment_size s) body))
      ]
    ]

-- what reading a row writes: its coded values, before the row above is added
abbrev pub row_outcome : RowRead → Outcome
row_outcome (full codes read) = record { written = codes; answer = counted read }
row_outcome (stopped codes r) = record { written = codes; answer = refused r }

-- `height` rows, below the row `above` if there is one. The last byte is 0 at the start of each row, and a row is restored once it is full; a
-- refused row keeps its coded values (FORMAT 4.3, 8.3)
unfoldable pub unpack_rows : (width height : ℕ) (above : Option (List ℕ)) (body : List ℕ) → Outcome
unpack_rows width zero above body = stop (counted 0)
unpack_rows width (suc height) above body =
    elim (read_row width width 0 body) [
      | stopped codes r ↦ row_outcome (stopped codes r)
      | full codes n ↦ prepend (restore_row_of above codes) n (unpack_rows width height (some (restore_row_of above codes)) (drop n body))
    ]

-- unpacking a plane into a destination of `room` bytes: refusals 1, 2, 10, then 7, 8, 9 (FORMAT 8.2). The answer is the number of bytes read
-- (FORMAT 4.4)
unfoldable pub unpack_plane : (width height room : ℕ) (body : List ℕ) → Outcome
unpack_plane width height room body =
    check_sides_of refuse width height
    (choose (ltb room (width * height)) (refuse 10) (unpack_rows width height none body))
