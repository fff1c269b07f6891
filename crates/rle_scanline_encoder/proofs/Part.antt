-- A part of a slice, borrowed for a write, as the slice after it.
use Rattle.std.proofs.Common.{◌≡◌, ℕ, ◌+◌, ◌-◌, List, length, arith}
use lib.Seq.{drop-drop}
use borrow.Rule.Slice.PartMut.{put_mid}
use Rattle.rle_format.specs.Slice.{write_at}

-- the part from `at` to e now holds ys
pub put_mid-write_at : (d ys : List ℕ) (at e : ℕ) → e ≡ at + length ys → put_mid at (e - at) d ys ≡ write_at d at ys
unfolding write_at
put_mid-write_at d ys at e h =
    let n : e - at ≡ length ys = omega arith in
    rw (n, drop-drop (length ys) at d)
