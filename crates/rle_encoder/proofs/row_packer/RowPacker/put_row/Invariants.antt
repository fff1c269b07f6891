-- `put_row`: the loop keeps that what is written, and then the segments of the row's rest, is all (`PutHead`), and that the flags from i on are
-- still in the array.
use Rattle.std.proofs.Common.{◌≡◌, ◌+◌, ◌-◌, ◌*◌, ◌/◌, ◌≤◌, length, take, drop}
use Rattle.rle_format.specs.Pack.{row_segments}
use Rattle.rle_format.proofs.Slice.{suffix}
use Rattle.rle_encoder.specs.RunFlags.{Flagged, Bits}
use Rattle.rle_encoder.proofs.Put.{PutHead}
use Rattle.rle_encoder.proofs.row_packer.RowPacker.put_row.Given as goal

abbrev pub invariant-loop-i : goal.invariant-loop-i
invariant-loop-i l =
    (l.i ≤ l.width)
    × (length l.packed ≡ length l.fn.self.packed.now)
    × (l.flags ≡ l.width / 15 + 16)
    × (15 * l.to ≤ 16 * l.i)
    × Flagged l.codes (suffix l.packed l.flags) l.i l.width
    × Bits (suffix l.packed l.flags) l.i (l.width + 8)
    × PutHead (row_segments (take l.width l.codes)) (row_segments (drop l.i (take l.width l.codes))) l.fn.self.packed.now l.packed 0 l.to

abbrev pub decreases-loop-i : goal.decreases-loop-i
decreases-loop-i l = l.width - l.i
