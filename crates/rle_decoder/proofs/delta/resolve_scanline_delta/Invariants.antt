-- `resolve_scanline_delta`: after i iterations the first i samples stand below the row.
use Rattle.std.proofs.Common.{◌≡◌, length, take}
use Rattle.rle_format.specs.Slice.{write_at}
use Rattle.rle_decoder.proofs.Restore.{below}
use Rattle.rle_decoder.proofs.delta.resolve_scanline_delta.Given as goal

abbrev pub invariant-loop-i : goal.invariant-loop-i
invariant-loop-i l = l.rows ≡ write_at l.fn.rows (length l.codes) (take l.i (below l.fn.rows l.codes))
