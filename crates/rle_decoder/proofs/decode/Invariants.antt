-- `decode`: an iteration of its loop is a row; the invariant is `RowsInvariant` of RowsLoop.antt.
use Rattle.std.proofs.Common.{◌-◌}
use Rattle.rle_decoder.proofs.RowsLoop.{RowsInvariant}
use Rattle.rle_decoder.proofs.decode.Given as goal

abbrev pub invariant-loop : goal.invariant-loop
invariant-loop l = RowsInvariant l.src l.fn.dst l.dst l.fn.sides.width l.fn.sides.height l.at l.start (l.fn.sides.height - l.counter)
