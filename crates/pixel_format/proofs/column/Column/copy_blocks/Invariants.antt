-- `Column::copy_blocks`: after each iteration the samples of whole blocks are copied.
use Rattle.std.proofs.Common.{◌*◌}
use Rattle.pixel_format.specs.Column.{samples_at, IsCopied}
use Rattle.pixel_format.proofs.column.Column.copy_blocks.Given as goal

abbrev pub invariant-loop-block : goal.invariant-loop-block
invariant-loop-block g l = IsCopied (samples_at l.self) l.from l.dst (l.block * g.row.N)
