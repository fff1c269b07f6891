-- `Column::copy_block`: the first i words are read; then the first k samples are copied.
use Rattle.std.proofs.Common.{◌≡◌, ℕ, ◌+◌, ◌*◌, ◌/◌, ◌%◌, ◌^◌, ◌<◌, length, get_or}
use Rattle.pixel_format.specs.Column.{samples_at, IsCopied}
use Rattle.pixel_format.proofs.column.Column.copy_block.Given as goal

abbrev pub invariant-loop-i : goal.invariant-loop-i
invariant-loop-i g l = (length l.word-items ≡ l.i-end) × ((j : ℕ) → j < l.i → get_or l.word-items j 0 / 2 ^ (8 * l.self.offset) % 256 ≡ get_or (samples_at l.self) (l.from + j) 0)

abbrev pub invariant-loop-k : goal.invariant-loop-k
invariant-loop-k g l = IsCopied (samples_at l.self) l.fn.from l.dst l.k
