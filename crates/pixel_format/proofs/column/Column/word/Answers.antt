-- `Column::word`: the byte at the offset.
use Rattle.std.proofs.Common.{◌+◌, ◌<◌, get_or, arith}
use Rattle.pixel_format.proofs.ColumnSamples.{byte_at_offset}
use Rattle.pixel_format.proofs.column.Column.word.Goals as goal

pub returns : goal.returns
returns c =
    let p = c.args.self.pixels.now in
    let at = c.args.at in
    let h₀ : get_or p at 0 < 256 = grind arith in
    let h₁ : get_or p (at + 1) 0 < 256 = grind arith in
    let h₂ : get_or p (at + 2) 0 < 256 = grind arith in
    let h₃ : get_or p (at + 3) 0 < 256 = grind arith in
    byte_at_offset p at c.from_le_bytes.result h₀ h₁ h₂ h₃ c.from_le_bytes.ensures c.args.self.offset c.args.self.within
