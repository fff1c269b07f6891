-- `Column::copy`: blocks of 16, of 4 and of 1, each behind the ones before.
use Rattle.std.proofs.Common.{ℕ, ◌/◌, length, take, drop, ap, ◌∙◌, arith}
use Rattle.pixel_format.specs.Column.{samples_at}
use Rattle.pixel_format.proofs.ChannelSamples.{length_strided}
use Rattle.pixel_format.proofs.ColumnSamples.{three_copied}
use Rattle.pixel_format.proofs.column.Column.copy.Goals as goal

pub returns : goal.returns
returns c =
    let a = c.args in
    let s = samples_at a.self in
    let n = length_strided 4 a.self.offset (length a.self.pixels.now / 4) a.self.pixels.now in
    let one = c.copy_blocks-i in
    let two = c.copy_blocks in
    let three = c.copy_blocks-2 in
    three_copied s one.new.dst two.new.dst three.new.dst a.from one.result two.result three.result
    (omega (arith, one.auto.dst)) (omega (arith, one.auto.dst)) two.auto.dst two.ensures.within.0 three.auto.dst three.ensures.within.0 three.ensures.within.1 one.ensures.copied two.ensures.copied three.ensures.copied
    ∙ ap (λ (k : ℕ). take k (drop a.from s)) one.auto.dst
