-- `Column::new`: the offset is that of the channel.
use Rattle.std.proofs.Common.{◌/◌, length, sym}
use Rattle.pixel_format.specs.Channel.{channel, strided}
use Rattle.pixel_format.proofs.Layouts.{layouts_rearrange}
use Rattle.pixel_format.proofs.column.Column.new.Goals as goal

pub returns : goal.returns
unfolding channel
returns c =
    let a = c.args in
    let four = sym (layouts_rearrange a.layout).four_bytes in
    λ i. strided (four i) (c.offset_of.ensures.offset i) (length a.pixels.now / four i) a.pixels.now
