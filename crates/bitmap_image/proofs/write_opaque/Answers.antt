-- `write_opaque`: a row of 255 is the alpha of each row, whatever the alpha plane would be.
use Rattle.pixel_format.specs.Channel.{channel_offsets}
use Rattle.std.proofs.Common.{◌∙◌}
use Rattle.bitmap_format.specs.Pixels.{four_bytes}
use Rattle.bitmap_format.specs.Sizes.{row_size}
use Rattle.bitmap_image.proofs.AlphaRows.{opaque_rows}
use Rattle.bitmap_image.proofs.write_opaque.Goals as goal

pub returns : goal.returns
returns g c =
    let p = c.args.colors.picture in
    let form = four_bytes (channel_offsets c.args.layout) in
    λ alpha.
    c.write_with_alpha.ensures
    ∙ opaque_rows p.header.color_plane_definition p.header.use_alpha (row_size form p.width) p.width p.height c.args.colors.planes.now alpha c.args.image.now form g.row.N c.requires.0 c.requires.1
