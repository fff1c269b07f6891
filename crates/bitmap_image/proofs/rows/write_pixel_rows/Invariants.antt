-- `write_pixel_rows`: an iteration of its loop is a row; the invariant is `ImageInvariant` of ImageLoop.antt.
use Rattle.std.proofs.Common.{◌≡◌, ◌*◌}
use Rattle.pixel_format.specs.Channel.{channel_offsets}
use Rattle.bitmap_format.specs.Planes.{subsampled}
use Rattle.bitmap_format.specs.Pixels.{four_bytes}
use Rattle.bitmap_format.specs.Counting.{IsChromaStart}
use Rattle.bitmap_image.specs.Rows.{row_with}
use Rattle.bitmap_image.proofs.ImageLoop.{ImageInvariant}
use Rattle.bitmap_image.proofs.rows.write_pixel_rows.Given as goal

abbrev pub invariant-loop-row : goal.invariant-loop-row
invariant-loop-row l =
    let p = l.shown.colors.picture in
    (l.to ≡ l.row * (4 * p.width)) × IsChromaStart (subsampled p.header.color_plane_definition) p.width (p.width * p.height) l.row l.second
    × ImageInvariant l.fn.image l.image l.row (4 * p.width)
    (row_with (four_bytes (channel_offsets l.layout)) p.header.color_plane_definition p.header.use_alpha p.width p.height l.shown.colors.planes.now l.shown.alpha.now l.shown.step)
