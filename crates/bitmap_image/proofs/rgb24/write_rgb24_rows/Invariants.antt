-- `write_rgb24_rows`: an iteration of its loop is a row; the invariant is `ImageInvariant` of ImageLoop.antt.
use Rattle.std.proofs.Common.{◌≡◌, ◌+◌, ◌*◌, []}
use Rattle.bitmap_format.specs.Planes.{subsampled}
use Rattle.bitmap_format.specs.Pixels.{three_bytes}
use Rattle.bitmap_format.specs.Image.{image_row}
use Rattle.bitmap_format.specs.Counting.{IsChromaStart}
use Rattle.bitmap_image.specs.Rows.{chroma_size_of}
use Rattle.bitmap_image.proofs.ImageLoop.{ImageInvariant}
use Rattle.bitmap_image.proofs.rgb24.write_rgb24_rows.Given as goal

abbrev pub invariant-loop-row : goal.invariant-loop-row
invariant-loop-row l =
    let p = l.planes.picture in
    (l.to ≡ l.row * (3 * p.width)) × IsChromaStart (subsampled p.header.color_plane_definition) p.width (p.width * p.height) l.row l.second
    × IsChromaStart (subsampled p.header.color_plane_definition) p.width (p.width * p.height + chroma_size_of p) l.row l.third
    × ImageInvariant l.fn.image l.image l.row (3 * p.width) (image_row three_bytes p.header.color_plane_definition p.header.use_alpha p.width p.height l.planes.planes.now [])
