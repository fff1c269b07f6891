-- `ColorPlanes::row_samples`: the planes have room for all rows (`first_row_within` of ImageLoop.antt).
use Rattle.std.proofs.Common.{length, arith}
use Rattle.rle_format.proofs.Slice.{suffix_drop, suffix_room}
use Rattle.bitmap_format.specs.Planes.{subsampled}
use Rattle.bitmap_image.proofs.ImageLoop.{first_row_within}
use Rattle.bitmap_image.proofs.planes.ColorPlanes.row_samples.Goals as goal

pub slice_bounds-result-count : goal.slice_bounds-result-count
slice_bounds-result-count c =
    let p = c.args.self.picture in
    let first = first_row_within (subsampled p.header.color_plane_definition) p.width p.height (length c.args.self.planes.now) c.args.row c.args.self.room c.requires.0 in
    omega arith

pub slice_bounds-result-start : goal.slice_bounds-result-start
slice_bounds-result-start c =
    let p = c.args.self.picture in
    let first = first_row_within (subsampled p.header.color_plane_definition) p.width p.height (length c.args.self.planes.now) c.args.row c.args.self.room c.requires.0 in
    omega arith

pub returns-clause-rows : goal.returns-clause-rows
returns-clause-rows c =
    let planes = c.args.self.planes.now in
    (suffix_drop planes _, suffix_drop planes _, suffix_drop planes _)

pub returns-clause-room : goal.returns-clause-room
returns-clause-room c =
    let p = c.args.self.picture in
    let planes = c.args.self.planes.now in
    let first = first_row_within (subsampled p.header.color_plane_definition) p.width p.height (length planes) c.args.row c.args.self.room c.requires.0 in
    (suffix_room planes _ p.width first, suffix_room planes _ _ c.requires.1, suffix_room planes _ _ c.requires.2)
