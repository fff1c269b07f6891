-- `chroma_sizes`: the sides of a chroma plane are at most those of the picture.
use Rattle.std.proofs.Common.{◌≤◌, arith}
use Rattle.rle_format.proofs.Plane.{area_max}
use Rattle.bitmap_format.specs.Planes.{chroma_side_of}
use Rattle.bitmap_format.proofs.Sizes.{chroma_side-max}
use Rattle.bitmap_image.proofs.planes.chroma_sizes.Goals as goal

pub overflow_mul-size : goal.overflow_mul-size
overflow_mul-size c =
    let p = c.args.picture in
    let s = c.has_subsampled_chroma-subsampling.result in
    let wide : chroma_side_of s p.width ≤ 8192 = omega (arith, chroma_side-max s p.width, p.allowed.wide) in
    let high : chroma_side_of s p.height ≤ 8192 = omega (arith, chroma_side-max s p.height, p.allowed.high) in
    let most = area_max c.chroma_side-width.result c.chroma_side.result (omega (arith, c.chroma_side-width.ensures)) (omega (arith, c.chroma_side.ensures)) in
    omega arith
