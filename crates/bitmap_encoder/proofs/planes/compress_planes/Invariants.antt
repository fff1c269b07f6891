-- `compress_planes`: writing the planes that are left, from here on, is writing all of them; none of them is short.
use Rattle.std.proofs.Common.{◌≡◌, ◌*◌, false, map, drop}
use Rattle.pixel_format.specs.Samples.{samples_in}
use Rattle.rle_format.proofs.WriteLoop.{WriteInvariant}
use Rattle.bitmap_format.specs.PackPicture.{picture_segments, any_short}
use Rattle.bitmap_encoder.proofs.planes.compress_planes.Given as goal

abbrev pub invariant-loop-plane : goal.invariant-loop-plane
invariant-loop-plane l =
    (any_short (l.sides.width * l.sides.height) (map samples_in (drop l.plane-index l.planes)) ≡ false)
    × WriteInvariant (picture_segments l.sides.width l.sides.height (map samples_in l.planes))
    (picture_segments l.sides.width l.sides.height (map samples_in (drop l.plane-index l.planes))) l.fn.dst l.dst 0 l.at
