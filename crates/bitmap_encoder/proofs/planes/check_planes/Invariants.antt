-- `check_planes`: whether a plane is short depends on those that are left.
use Rattle.std.proofs.Common.{◌≡◌, ◌*◌, map, drop}
use Rattle.pixel_format.specs.Samples.{samples_in}
use Rattle.bitmap_format.specs.PackPicture.{any_short}
use Rattle.bitmap_encoder.proofs.planes.check_planes.Given as goal

abbrev pub invariant-loop-plane : goal.invariant-loop-plane
invariant-loop-plane l =
    any_short (l.sides.width * l.sides.height) (map samples_in l.planes) ≡ any_short (l.sides.width * l.sides.height) (map samples_in (drop l.plane-index l.planes))
