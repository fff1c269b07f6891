-- `write_planes`: writing the planes that are left, from here on, is writing all of them; none of them is short, and they fit.
use Rattle.std.proofs.Common.{◌≡◌, ◌+◌, false, length, map, drop}
use Rattle.rle_format.specs.Slice.{write_at}
use Rattle.pixel_format.specs.Samples.{samples_in}
use Rattle.bitmap_format.specs.PackPicture.{raw_samples, any_short}
use Rattle.bitmap_encoder.proofs.planes.write_planes.Given as goal

abbrev pub invariant-loop-plane : goal.invariant-loop-plane
invariant-loop-plane l =
    (any_short l.n (map samples_in (drop l.plane-index l.planes)) ≡ false)
    × (l.at + length (raw_samples l.n (map samples_in (drop l.plane-index l.planes))) ≡ length (raw_samples l.n (map samples_in l.planes)))
    × (write_at l.dst l.at (raw_samples l.n (map samples_in (drop l.plane-index l.planes))) ≡ write_at l.fn.dst 0 (raw_samples l.n (map samples_in l.planes)))
