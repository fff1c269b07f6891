-- `min_color_planes_size`: the sum over the three colour planes, of which two are alike.
use Rattle.bitmap_format.proofs.Sizes.{chroma_sides_allowed, colour_sum}
use Rattle.bitmap_format.proofs.plane_sizes.min_color_planes_size.Goals as goal

pub invariant_of-chroma : goal.invariant_of-chroma
invariant_of-chroma c =
    let s = c.args.sides in
    record { allowed = chroma_sides_allowed c.args.subsampling s.width s.height _ _ s.allowed c.chroma_side.ensures c.chroma_side-2.ensures }

pub returns-clause-size : goal.returns-clause-size
returns-clause-size c =
    let s = c.args.sides in
    colour_sum c.args.rle c.args.subsampling s.width s.height _ _ c.min_plane_size.result c.min_plane_size-2.result c.chroma_side.ensures c.chroma_side-2.ensures c.min_plane_size.ensures.size c.min_plane_size-2.ensures.size
