-- `color_planes_size`: 0 for sides that are refused, else the samples of the colour planes.
use Rattle.bitmap_format.specs.Sizes.{colour_planes_size}
use Rattle.bitmap_format.proofs.CheckedSizes.{no_size, has_size}
use Rattle.bitmap_format.proofs.Sizes.{colour_planes_size_of}
use Rattle.bitmap_format.proofs.color_planes_size.Goals as goal

pub returns-in_default : goal.returns-in_default
returns-in_default c = no_size _ _ _ c.new.ensures _ c.in_default.is _

pub returns : goal.returns
returns c =
    let s = c.in-Ok.sides in
    let t = c.has_subsampled_chroma-subsampling in
    let m = c.min_color_planes_size in
    has_size _ _ _ c.new.ensures s c.in-Ok.is (colour_planes_size c.args.header) _
    (colour_planes_size_of c.args.header s.width s.height t.result t.ensures m.result m.ensures.size)
