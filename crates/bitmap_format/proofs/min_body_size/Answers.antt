-- `min_body_size`: 0 for sides that are refused, else the sum over the planes, with alpha and without.
use Rattle.bitmap_format.specs.Sizes.{min_body_size_of}
use Rattle.bitmap_format.proofs.CheckedSizes.{no_size, has_size}
use Rattle.bitmap_format.proofs.Sizes.{min_body_size_alpha, min_body_size_no_alpha}
use Rattle.bitmap_format.proofs.min_body_size.Goals as goal

pub returns-in_default : goal.returns-in_default
returns-in_default c = no_size _ _ _ c.new.ensures _ c.in_default.is _

pub returns-then-header : goal.returns-then-header
returns-then-header c =
    let s = c.in-Ok.sides in
    let t = c.has_subsampled_chroma-subsampling in
    let m = c.min_color_planes_size-color in
    has_size _ _ _ c.new.ensures s c.in-Ok.is (min_body_size_of c.args.header) _
    (min_body_size_alpha c.args.header s.width s.height t.result t.ensures c.min_plane_size.result m.result c.if-header.true c.min_plane_size.ensures.size m.ensures.size)

pub returns : goal.returns
returns c =
    let s = c.in-Ok.sides in
    let t = c.has_subsampled_chroma-subsampling in
    let m = c.min_color_planes_size-color in
    has_size _ _ _ c.new.ensures s c.in-Ok.is (min_body_size_of c.args.header) _
    (min_body_size_no_alpha c.args.header s.width s.height t.result t.ensures m.result c.if-header.false m.ensures.size)
