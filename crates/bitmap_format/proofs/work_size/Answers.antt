-- `work_size`: 0 for sides that are refused and for a raw picture, else the samples of the colour planes, and of alpha if it is shown.
use Rattle.std.proofs.Common.{sym, ◌∙◌}
use Rattle.rle_format.proofs.Sides.{check_sides_passes}
use Rattle.bitmap_format.specs.Pixels.{format_to_form}
use Rattle.bitmap_format.specs.Sizes.{work_size_of}
use Rattle.bitmap_format.proofs.CheckedSizes.{no_size, has_size}
use Rattle.bitmap_format.proofs.Sizes.{work_size_of_lem, work_size_raw}
use Rattle.bitmap_format.proofs.work_size.Goals as goal

pub returns-in_default : goal.returns-in_default
returns-in_default c = no_size _ _ _ c.new.ensures _ c.in_default.is _

pub returns-then-header : goal.returns-then-header
returns-then-header c =
    let s = c.in-Ok.sides in
    let t = c.has_subsampled_chroma-subsampling in
    let m = c.min_color_planes_size-color in
    let z = c.shown_alpha_size in
    has_size _ _ _ c.new.ensures s c.in-Ok.is (work_size_of (format_to_form c.args.format) c.args.header) _
    (work_size_of_lem c.args.header s.width s.height t.result t.ensures (format_to_form c.args.format) z.result m.result c.if-header.true
    (z.ensures.size ∙ check_sides_passes _ s.width s.height _ s.allowed) m.ensures.size)

pub returns : goal.returns
returns c =
    let s = c.in-Ok.sides in
    has_size _ _ _ c.new.ensures s c.in-Ok.is (work_size_of (format_to_form c.args.format) c.args.header) 0
    (sym (work_size_raw (format_to_form c.args.format) c.args.header s.width s.height c.if-header.false))
