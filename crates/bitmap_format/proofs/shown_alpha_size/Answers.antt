-- `shown_alpha_size`: 0 for sides that are refused; three-byte pixels show no alpha, four-byte pixels that of the picture.
use Rattle.std.proofs.Common.{◌∙◌}
use Rattle.bitmap_format.specs.Pixels.{format_to_form, shown_alpha_size_of}
use Rattle.bitmap_format.proofs.CheckedSizes.{no_size, has_size}
use Rattle.bitmap_format.proofs.Sizes.{shown_unflagged, shown_three, shown_four}
use Rattle.bitmap_format.proofs.shown_alpha_size.Goals as goal

pub returns-in_default-clause-size : goal.returns-in_default-clause-size
returns-in_default-clause-size c = no_size _ _ _ c.new.ensures _ c.in_default.is _

pub returns-then-not-flagged-clause-size : goal.returns-then-not-flagged-clause-size
returns-then-not-flagged-clause-size c =
    let s = c.in-Ok.sides in
    has_size _ _ _ c.new.ensures s c.in-Ok.is (shown_alpha_size_of (format_to_form c.args.format) c.args.flagged) _
    (shown_unflagged (format_to_form c.args.format) c.args.flagged s.width s.height c.if-not-flagged.true)

pub returns-in-Rgb24-clause-size : goal.returns-in-Rgb24-clause-size
returns-in-Rgb24-clause-size c =
    let s = c.in-Ok.sides in
    has_size _ _ _ c.new.ensures s c.in-Ok.is (shown_alpha_size_of (format_to_form c.args.format) c.args.flagged) _
    (shown_three _ c.args.flagged s.width s.height c.in-Rgb24.is)

pub returns-in-FourBytes-clause-size : goal.returns-in-FourBytes-clause-size
returns-in-FourBytes-clause-size c =
    let s = c.in-Ok.sides in
    has_size _ _ _ c.new.ensures s c.in-Ok.is (shown_alpha_size_of (format_to_form c.args.format) c.args.flagged) _
    (c.area.ensures ∙ shown_four _ _ c.args.flagged s.width s.height c.in-FourBytes.is c.if-not-flagged.false)
