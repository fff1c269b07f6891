-- `LossLevel::color`: the three colours, as they are with the alpha flag, and exchanged without. A level that is known is never black.
use Rattle.std.proofs.Common.{◌∙◌, refl}
use Rattle.bitmap_format.specs.Colour.{aycocg_colour}
use Rattle.bitmap_color.proofs.Colour.{colour_level_known}
use Rattle.bitmap_color.proofs.loss_level.LossLevel.color.Goals as goal

pub returns-then-alpha-clause-color : goal.returns-then-alpha-clause-color
unfolding aycocg_colour
returns-then-alpha-clause-color c = simp (c.if-alpha.true, c.ycocg_with_cll_to_rgb-color.ensures)

pub returns-then-alpha-clause-shown : goal.returns-then-alpha-clause-shown
returns-then-alpha-clause-shown c =
    let l = c.args.self in
    returns-then-alpha-clause-color c ∙ colour_level_known _ _ _ _ _ l.level l.allowed.0 l.allowed.1 refl

pub returns-clause-color : goal.returns-clause-color
unfolding aycocg_colour
returns-clause-color c = simp (c.if-alpha.false, c.ycocg_with_cll_to_rgb-color.ensures)

pub returns-clause-shown : goal.returns-clause-shown
returns-clause-shown c =
    let l = c.args.self in
    returns-clause-color c ∙ colour_level_known _ _ _ _ _ l.level l.allowed.0 l.allowed.1 refl
