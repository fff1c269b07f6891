-- `layout_refusal`: what the sides are refused with, or else 3.
use Rattle.std.proofs.Common.{arith}
use Rattle.rle_format.specs.Answer.{refused}
use Rattle.rle_format.proofs.CheckedSides.{sides_refused, sides_pass}
use Rattle.rdp6.specs.Layout.{unknown_layout}
use Rattle.rdp6.proofs.Layouts.{same_sides}
use Rattle.rdp6.proofs.layout_refusal.Goals as goal

pub returns-in-Ok : goal.returns-in-Ok
unfolding unknown_layout
returns-in-Ok c = same_sides c.args.width c.args.height _ _ _ (sides_pass _ _ c.in-Ok.field-0 c.in-Ok.ensures refused (refused 3)) (omega arith) (omega arith)

pub returns-in-Err : goal.returns-in-Err
unfolding unknown_layout
returns-in-Err c = same_sides c.args.width c.args.height _ _ _ (sides_refused _ _ c.in-Err.refusal c.in-Err.ensures refused (refused 3)) (omega arith) (omega arith)
