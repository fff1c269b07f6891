-- `layout_of`: each number has its layout, and no other has one.
use Rattle.std.proofs.Common.{sym, ap, arith}
use Rattle.rdp6.specs.Layout.{c_layout}
use Rattle.rdp6.proofs.Layouts.{c_layout_unknown}
use Rattle.rdp6.proofs.layout_of.Goals as goal

pub returns-in-0 : goal.returns-in-0
unfolding c_layout
returns-in-0 c = ap c_layout (sym c.in-0.is)

pub returns-in-1 : goal.returns-in-1
unfolding c_layout
returns-in-1 c = ap c_layout (sym c.in-1.is)

pub returns-in-2 : goal.returns-in-2
unfolding c_layout
returns-in-2 c = ap c_layout (sym c.in-2.is)

pub returns-in-3 : goal.returns-in-3
unfolding c_layout
returns-in-3 c = ap c_layout (sym c.in-3.is)

pub returns-in_default : goal.returns-in_default
returns-in_default c = sym (c_layout_unknown c.args.layout (omega arith))
