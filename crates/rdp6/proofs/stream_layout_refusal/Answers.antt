-- `stream_layout_refusal`: what splitting the stream returns decides.
use Rattle.std.proofs.Common.{◌∙◌}
use Rattle.rdp6.proofs.Layouts.{stream_refused, stream_split}
use Rattle.rdp6.proofs.stream_layout_refusal.Goals as goal

pub returns-in-Err : goal.returns-in-Err
returns-in-Err c = stream_refused c.args.width c.args.height c.args.stream.now c.in-Err.reason c.in-Err.ensures.split

pub returns-in-Ok : goal.returns-in-Ok
returns-in-Ok c = c.layout_refusal.ensures ∙ stream_split c.args.width c.args.height c.args.stream.now c.in-Ok.field-0 c.in-Ok.ensures.split
