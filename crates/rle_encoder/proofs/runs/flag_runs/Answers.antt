-- `flag_runs`: the flags of the row are bits, and those behind it are cleared.
use Rattle.std.proofs.Common.{arith, length-take, length-drop}
use Rattle.rle_encoder.proofs.Flags.{row_bits}
use Rattle.rle_encoder.proofs.runs.flag_runs.Goals as goal

pub returns-clause-bits : goal.returns-clause-bits
returns-clause-bits c = row_bits c.args.codes.now c.loop-i.flags c.fill.new.self _ c.args.width _ (λ j f h. c.loop-i.invariant j f (omega arith)) (omega arith) (simp (length-take, length-drop) (omega arith)) (c.fill.ensures.after (λ y e. e))
