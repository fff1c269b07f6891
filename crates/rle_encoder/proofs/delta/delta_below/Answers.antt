-- `delta_below`: one more sample is coded.
use Rattle.std.proofs.Common.{sym, ◌∙◌, arith}
use Rattle.rle_format.specs.Delta.{delta_code}
use Rattle.rle_format.proofs.Delta.{length_zip_with, get_or_zip_with}
use Rattle.rle_encoder.proofs.Replaced.{replaced_step, replaced_end}
use Rattle.rle_encoder.proofs.delta.delta_below.Goals as goal

pub loop-i-preserved : goal.loop-i-preserved
loop-i-preserved c =
    let l = c.loop-i in
    let a = c.args in
    let coded = length_zip_with delta_code a.above.now a.row.now (omega arith) in
    let is = get_or_zip_with delta_code a.above.now a.row.now l.i (omega arith) (omega arith) in
    replaced_step l.invariant _ (omega arith) (omega arith) (c.delta_value.ensures ∙ sym is)

pub returns : goal.returns
returns c =
    let coded = length_zip_with delta_code c.args.above.now c.args.row.now (omega arith) in
    replaced_end c.loop-i.invariant (omega arith) (omega arith)
