-- `delta_row`: one more sample is coded and kept.
use Rattle.std.proofs.Common.{sym, ◌∙◌, arith}
use Rattle.rle_format.specs.Delta.{delta_code}
use Rattle.rle_format.proofs.Delta.{length_zip_with, get_or_zip_with}
use Rattle.rle_encoder.proofs.Replaced.{replaced_next, replaced_step, replaced_end}
use Rattle.rle_encoder.proofs.delta.delta_row.Goals as goal

pub loop-i-preserved : goal.loop-i-preserved
loop-i-preserved c =
    let l = c.loop-i in
    let a = c.args in
    let coded = length_zip_with delta_code a.above.now a.codes.now (omega arith) in
    let is = get_or_zip_with delta_code a.above.now a.codes.now l.i (omega arith) (omega arith) in (
      replaced_step l.invariant.0 _ (omega arith) (omega arith) (replaced_next l.invariant.1),
      replaced_step l.invariant.1 _ (omega arith) (omega arith) (c.delta_value.ensures ∙ (λ j. delta_code (replaced_next l.invariant.0 j) (replaced_next l.invariant.1 j)) ∙ sym is),
    )

pub returns-clause-codes : goal.returns-clause-codes
returns-clause-codes c =
    let coded = length_zip_with delta_code c.args.above.now c.args.codes.now (omega arith) in
    replaced_end c.loop-i.invariant.1 (omega arith) (omega arith)
