-- `encode_rows`: each turn writes the segments of one row.
use Rattle.std.proofs.Common.{Ok, Err, ◌+◌, ◌-◌, drop, refl, ◌∙◌, length-take-le, arith}
use Rattle.std.proofs.lemmas.Result.{err_from_is_err_and}
use Rattle.rle_format.specs.Pack.{row_segments, codes_at, plane_segments}
use Rattle.pixel_format.specs.Samples.{samples_in}
use Rattle.rle_format.proofs.WriteLoop.{write_start, write_same_rest, write_next, write_stop, write_end, wrote_from_0}
use Rattle.rle_encoder.proofs.Rows.{segments_from_row, segments_from_row_0, segments_from_row_step, segments_from_row_end, row_written, keeps_row_above}
use Rattle.rle_encoder.proofs.encode_rows.Goals as goal

pub loop-r-init : goal.loop-r-init
loop-r-init c =
    let a = c.args in
    let samples = samples_in a.samples in (
      (λ apart h. absurd (omega arith)),
      write_same_rest (write_start (plane_segments a.sides.width a.sides.height samples) a.dst.now 0 (omega arith)) (segments_from_row a.sides.width samples 0 (a.sides.height - 0)) (segments_from_row_0 a.sides.width samples a.sides.height),
    )

pub returns-in_err-to : goal.returns-in_err-to
returns-in_err-to c =
    let l = c.loop-r in
    let a = c.args in
    let samples = samples_in a.samples in
    let code = c.code_row in
    let put = c.encode_to in
    let why = c.in_err-to in
    let wrote = row_written a.sides.width samples l.r code.new.codes (drop a.sides.width l.codes) (code.auto.codes ∙ length-take-le a.sides.width l.codes (omega arith)) code.ensures.codes l.dst put.new.dst l.to (Err why.field-0.0) (why.ensures.answer, why.ensures.slice) in
    let w = wrote_from_0 (plane_segments a.sides.width a.sides.height samples) a.dst.now put.new.dst (Err why.field-0.0)
    (write_stop l.invariant.1 (row_segments (codes_at a.sides.width samples l.r)) (segments_from_row a.sides.width samples (l.r + 1) (a.sides.height - (l.r + 1))) put.new.dst (Err why.field-0.0) why.field-0.0
    (segments_from_row_step a.sides.width samples l.r a.sides.height (omega arith)) wrote refl) in
    let p = err_from_is_err_and c.from_residual.result c.from_residual.ensures.1 in
    record { answer = rw (p.1, p.2) w.0; slice = w.1 }

pub loop-r-preserved : goal.loop-r-preserved
loop-r-preserved c =
    let l = c.loop-r in
    let a = c.args in
    let samples = samples_in a.samples in
    let code = c.code_row in
    let put = c.encode_to in
    let next = c.in_ok-to in
    let wrote = row_written a.sides.width samples l.r code.new.codes (drop a.sides.width l.codes) (code.auto.codes ∙ length-take-le a.sides.width l.codes (omega arith)) code.ensures.codes l.dst put.new.dst l.to (Ok next.to) (next.ensures.answer, next.ensures.slice) in (
      keeps_row_above a.samples.layout a.sides.width samples (l.r + 1) code.new.above (drop a.sides.width l.above) (code.auto.above ∙ length-take-le a.sides.width l.above (omega arith)) code.ensures.above,
      write_next l.invariant.1 (row_segments (codes_at a.sides.width samples l.r)) (segments_from_row a.sides.width samples (l.r + 1) (a.sides.height - (l.r + 1))) put.new.dst (Ok next.to) next.to
          (segments_from_row_step a.sides.width samples l.r a.sides.height (omega arith)) wrote refl,
    )

pub returns : goal.returns
returns c =
    let l = c.loop-r in
    let a = c.args in
    let samples = samples_in a.samples in
    let w = wrote_from_0 (plane_segments a.sides.width a.sides.height samples) a.dst.now l.dst (Ok l.to)
    (write_end l.invariant.1 (segments_from_row_end a.sides.width samples l.r (a.sides.height - l.r) (omega arith))) in
    record { answer = w.0; slice = w.1 }
