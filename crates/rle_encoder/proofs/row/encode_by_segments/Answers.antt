-- `encode_by_segments`: what was packed into the part that was borrowed, as a write of the whole.
use Rattle.std.proofs.Common.{Ok, Err, refl, arith}
use Rattle.std.proofs.lemmas.Result.{err_from_is_err_and}
use Rattle.rle_format.specs.Pack.{row_segments}
use Rattle.rle_format.proofs.WriteLoop.{part_refused, part_written, part_within}
use Rattle.rle_encoder.proofs.row.encode_by_segments.Goals as goal

pub returns-in_err-bytes : goal.returns-in_err-bytes
returns-in_err-bytes c =
    let why = c.in_err-bytes in
    let w = part_refused (row_segments c.args.codes.now) c.args.dst.now _ c.args.at (Err why.field-0.0) why.ensures.answer why.ensures.slice why.field-0.0 refl in
    let p = err_from_is_err_and c.from_residual.result c.from_residual.ensures.1 in
    record { answer = rw (p.1, p.2) w.0; slice = w.1 }

pub overflow_add-result : goal.overflow_add-result
overflow_add-result c =
    let row = c.in_ok-bytes in
    let most = part_within (row_segments c.args.codes.now) c.args.dst.now _ c.args.at (Ok row.bytes) row.ensures.answer row.ensures.slice row.bytes refl in
    omega arith

pub returns : goal.returns
returns c =
    let row = c.in_ok-bytes in
    let w = part_written (row_segments c.args.codes.now) c.args.dst.now _ c.args.at (Ok row.bytes) row.ensures.answer row.ensures.slice row.bytes refl in
    record { answer = w.0; slice = w.1 }
