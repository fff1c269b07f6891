-- `encode_row`: each turn is a step of the scan.
use Rattle.std.proofs.Common.{Ok, Err, ◌+◌, ◌-◌, take, drop, refl, arith}
use Rattle.std.proofs.lemmas.Result.{err_from_is_err_and}
use Rattle.rle_format.specs.Pack.{split_segments, row_segments}
use Rattle.rle_scanline_encoder.specs.RowEnd.{row_end_segments}
use Rattle.rle_format.proofs.WriteLoop.{write_start, write_same_rest, write_next, write_stop, write_last}
use Rattle.rle_scanline_encoder.proofs.Scan.{scan, scan_start, scan_repeat, scan_join, scan_close, scan_end, scanned_start, scanned_new, scanned_repeat}
use Rattle.rle_scanline_encoder.proofs.row.encode_row.Goals as goal

pub loop-i-init : goal.loop-i-init
loop-i-init c =
    let codes = c.args.codes.now in (
      scanned_start codes (omega arith),
      write_same_rest (write_start (row_segments codes) c.args.dst.now 0 (omega arith)) (scan codes 0 0 1) (scan_start codes (omega arith)),
    )

pub loop-i-preserved-then-codes-i : goal.loop-i-preserved-then-codes-i
loop-i-preserved-then-codes-i c =
    let l = c.loop-i in
    let codes = c.args.codes.now in (
      scanned_repeat codes l.start l.last l.i l.invariant.0 (omega arith) c.if-codes-i.true,
      write_same_rest l.invariant.1 (scan codes l.start l.last (l.i + 1)) (scan_repeat codes l.start l.last l.i l.invariant.0 (omega arith) c.if-codes-i.true),
    )

pub loop-i-preserved-then-i-last-lt3 : goal.loop-i-preserved-then-i-last-lt3
loop-i-preserved-then-i-last-lt3 c =
    let l = c.loop-i in
    let codes = c.args.codes.now in (
      scanned_new codes l.start l.i (omega arith) (omega arith),
      write_same_rest l.invariant.1 (scan codes l.start l.i (l.i + 1))
          (scan_join codes l.start l.last l.i l.invariant.0 (omega arith) c.if-codes-i.false (omega arith)),
    )

pub returns-in_err-to : goal.returns-in_err-to
returns-in_err-to c =
    let l = c.loop-i in
    let codes = c.args.codes.now in
    let call = c.encode_segment in
    let why = c.in_err-to in
    let w = write_stop l.invariant.1 (split_segments (take (l.last + 1 - l.start) (drop l.start codes)) (l.i - l.last - 1)) (scan codes l.i l.i (l.i + 1))
    call.new.dst (Err why.field-0.0) why.field-0.0
    (scan_close codes l.start l.last l.i l.invariant.0 (omega arith) c.if-codes-i.false (omega arith)) (why.ensures.answer, why.ensures.slice) refl in
    let p = err_from_is_err_and c.from_residual.result c.from_residual.ensures.1 in
    record { answer = rw (p.1, p.2) w.0; slice = w.1 }

pub loop-i-preserved : goal.loop-i-preserved
loop-i-preserved c =
    let l = c.loop-i in
    let codes = c.args.codes.now in
    let call = c.encode_segment in
    let next = c.in_ok-to in (
      scanned_new codes l.i l.i (omega arith) (omega arith),
      write_next l.invariant.1 (split_segments (take (l.last + 1 - l.start) (drop l.start codes)) (l.i - l.last - 1)) (scan codes l.i l.i (l.i + 1))
          call.new.dst (Ok next.to) next.to
          (scan_close codes l.start l.last l.i l.invariant.0 (omega arith) c.if-codes-i.false (omega arith)) (next.ensures.answer, next.ensures.slice) refl,
    )

pub returns : goal.returns
returns c =
    let l = c.loop-i in
    let codes = c.args.codes.now in
    let call = c.encode_row_end in
    let w = write_last (write_same_rest l.invariant.1 (row_end_segments codes l.start l.last) (scan_end codes l.start l.last l.i l.invariant.0 (omega arith)))
    call.new.dst call.result (call.ensures.answer, call.ensures.slice) in
    record { answer = w.0; slice = w.1 }
