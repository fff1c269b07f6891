-- Each call writes the first of the segments that are left, or all of them.
use Rattle.std.proofs.Common.{Ok, Err, refl, ◌+◌, ◌-◌, [], ◌∷◌, length, get_or, take, drop, arith}
use Rattle.std.proofs.lemmas.Result.{err_from_is_err_and}
use Rattle.rle_format.specs.Pack.{literal, repeat, split_segments, long_run}
use Rattle.rle_format.proofs.SegmentSteps.{long_run_0}
use Rattle.rle_format.proofs.WriteLoop.{write_same_rest, write_next, write_stop, write_last, write_end}
use Rattle.rle_scanline_encoder.proofs.Steps.{long_run_part, long_run_rest, split_step, split_last, run_left}
use Rattle.rle_scanline_encoder.proofs.segment.+encode_long_sequence_encode_segment.Goals as goal

-- ---- `encode_long_sequence`

pub encode_long_sequence-returns-in_err-to : goal.encode_long_sequence-returns-in_err-to
encode_long_sequence-returns-in_err-to t c =
    let l = c.loop-left in
    let part = c.long_run_part-part in
    let put = c.write_repeat in
    let w = write_stop l.invariant.1 (repeat part.result ∷ []) (long_run c.args.last (l.left - part.result)) put.new.dst (Err c.in_err-to.field-0.0) c.in_err-to.field-0.0
    (long_run_part c.args.last l.left part.result (omega arith) part.ensures) (c.in_err-to.ensures.answer, c.in_err-to.ensures.slice) refl in
    let p = err_from_is_err_and c.from_residual.result c.from_residual.ensures.1 in
    record { answer = rw (p.1, p.2) w.0; slice = w.1 }

pub encode_long_sequence-loop-left-preserved : goal.encode_long_sequence-loop-left-preserved
encode_long_sequence-loop-left-preserved t c =
    let l = c.loop-left in
    let part = c.long_run_part-part in
    let put = c.write_repeat in (
      omega arith,
      write_next l.invariant.1 (repeat part.result ∷ []) (long_run c.args.last (l.left - part.result)) put.new.dst (Ok c.in_ok-to.to) c.in_ok-to.to
          (long_run_part c.args.last l.left part.result (omega arith) part.ensures) (c.in_ok-to.ensures.answer, c.in_ok-to.ensures.slice) refl,
    )

pub encode_long_sequence-returns-then-left-eq0 : goal.encode_long_sequence-returns-then-left-eq0
encode_long_sequence-returns-then-left-eq0 t c =
    let w = write_end c.loop-left.invariant.1 (long_run_0 c.args.last c.loop-left.left (omega arith)) in
    record { answer = w.0; slice = w.1 }

pub encode_long_sequence-returns : goal.encode_long_sequence-returns
encode_long_sequence-returns t c =
    let l = c.loop-left in
    let last = c.args.last in
    let count = c.raw_count_of_rest-count in
    let call = c.encode_segment in
    let w = write_last
    (write_same_rest l.invariant.1 (split_segments (take (count.result - 0) (last ∷ last ∷ last ∷ [])) (l.left - count.result))
    (long_run_rest last l.left count.result (omega arith) (omega arith) count.ensures.part))
    call.new.dst call.result (call.ensures.answer, call.ensures.slice) in
    record { answer = w.0; slice = w.1 }

-- ---- `encode_segment`

pub encode_segment-returns-in_err-to : goal.encode_segment-returns-in_err-to
encode_segment-returns-in_err-to t c =
    let l = c.loop-start in
    let raw = c.args.raw.now in
    let put = c.write_literal in
    let w = write_stop l.invariant.1 (literal (take (l.start + 15 - l.start) (drop l.start raw)) 0 ∷ []) (split_segments (drop (l.start + 15) raw) c.args.run)
    put.new.dst (Err c.in_err-to.field-0.0) c.in_err-to.field-0.0 (split_step raw c.args.run l.start (omega arith)) (c.in_err-to.ensures.answer, c.in_err-to.ensures.slice) refl in
    let p = err_from_is_err_and c.from_residual.result c.from_residual.ensures.1 in
    record { answer = rw (p.1, p.2) w.0; slice = w.1 }

pub encode_segment-loop-start-preserved : goal.encode_segment-loop-start-preserved
encode_segment-loop-start-preserved t c =
    let l = c.loop-start in
    let raw = c.args.raw.now in
    let put = c.write_literal in (
      omega arith,
      write_next l.invariant.1 (literal (take (l.start + 15 - l.start) (drop l.start raw)) 0 ∷ []) (split_segments (drop (l.start + 15) raw) c.args.run)
          put.new.dst (Ok c.in_ok-to.to) c.in_ok-to.to (split_step raw c.args.run l.start (omega arith)) (c.in_ok-to.ensures.answer, c.in_ok-to.ensures.slice) refl,
    )

pub encode_segment-returns-in_err-next : goal.encode_segment-returns-in_err-next
encode_segment-returns-in_err-next t c =
    let l = c.loop-start in
    let raw = c.args.raw.now in
    let capped = c.short_run_part in
    let put = c.write_literal-2 in
    let w = write_stop l.invariant.1 (literal (take (length raw - l.start) (drop l.start raw)) capped.result ∷ []) (long_run (get_or raw (length raw - 1) 0) (c.args.run - 15))
    put.new.dst (Err c.in_err-next.field-0.0) c.in_err-next.field-0.0 (split_last raw c.args.run l.start capped.result l.invariant.0 (omega arith) capped.ensures)
    (c.in_err-next.ensures.answer, c.in_err-next.ensures.slice) refl in
    let p = err_from_is_err_and c.from_residual-in_err-next.result c.from_residual-in_err-next.ensures.1 in
    record { answer = rw (p.1, p.2) w.0; slice = w.1 }

pub encode_segment-returns-then-run-le15 : goal.encode_segment-returns-then-run-le15
encode_segment-returns-then-run-le15 t c =
    let l = c.loop-start in
    let raw = c.args.raw.now in
    let next = c.in_ok-next in
    let rest = run_left raw c.args.run l.start l.invariant.1 c.short_run_part.result l.invariant.0 (omega arith) c.short_run_part.ensures c.write_literal-2.new.dst next.next (next.ensures.answer, next.ensures.slice) in
    let w = write_end rest (long_run_0 (get_or raw (length raw - 1) 0) (c.args.run - 15) (omega arith)) in
    record { answer = w.0; slice = w.1 }

pub encode_segment-encode_long_sequence-requires : goal.encode_segment-encode_long_sequence-requires
encode_segment-encode_long_sequence-requires t c =
    let l = c.loop-start in
    let next = c.in_ok-next in
    let rest = run_left c.args.raw.now c.args.run l.start l.invariant.1 c.short_run_part.result l.invariant.0 (omega arith) c.short_run_part.ensures c.write_literal-2.new.dst next.next (next.ensures.answer, next.ensures.slice) in
    (omega arith, rest.within)

pub encode_segment-returns : goal.encode_segment-returns
encode_segment-returns t c =
    let l = c.loop-start in
    let next = c.in_ok-next in
    let rest = run_left c.args.raw.now c.args.run l.start l.invariant.1 c.short_run_part.result l.invariant.0 (omega arith) c.short_run_part.ensures c.write_literal-2.new.dst next.next (next.ensures.answer, next.ensures.slice) in
    let call = c.encode_long_sequence in
    let w = write_last rest call.new.dst call.result (call.ensures.answer, call.ensures.slice) in
    record { answer = w.0; slice = w.1 }
