-- Each call writes the first of the segments that are left, or all of them.
use Rattle.std.proofs.Common.{◌+◌, ◌-◌, [], ◌∷◌, get_or, take, drop, replicate, arith}
use Rattle.rle_format.specs.Pack.{literal, repeat, split_segments, long_run}
use Rattle.rle_format.proofs.SegmentSteps.{long_run_0}
use Rattle.rle_encoder.proofs.Put.{put_rest, put_room, put_turn, put_last, put_done}
use Rattle.rle_encoder.proofs.Steps.{rest_of_run_lem, raw_turn, raw_last, raw_done}
use Rattle.rle_scanline_encoder.proofs.Steps.{long_run_part}
use Rattle.rle_encoder.proofs.segment.+put_long_sequence_put_segment.Goals as goal

-- ---- `put_long_sequence`

pub put_long_sequence-loop-left-preserved : goal.put_long_sequence-loop-left-preserved
put_long_sequence-loop-left-preserved t c =
    let l = c.loop-left in
    let last = c.args.last in
    let part = c.long_run_part-part in
    let put = c.put_repeat-to in (
      omega arith,
      put_turn l.invariant.1 (repeat part.result ∷ []) (long_run last (l.left - part.result)) put.new.packed put.result
          (long_run_part last l.left part.result (omega arith) part.ensures) (omega arith) put.ensures,
    )

pub put_long_sequence-returns-then-left-eq0 : goal.put_long_sequence-returns-then-left-eq0
put_long_sequence-returns-then-left-eq0 t c = put_done c.loop-left.invariant.1 (long_run_0 c.args.last c.loop-left.left c.if-left-eq0.true)

pub put_long_sequence-put_segment-requires : goal.put_long_sequence-put_segment-requires
put_long_sequence-put_segment-requires t c =
    let l = c.loop-left in
    let last = c.args.last in
    let count = c.raw_count_of_rest-count in
    let head = put_rest l.invariant.1 (split_segments (take count.result (replicate 18 last)) (l.left - count.result))
    (rest_of_run_lem last l.left count.result (omega arith) (omega arith) (omega (arith, count.ensures.few)) count.ensures.part) in
    (omega (arith, count.ensures.few), (omega (arith, count.ensures.few), omega (arith, count.ensures.few), head.room))

pub put_long_sequence-returns : goal.put_long_sequence-returns
put_long_sequence-returns t c =
    let l = c.loop-left in
    let last = c.args.last in
    let count = c.raw_count_of_rest-count in
    let head = put_rest l.invariant.1 (split_segments (take count.result (replicate 18 last)) (l.left - count.result))
    (rest_of_run_lem last l.left count.result (omega arith) (omega arith) (omega (arith, count.ensures.few)) count.ensures.part) in
    put_last head c.put_segment.new.packed c.put_segment.result c.put_segment.ensures

-- ---- `put_segment`

pub put_segment-put_literal-to-requires : goal.put_segment-put_literal-to-requires
put_segment-put_literal-to-requires t c =
    let l = c.loop-start in
    let a = c.args in (
      omega arith,
      omega arith,
      omega arith,
      put_room l.invariant.1 (literal (take 15 (drop l.start a.raw.now)) 0) (split_segments (drop (l.start + 15) (take a.count a.raw.now)) a.run)
          (raw_turn a.raw.now a.count a.run l.start (omega arith) (omega arith)),
    )

pub put_segment-loop-start-preserved : goal.put_segment-loop-start-preserved
put_segment-loop-start-preserved t c =
    let l = c.loop-start in
    let a = c.args in
    let put = c.put_literal-to in (
      omega arith,
      put_turn l.invariant.1 (literal (take 15 (drop l.start a.raw.now)) 0 ∷ []) (split_segments (drop (l.start + 15) (take a.count a.raw.now)) a.run) put.new.packed put.result
          (raw_turn a.raw.now a.count a.run l.start (omega arith) (omega arith)) (omega arith) put.ensures,
    )

pub put_segment-put_literal-to-requires-2 : goal.put_segment-put_literal-to-requires-2
put_segment-put_literal-to-requires-2 t c =
    let l = c.loop-start in
    let a = c.args in
    let capped = c.short_run_part in (
      omega arith,
      omega (arith, capped.ensures),
      omega arith,
      put_room l.invariant.1 (literal (take (a.count - l.start) (drop l.start a.raw.now)) capped.result) (long_run (get_or a.raw.now (a.count - 1) 0) (a.run - 15))
          (raw_last a.raw.now a.count a.run l.start (omega arith) capped.result l.invariant.0 (omega arith) capped.ensures),
    )

pub put_segment-returns-then-run-le15 : goal.put_segment-returns-then-run-le15
put_segment-returns-then-run-le15 t c =
    let l = c.loop-start in
    let a = c.args in
    let put = c.put_literal-to-2 in
    let capped = c.short_run_part in
    let turn = raw_done a.raw.now a.count a.run l.start (omega arith) (split_segments (take a.count a.raw.now) a.run) a.packed.now l.packed put.new.packed a.at l.to put.result capped.result
    l.invariant.1 l.invariant.0 (omega arith) capped.ensures (omega arith) put.ensures in
    put_done turn (long_run_0 (get_or a.raw.now (a.count - 1) 0) (a.run - 15) (omega arith))

pub put_segment-put_long_sequence-requires : goal.put_segment-put_long_sequence-requires
put_segment-put_long_sequence-requires t c =
    let l = c.loop-start in
    let a = c.args in
    let put = c.put_literal-to-2 in
    let capped = c.short_run_part in
    let turn = raw_done a.raw.now a.count a.run l.start (omega arith) (split_segments (take a.count a.raw.now) a.run) a.packed.now l.packed put.new.packed a.at l.to put.result capped.result
    l.invariant.1 l.invariant.0 (omega arith) capped.ensures (omega arith) put.ensures in
    (omega arith, turn.room)

pub put_segment-returns : goal.put_segment-returns
put_segment-returns t c =
    let l = c.loop-start in
    let a = c.args in
    let put = c.put_literal-to-2 in
    let capped = c.short_run_part in
    let turn = raw_done a.raw.now a.count a.run l.start (omega arith) (split_segments (take a.count a.raw.now) a.run) a.packed.now l.packed put.new.packed a.at l.to put.result capped.result
    l.invariant.1 l.invariant.0 (omega arith) capped.ensures (omega arith) put.ensures in
    put_last turn c.put_long_sequence.new.packed c.put_long_sequence.result c.put_long_sequence.ensures
