-- `put_row`: each turn writes the raw values up to a run, and the run; the last writes the raw values that are left.
use Rattle.std.proofs.Common.{◌+◌, ◌-◌, ◌/◌, ◌≤◌, take, drop, refl, arith, length-drop, length-take, length-take-le}
use Rattle.rle_format.specs.Pack.{split_segments, row_segments}
use Rattle.rle_format.proofs.Slice.{suffix}
use Rattle.rle_encoder.proofs.Put.{put_rest, put_room_of, put_turn, put_last, put_done}
use Rattle.rle_encoder.proofs.PutRow.{row_begins, row_over, lent_raw, lent_cut, cut_long, below_flags, flagged_same, bits_same, flagged_there, bits_there}
use Rattle.rle_encoder.proofs.row_packer.RowPacker.put_row.Goals as goal

pub loop-i-init : goal.loop-i-init
loop-i-init c =
    let a = c.args in
    let start = c.flags_start-flags in (
      omega arith,
      refl,
      start.ensures,
      omega arith,
      flagged_there a.self.now.packed.now start.result (a.self.now.width / 15 + 16) start.ensures a.self.now.codes.now 0 a.self.now.width c.requires.0,
      bits_there a.self.now.packed.now start.result (a.self.now.width / 15 + 16) start.ensures 0 (a.self.now.width + 8) c.requires.1,
      row_begins a.self.now.codes.now a.self.now.width (omega arith) a.self.now.packed.now (omega arith),
    )

pub put_segment-requires : goal.put_segment-requires
put_segment-requires c =
    let a = c.args in
    let l = c.loop-i in
    let set = c.next_other-run in
    let flags = suffix l.packed c.flags_start-flags.result in
    let head = put_rest l.invariant.6 (split_segments (take (a.self.now.width - l.i) (suffix a.self.now.codes.now l.i)) 0)
    (lent_raw a.self.now.codes.now a.self.now.width (omega arith) flags l.i l.invariant.4 set.result (omega arith) set.ensures.2 (omega arith)) in
    (omega arith, simp (length-take, length-drop) (omega arith), head.room)

pub returns-then-width-run : goal.returns-then-width-run
returns-then-width-run c =
    let a = c.args in
    let l = c.loop-i in
    let set = c.next_other-run in
    let flags = suffix l.packed c.flags_start-flags.result in
    let head = put_rest l.invariant.6 (split_segments (take (a.self.now.width - l.i) (suffix a.self.now.codes.now l.i)) 0)
    (lent_raw a.self.now.codes.now a.self.now.width (omega arith) flags l.i l.invariant.4 set.result (omega arith) set.ensures.2 (omega arith)) in
    put_last head c.put_segment.new.packed c.put_segment.result c.put_segment.ensures

pub put_segment-to-requires : goal.put_segment-to-requires
put_segment-to-requires c =
    let a = c.args in
    let l = c.loop-i in
    let set = c.next_other-run in
    let clear = c.next_other in
    let end = c.min-end in
    let flags = suffix l.packed c.flags_start-flags.result in
    let raw = take (set.result + 1 - l.i) (suffix a.self.now.codes.now l.i) in
    let rest = row_segments (drop end.result (take a.self.now.width a.self.now.codes.now)) in
    let here = lent_cut a.self.now.codes.now a.self.now.width (omega arith) flags l.i l.invariant.4 set.result clear.result end.result
    set.ensures.0 (omega arith) set.ensures.2 (set.ensures.3 (omega arith)) clear.ensures.0 clear.ensures.1 clear.ensures.2 clear.ensures.3 end.ensures in
    (omega (arith, set.ensures.0), simp (length-take, length-drop) (omega (arith, set.ensures.0)), put_room_of l.invariant.6 (split_segments raw (end.result - set.result - 1)) rest here)

pub loop-i-preserved : goal.loop-i-preserved
loop-i-preserved c =
    let a = c.args in
    let l = c.loop-i in
    let set = c.next_other-run in
    let clear = c.next_other in
    let end = c.min-end in
    let call = c.put_segment-to in
    let now = call.new.packed in
    let start = c.flags_start-flags.result in
    let flags = suffix l.packed start in
    let raw = take (set.result + 1 - l.i) (suffix a.self.now.codes.now l.i) in
    let rest = row_segments (drop end.result (take a.self.now.width a.self.now.codes.now)) in
    let here = lent_cut a.self.now.codes.now a.self.now.width (omega arith) flags l.i l.invariant.4 set.result clear.result end.result
    set.ensures.0 (omega arith) set.ensures.2 (set.ensures.3 (omega arith)) clear.ensures.0 clear.ensures.1 clear.ensures.2 clear.ensures.3 end.ensures in
    let size = length-drop l.i a.self.now.codes.now in
    let count = length-take-le (set.result + 1 - l.i) (suffix a.self.now.codes.now l.i) (simp (length-take, length-drop) (omega (arith, set.ensures.0))) in
    let long = cut_long a.self.now.codes.now a.self.now.width (omega arith) flags l.i l.invariant.4 set.result clear.result end.result
    set.ensures.0 (omega arith) set.ensures.2 (set.ensures.3 (omega arith)) clear.ensures.0 clear.ensures.1 clear.ensures.2 clear.ensures.3 end.ensures in
    let below = below_flags a.self.now.width end.result l.to call.result raw (end.result - set.result - 1) l.i l.invariant.3 (omega (arith, set.ensures.0, end.ensures, long)) (omega (arith, set.ensures.0)) long (omega (arith, end.ensures)) call.ensures.0 in
    let behind : call.result + 16 ≤ start + end.result = omega (arith, below.1, l.invariant.2) in (
      omega (arith, end.ensures),
      omega arith,
      l.invariant.2,
      below.0,
      flagged_same l.packed now (call.result + 16) start end.result call.ensures.2 behind a.self.now.codes.now l.i a.self.now.width (omega (arith, end.ensures, set.ensures.0)) l.invariant.4,
      bits_same l.packed now (call.result + 16) start end.result call.ensures.2 behind l.i (a.self.now.width + 8) (omega (arith, end.ensures, set.ensures.0)) l.invariant.5,
      put_turn l.invariant.6 (split_segments raw (end.result - set.result - 1)) rest now call.result here (omega arith) call.ensures,
    )

pub returns : goal.returns
returns c = put_done c.loop-i.invariant.6 (row_over c.args.self.now.codes.now c.args.self.now.width (omega arith) c.loop-i.i (omega arith))
