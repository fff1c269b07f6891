-- `decompress_next_segment`: each kind of segment from the test that led to it. Assumes nothing.
use Rattle.std.proofs.Common.{◌≡◌, ◌+◌, ◌≤◌, ◌++◌, get_or, take, drop, replicate, sym, append-nil, ap, ◌∙◌, arith, rules}
use Rattle.rle_format.specs.Answer.{number}
use Rattle.rle_format.proofs.Segment.{read_zero_control, last_or_raw}
use Rattle.rle_decoder.specs.Appended.{Appended}
use Rattle.rle_decoder.specs.NextSegment.{refused_by}
use Rattle.rle_decoder.proofs.Appended.{appended_copy}
use Rattle.rle_decoder.proofs.Segments.{answers_none, answers_long, answers_plain}
use Rattle.rle_decoder.proofs.segment.decompress_next_segment.Goals as goal

-- a long run
pub returns-then-low-lt2 : goal.returns-then-low-lt2
returns-then-low-lt2 c =
    let a = c.args in
    let low = c.low_half-low in
    let high = c.high_half-high in
    let some : 1 ≤ low.result = omega (arith, c.if-low-lt2.true) in
    let few : low.result ≤ 2 = omega (arith, c.if-low-lt2.true) in
    let r = answers_long a.src.now a.codes.now c.fill_run.new.codes a.row.at a.row.last a.row.column low.result high.result (omega (arith, c.requires.0)) low.ensures.0 high.ensures.0 some few high.ensures.1 c.requires.1 c.fill_run.ensures in
    record { read = r.0; stopped = search rules; values = r.1 }

-- 15 raw bytes
pub returns-then-control : goal.returns-then-control
returns-then-control c =
    let s = c.args.src.now in
    let row = c.args.row in
    let now = c.copy_16.new.codes in
    let is : get_or s row.at 0 ≡ 240 = c.if-control.true in
    let far = c.requires.0 in
    let copied = appended_copy c.args.codes.now now s row.column (row.at + 1) 15 (omega arith) (omega arith) (omega arith) c.copy_16.ensures in
    let held : Appended c.args.codes.now now row.column (take 15 (drop (row.at + 1) s) ++ replicate 0 (get_or s (row.at + 15) 0)) =
    rw (append-nil (take 15 (drop (row.at + 1) s))) copied in
    let r = answers_plain s c.args.codes.now now row.at row.last row.column 0 15 (get_or s (row.at + 15) 0) (omega arith) (omega arith)
    (omega arith) (omega arith) (omega arith) (omega arith) (omega arith) (sym (last_or_raw s row.at 15 row.last (omega arith) (omega arith))) held in
    record { read = r.0; stopped = search rules; values = r.1 }

-- control byte 0
pub returns-then-control-eq0 : goal.returns-then-control-eq0
returns-then-control-eq0 c =
    let a = c.args in
    let r = answers_none a.src.now a.codes.now a.row.at a.row.last a.row.column 8 (read_zero_control a.src.now a.row.at (omega (arith, c.requires.0)) c.if-control-eq0.true) in
    record { read = ap (λ q. refused_by (number q)) c.stopped.ensures.1 ∙ r.0; stopped = c.stopped.ensures.0; values = r.1 }

-- every other segment
pub returns : goal.returns
returns c =
    let a = c.args in
    let low = c.low_half-low in
    let high = c.high_half-high in
    let last = c.last_decoded_byte in
    let far = c.requires.0 in
    let plain = c.if-low-lt2.false in
    let r = answers_plain a.src.now a.codes.now c.write_segment.new.codes a.row.at a.row.last a.row.column low.result high.result last.result (omega arith) c.if-control-eq0.false
    low.ensures.0 high.ensures.0 (omega (arith, plain)) (omega (arith, plain)) (omega (arith, high.ensures.1)) last.ensures c.write_segment.ensures in
    record { read = r.0; stopped = search rules; values = r.1 }
