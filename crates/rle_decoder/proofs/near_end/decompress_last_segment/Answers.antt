-- `decompress_last_segment`: each answer from the tests that led to it. Assumes nothing.
use Rattle.std.proofs.Common.{◌≡◌, ℕ, ◌+◌, ◌-◌, ◌≤◌, List, ◌++◌, length, take, drop, replicate, ap, ◌∙◌, arith, rules, length-drop, length-take-le}
use Rattle.rle_format.specs.Answer.{number}
use Rattle.rle_format.specs.Slice.{write_at}
use Rattle.rle_format.proofs.Segment.{read_at_end, read_zero_control, read_missing_raw}
use Rattle.rle_format.proofs.Slice.{length-write_at}
use Rattle.rle_decoder.specs.Appended.{Appended}
use Rattle.rle_decoder.specs.NextSegment.{refused_by}
use Rattle.rle_decoder.proofs.Appended.{appended_all, appended_fill, appended_then}
use Rattle.rle_decoder.proofs.Copied.{copied_write_at}
use Rattle.rle_decoder.proofs.Segments.{says_plain, answers_none, answers_long, answers_plain}
use Rattle.rle_decoder.proofs.near_end.decompress_last_segment.Goals as goal

-- no control byte
pub returns-then-src-row : goal.returns-then-src-row
returns-then-src-row c =
    let a = c.args in
    let r = answers_none a.src.now a.codes.now a.row.at a.row.last a.row.column 7 (read_at_end _ _ c.if-src-row.true) in
    record { read = ap (λ q. refused_by (number q)) c.stopped.ensures.1 ∙ r.0; stopped = c.stopped.ensures.0; values = r.1 }

-- control byte 0
pub returns-then-control-eq0 : goal.returns-then-control-eq0
returns-then-control-eq0 c =
    let a = c.args in
    let r = answers_none a.src.now a.codes.now a.row.at a.row.last a.row.column 8 (read_zero_control _ _ c.if-src-row.false c.if-control-eq0.true) in
    let stop = c.stopped-then-control-eq0 in
    record { read = ap (λ q. refused_by (number q)) stop.ensures.1 ∙ r.0; stopped = stop.ensures.0; values = r.1 }

-- a long run
pub returns-then-low-lt2 : goal.returns-then-low-lt2
returns-then-low-lt2 c =
    let a = c.args in
    let low = c.low_half-low in
    let high = c.high_half-high in
    let some : 1 ≤ low.result = omega (arith, c.if-low-lt2.true) in
    let few : low.result ≤ 2 = omega (arith, c.if-low-lt2.true) in
    let r = answers_long a.src.now a.codes.now c.fill_run.new.codes a.row.at a.row.last a.row.column low.result high.result c.if-src-row.false low.ensures.0 high.ensures.0 some few high.ensures.1 c.requires c.fill_run.ensures in
    record { read = r.0; stopped = search rules; values = r.1 }

-- a raw byte is missing
pub returns-then-src-row-2 : goal.returns-then-src-row-2
returns-then-src-row-2 c =
    let a = c.args in
    let plain = c.if-low-lt2.false in
    let says = says_plain _ _ _ c.low_half-low.ensures.0 c.high_half-high.ensures.0 (omega (arith, plain)) (omega (arith, plain)) in
    let r = answers_none a.src.now a.codes.now a.row.at a.row.last a.row.column 7 (read_missing_raw a.src.now a.row.at c.if-src-row.false c.if-control-eq0.false (omega (arith, says.0, c.if-src-row-2.true))) in
    let stop = c.stopped-then-src-row-2 in
    record { read = ap (λ q. refused_by (number q)) stop.ensures.1 ∙ r.0; stopped = stop.ensures.0; values = r.1 }

-- the raw bytes that there are, then sixteen copies, of which the run counts
raw_then_run : (d one now bytes : List ℕ) (column raw run v : ℕ) → one ≡ write_at d column bytes → length bytes ≡ raw → raw ≤ 15 → run ≤ 15 → column + 48 ≤ length d
    → now ≡ write_at one (column + raw) (replicate 16 v) → Appended d now column (bytes ++ replicate run v)
raw_then_run d one now bytes column raw run v put n few short room wrote =
    let copied = appended_all d one column bytes put (omega arith) in
    let long : length one ≡ length d = ap length put ∙ length-write_at d column bytes (omega arith) in
    let filled = appended_fill one now (column + raw) 16 run v (omega arith) (omega arith) wrote in
    appended_then d one now column bytes (replicate run v) copied (rw (← n) at filled)

-- every other segment
pub returns : goal.returns
returns c =
    let a = c.args in
    let row = a.row in
    let low = c.low_half-low in
    let high = c.high_half-high in
    let last = c.last_decoded_byte-last in
    let raw : ℕ = high.result in
    let bytes = take raw (drop (row.at + 1) a.src.now) in
    let same : row.at + 1 + raw - (row.at + 1) ≡ raw = omega arith in
    let rest = length-drop (row.at + 1) a.src.now in
    let there = c.if-src-row-2.false in
    let lb : length bytes ≡ raw = length-take-le raw (drop (row.at + 1) a.src.now) (omega arith) in
    let is = c.copy_from_slice.ensures.after ∙ ap (λ (m : ℕ). take m (drop (row.at + 1) a.src.now)) same in
    let put = copied_write_at a.codes.now c.copy_from_slice.new.self bytes row.column (row.column + raw - row.column) is (omega arith) in
    let now = c.fill_run-2.new.codes in
    let both = raw_then_run a.codes.now _ now bytes row.column raw low.result last.result put lb high.ensures.1 low.ensures.1 c.requires c.fill_run-2.ensures in
    let plain = c.if-low-lt2.false in
    let r = answers_plain a.src.now a.codes.now now row.at row.last row.column low.result raw last.result c.if-src-row.false c.if-control-eq0.false
    low.ensures.0 high.ensures.0 (omega (arith, plain)) (omega (arith, plain)) (omega arith) last.ensures both in
    record { read = r.0; stopped = search rules; values = r.1 }
