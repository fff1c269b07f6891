-- `decode_last_segments`: each end of the row and each iteration by the laws of RowLoop.antt. Assumes nothing.
use Rattle.std.proofs.Common.{arith}
use Rattle.rle_decoder.specs.Rows.{row_continued}
use Rattle.rle_decoder.proofs.Segments.{found_segment}
use Rattle.rle_decoder.proofs.RowLoop.{row_full, row_refused, row_overruns, row_step}
use Rattle.rle_decoder.proofs.near_end.decode_last_segments.Goals as goal

-- the next segment is refused
pub returns-in_err-segment : goal.returns-in_err-segment
returns-in_err-segment c =
    let a = c.args in
    let l = c.loop-row in
    let row = l.row in
    let e = c.in_err-segment in
    row_refused a.src.now a.codes.now l.codes (row_continued a.src.now a.codes.now a.from a.width a.so_far.at a.so_far.column a.so_far.last) a.from a.width row.at row.column row.last (omega arith) l.invariant c.loop-row-test.true
    c.decompress_last_segment.new.codes e.ensures.values c.from_residual.result e.field-0.0 c.from_residual.ensures.1 e.ensures.stopped e.ensures.read

-- it overruns the row
pub returns-in_err-row : goal.returns-in_err-row
returns-in_err-row c =
    let a = c.args in
    let l = c.loop-row in
    let row = l.row in
    let s = c.in_ok-segment in
    let why = c.in_err-row.ensures.overruns in
    let passed = c.from_residual-in_err-row in
    row_overruns a.src.now a.codes.now l.codes (row_continued a.src.now a.codes.now a.from a.width a.so_far.at a.so_far.column a.so_far.last) a.from a.width row.at row.column row.last (omega arith) l.invariant c.loop-row-test.true
    c.decompress_last_segment.new.codes s.ensures.values s.segment.raw s.segment.run s.segment.last s.ensures.read passed.result c.in_err-row.field-0.0 passed.ensures.1 why.0 why.1 why.2

pub loop-row-smaller : goal.loop-row-smaller
loop-row-smaller c =
    let row = c.loop-row.row in
    let s = c.in_ok-segment in
    let after = c.in_ok-row.ensures.fits in
    omega (arith, (found_segment c.args.src.now row.at row.last s.segment.raw s.segment.run s.segment.last s.ensures.read).some, after.1, after.3)

-- the next segment fits
pub loop-row-preserved : goal.loop-row-preserved
loop-row-preserved c =
    let a = c.args in
    let l = c.loop-row in
    let row = l.row in
    let s = c.in_ok-segment in
    let after = c.in_ok-row.ensures.fits in
    let d = c.decompress_last_segment in
    let next = row_step a.src.now a.codes.now l.codes (row_continued a.src.now a.codes.now a.from a.width a.so_far.at a.so_far.column a.so_far.last) a.from a.width row.at row.column row.last (omega arith) l.invariant c.loop-row-test.true
    d.new.codes s.ensures.values s.segment.raw s.segment.run s.segment.last s.ensures.read d.auto.codes (omega (arith, after.1, after.3)) in
    rw (after.0, after.1, after.2) next

pub returns : goal.returns
returns c =
    let a = c.args in
    let l = c.loop-row in
    row_full a.src.now a.codes.now l.codes (row_continued a.src.now a.codes.now a.from a.width a.so_far.at a.so_far.column a.so_far.last) a.from a.width l.row.at l.row.column l.row.last (omega arith) l.invariant c.loop-row-test.false
