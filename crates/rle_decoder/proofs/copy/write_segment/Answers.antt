-- `write_segment`: sixteen bytes, of which the raw bytes count, then sixteen copies, of which the run counts. Assumes nothing.
use Rattle.std.proofs.Common.{◌≡◌, ◌+◌, length, take, drop, replicate, arith, length-drop, length-take-le}
use Rattle.rle_decoder.proofs.Appended.{appended_copy, appended_fill, appended_then}
use Rattle.rle_decoder.proofs.copy.write_segment.Goals as goal

pub returns : goal.returns
returns c =
    let a = c.args in
    let from = a.row.at + 1 in
    let raw = a.segment.raw in
    let copied_to = c.copy_16.new.codes in
    let filled_to = c.fill_run.new.codes in
    let xs = take raw (drop from a.src.now) in
    let rest = length-drop from a.src.now in
    let n : length xs ≡ raw = length-take-le raw (drop from a.src.now) (omega arith) in
    let copied = appended_copy a.codes.now copied_to a.src.now a.row.column from raw (omega arith) (omega arith) (omega arith) c.copy_16.ensures in
    let filled = appended_fill copied_to filled_to (a.row.column + raw) 16 a.segment.run a.segment.last (omega arith) (omega arith) c.fill_run.ensures in
    appended_then a.codes.now copied_to filled_to a.row.column xs (replicate a.segment.run a.segment.last) copied (rw (← n) at filled)
