-- `decode`: each refused row and each iteration by the laws of RowsLoop.antt. Assumes nothing.
use Rattle.std.proofs.Common.{◌≡◌, ◌+◌, ◌-◌, length, sym, refl, ap, ◌∙◌, arith, length-take-le, take}
use native.Mathlib.Nat.{sub-zero}
use Rattle.rle_format.specs.Answer.{number}
use Rattle.rle_format.specs.Slice.{overwrite}
use Rattle.rle_format.proofs.Slice.{suffix, suffix_overwrite}
use Rattle.rle_decoder.specs.Rows.{coded_row}
use Rattle.rle_decoder.proofs.Copied.{copied_write_at}
use Rattle.rle_decoder.proofs.RowsLoop.{rows_start, rows_end, rows_one_left, rows_refused, within, rows_step}
use Rattle.rle_decoder.proofs.decode.Goals as goal

pub loop-init : goal.loop-init
loop-init c = rw sub-zero (rows_start _ _ _ _ c.requires.0)

-- the row is refused, and its coded values are copied
pub returns-in-Err : goal.returns-in-Err
returns-in-Err c =
    let a = c.args in
    let w = a.sides.width in
    let h = a.sides.height in
    let l = c.loop in
    let e = c.in-Err.ensures in
    let stop = c.in-Err.stop in
    let codes = c.decode_scanline.new.codes in
    let one = rows_one_left a.src.now a.dst.now l.dst w h l.at l.start l.counter l.invariant c.loop-test.true in
    let vs = (coded_row a.src.now l.at w).written in
    let ys = overwrite (suffix l.dst l.start) vs in
    let s = rows_refused a.src.now a.dst.now l.dst w h l.at l.start (h - (l.counter + 1)) one ys refl (number stop.reason) (sym e.answer) in
    let part : c.copy_from_slice.new.self ≡ vs = c.copy_from_slice.ensures.after ∙ e.codes in
    let n = length-take-le stop.column codes (omega arith) in
    let long : length vs ≡ l.start + stop.column - l.start = omega (arith, ap length e.codes) in
    let wrote = copied_write_at l.dst c.copy_from_slice.new.self vs l.start (l.start + stop.column - l.start) part long in
    record { answer = e.answer ∙ s.0; slice = wrote ∙ sym (suffix_overwrite l.dst ys vs l.start refl) ∙ s.1 }

pub overflow_add-at : goal.overflow_add-at
overflow_add-at c =
    let a = c.args in
    let w = a.sides.width in
    let h = a.sides.height in
    let l = c.loop in
    let one = rows_one_left a.src.now a.dst.now l.dst w h l.at l.start l.counter l.invariant c.loop-test.true in
    omega (arith, within a.src.now a.dst.now l.dst w h l.at l.start (h - (l.counter + 1)) one c.in-Ok.read (sym c.in-Ok.ensures.answer))

-- the row is full, and its samples are written
pub loop-preserved : goal.loop-preserved
loop-preserved c =
    let a = c.args in
    let w = a.sides.width in
    let h = a.sides.height in
    let l = c.loop in
    let left = h - (l.counter + 1) in
    let e = c.in-Ok.ensures in
    let codes = c.decode_scanline.new.codes in
    let one = rows_one_left a.src.now a.dst.now l.dst w h l.at l.start l.counter l.invariant c.loop-test.true in
    rows_step a.src.now a.dst.now l.dst w h l.at l.start left one c.in-Ok.read (sym e.answer) c.restore_row.new.dst (take w codes) (omega (arith, a.sides.allowed.some_width)) e.codes c.restore_row.ensures

pub returns : goal.returns
returns c =
    let a = c.args in
    let l = c.loop in
    let r = rows_end a.src.now a.dst.now l.dst a.sides.width a.sides.height l.at l.start (a.sides.height - l.counter) l.invariant (omega (arith, c.loop-test.false)) in
    record { answer = r.0; slice = r.1 }
