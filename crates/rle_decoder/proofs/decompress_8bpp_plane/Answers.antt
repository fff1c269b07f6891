-- `decompress_8bpp_plane`: each refusal from the test that led to it, the rest from `decode`. Assumes nothing.
use Rattle.std.proofs.Common.{length, sym, ◌∙◌, arith}
use Rattle.std.proofs.lemmas.Result.{err_from_is_err_and}
use Rattle.rle_format.proofs.Outcome.{stop_writes_nothing, answer_cong, slice_cong}
use Rattle.rle_decoder.proofs.Checked.{unpack_refused_sides, unpack_refused_room, unpack_checked}
use Rattle.rle_decoder.proofs.decompress_8bpp_plane.Goals as goal

pub returns-in_err-sides : goal.returns-in_err-sides
returns-in_err-sides c =
    let a = c.args in
    let why = c.in_err-sides in
    let w = stop_writes_nothing a.dst.now _ _ (unpack_refused_sides a.width a.height (length a.dst.now) a.src.now why.field-0.0 why.ensures) in
    let p = err_from_is_err_and c.from_residual.result c.from_residual.ensures.1 in
    record { answer = rw (p.1, p.2) w.0; slice = w.1 }

pub returns-then-dst-area : goal.returns-then-dst-area
returns-then-dst-area c =
    let a = c.args in
    let sides = c.in_ok-sides in
    let w = stop_writes_nothing a.dst.now _ _ (unpack_refused_room a.width a.height (length a.dst.now) a.src.now sides.sides sides.ensures (omega arith)) in
    record { answer = w.0; slice = w.1 }

-- behind the checks a plane is its rows
pub returns-then-sides-le-NARROW_WIDTH : goal.returns-then-sides-le-NARROW_WIDTH
returns-then-sides-le-NARROW_WIDTH c =
    let a = c.args in
    let sides = c.in_ok-sides in
    let e = sym (unpack_checked a.width a.height (length a.dst.now) a.src.now sides.sides sides.ensures (omega arith)) in
    record { answer = c.decode_with.ensures.answer ∙ answer_cong e; slice = c.decode_with.ensures.slice ∙ slice_cong a.dst.now e }

pub returns : goal.returns
returns c =
    let a = c.args in
    let sides = c.in_ok-sides in
    let e = sym (unpack_checked a.width a.height (length a.dst.now) a.src.now sides.sides sides.ensures (omega arith)) in
    record { answer = c.decode_with-2.ensures.answer ∙ answer_cong e; slice = c.decode_with-2.ensures.slice ∙ slice_cong a.dst.now e }
