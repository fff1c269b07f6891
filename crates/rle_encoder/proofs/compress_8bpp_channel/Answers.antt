-- `compress_8bpp_channel`: each refusal from the test that led to it, the rest from `encode`.
use Rattle.std.proofs.Common.{length, sym, ◌∙◌, arith}
use Rattle.std.proofs.lemmas.Result.{err_from_is_err_and}
use Rattle.rle_format.proofs.Outcome.{stop_writes_nothing, answer_cong, slice_cong}
use Rattle.pixel_format.specs.Samples.{samples_in}
use Rattle.rle_encoder.proofs.Checked.{pack_refused_sides, pack_refused_source, pack_checked, same_sides}
use Rattle.rle_encoder.proofs.compress_8bpp_channel.Goals as goal

pub returns-in_err-sides : goal.returns-in_err-sides
returns-in_err-sides c =
    let a = c.args in
    let why = c.in_err-sides in
    let is = pack_refused_sides _ _ (length a.dst.now) (samples_in a.samples) why.field-0.0 why.ensures in
    let w = stop_writes_nothing a.dst.now _ _ (same_sides a.width a.height _ _ _ _ _ is (omega arith) (omega arith)) in
    let p = err_from_is_err_and c.from_residual.result c.from_residual.ensures.1 in
    record { answer = rw (p.1, p.2) w.0; slice = w.1 }

pub returns-then-count-area : goal.returns-then-count-area
returns-then-count-area c =
    let a = c.args in
    let sides = c.in_ok-sides in
    let is = pack_refused_source _ _ (length a.dst.now) (samples_in a.samples) sides.sides sides.ensures (omega arith) in
    let w = stop_writes_nothing a.dst.now _ _ (same_sides a.width a.height _ _ _ _ _ is (omega arith) (omega arith)) in
    record { answer = w.0; slice = w.1 }

pub returns-then-sides-le-NARROW : goal.returns-then-sides-le-NARROW
returns-then-sides-le-NARROW c =
    let a = c.args in
    let sides = c.in_ok-sides in
    let is = pack_checked _ _ (length a.dst.now) (samples_in a.samples) sides.sides sides.ensures (omega arith) in
    let e = sym (same_sides a.width a.height _ _ _ _ _ is (omega arith) (omega arith)) in
    record { answer = c.encode.ensures.answer ∙ answer_cong e; slice = c.encode.ensures.slice ∙ slice_cong a.dst.now e }

pub returns : goal.returns
returns c =
    let a = c.args in
    let sides = c.in_ok-sides in
    let is = pack_checked _ _ (length a.dst.now) (samples_in a.samples) sides.sides sides.ensures (omega arith) in
    let e = sym (same_sides a.width a.height _ _ _ _ _ is (omega arith) (omega arith)) in
    record { answer = c.encode-2.ensures.answer ∙ answer_cong e; slice = c.encode-2.ensures.slice ∙ slice_cong a.dst.now e }
