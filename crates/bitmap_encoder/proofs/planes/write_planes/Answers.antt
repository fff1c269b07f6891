-- `write_planes`: each turn writes the samples of one plane; the zero byte ends the body.
use Rattle.std.proofs.Common.{ℕ, ◌+◌, ◌*◌, ◌≡◌, ◌≤◌, length, map, refl, sym, ap, ◌∙◌, arith}
use Rattle.std.proofs.lemmas.List.{length-map}
use Rattle.rle_format.specs.Answer.{counted}
use Rattle.rle_format.specs.Slice.{write_at}
use Rattle.rle_format.proofs.Outcome.{answer_cong, slice_cong, stop_writes_nothing}
use Rattle.rle_format.proofs.Slice.{write_at_nil}
use Rattle.pixel_format.specs.Samples.{samples_in}
use Rattle.bitmap_format.specs.PackPicture.{raw_samples}
use Rattle.bitmap_encoder.proofs.RleBody.{rest_long_enough_behind}
use Rattle.bitmap_encoder.proofs.RawBody.{write_samples, body_too_long, body_fits, all_samples, zero_byte, plane_long, samples_left, plane_put, none_left}
use Rattle.bitmap_encoder.proofs.planes.write_planes.Goals as goal

pub returns-then-dst-size : goal.returns-then-dst-size
returns-then-dst-size c =
    let a = c.args in
    let planes = map samples_in a.planes.now in
    let many = ap (λ (k : ℕ). k * a.n) (length-map a.planes.now samples_in) in
    let w = stop_writes_nothing a.dst.now _ _ (body_too_long a.n planes c.requires.2 (length a.dst.now) (omega (arith, many))) in
    record { answer = w.0; slice = w.1 }

pub loop-plane-init : goal.loop-plane-init
loop-plane-init c = (c.requires.2, omega arith, refl)

pub overflow_add-at : goal.overflow_add-at
overflow_add-at c =
    let a = c.args in
    let l = c.loop-plane in
    let all = all_samples a.n a.planes.now c.requires.2 in
    let left = samples_left a.n a.planes.now l.plane-index c.loop-plane-test.true l.invariant.0 in
    omega (arith, l.invariant.1)

pub slice_bounds-read-end : goal.slice_bounds-read-end
slice_bounds-read-end c =
    let a = c.args in
    let l = c.loop-plane in
    let all = all_samples a.n a.planes.now c.requires.2 in
    let left = samples_left a.n a.planes.now l.plane-index c.loop-plane-test.true l.invariant.0 in
    omega (arith, l.invariant.1)

pub loop-plane-preserved : goal.loop-plane-preserved
loop-plane-preserved c =
    let a = c.args in
    let l = c.loop-plane in
    let all = all_samples a.n a.planes.now c.requires.2 in
    let left = samples_left a.n a.planes.now l.plane-index c.loop-plane-test.true l.invariant.0 in
    let fits : l.at + a.n ≤ length l.dst = omega (arith, l.invariant.1) in
    let put = write_samples l.dst c.read.new.dst _ l.at a.n fits (plane_long a.n a.planes.now l.plane-index _ c.loop-plane-test.true l.invariant.0) c.read.ensures in (
      rest_long_enough_behind a.n a.planes.now l.plane-index c.loop-plane-test.true l.invariant.0,
      omega (arith, l.invariant.1),
      plane_put a.n a.planes.now l.plane-index _ c.loop-plane-test.true l.invariant.0 l.dst _ l.at fits put ∙ l.invariant.2,
    )

pub bounds-dst-at : goal.bounds-dst-at
bounds-dst-at c =
    let a = c.args in
    let l = c.loop-plane in
    let all = all_samples a.n a.planes.now c.requires.2 in
    omega (arith, l.invariant.1)

pub returns : goal.returns
returns c =
    let a = c.args in
    let l = c.loop-plane in
    let planes = map samples_in a.planes.now in
    let all = all_samples a.n a.planes.now c.requires.2 in
    let many = ap (λ (k : ℕ). k * a.n) (length-map a.planes.now samples_in) in
    let end = none_left a.n a.planes.now l.plane-index (omega arith) in
    let at : l.at ≡ length (raw_samples a.n planes) = omega (arith, ap length end, l.invariant.1) in
    let now = sym (ap (write_at l.dst l.at) end ∙ write_at_nil l.dst l.at) ∙ l.invariant.2 in
    let body = zero_byte a.n planes a.dst.now l.dst l.at (omega (arith, l.invariant.1)) at now in
    let fits = body_fits a.n planes c.requires.2 (length a.dst.now) (omega (arith, many)) in
    record { answer = ap counted (ap (λ (k : ℕ). k + 1) (sym many)) ∙ answer_cong (sym fits); slice = body ∙ slice_cong a.dst.now (sym fits) }
