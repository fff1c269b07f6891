-- `check_planes`: the sides, then each plane (proofs/Checks.antt).
use Rattle.std.proofs.Common.{ℕ, ◌*◌, map, refl, sym, ap, ◌∙◌, arith}
use Rattle.std.proofs.lemmas.Result.{err_from_is_err_and}
use Rattle.pixel_format.specs.Samples.{samples_in}
use Rattle.rle_format.proofs.CheckedSides.{sides_same}
use Rattle.bitmap_format.specs.PackPicture.{any_short}
use Rattle.bitmap_encoder.proofs.Checks.{short_at, short_behind, none_short, pack_sides_refused, pack_short, same_area}
use Rattle.bitmap_encoder.proofs.planes.check_planes.Goals as goal

pub returns-in_err-sides-clause-refused : goal.returns-in_err-sides-clause-refused
returns-in_err-sides-clause-refused c =
    let a = c.args in
    let why = c.in_err-sides in
    let p = err_from_is_err_and c.from_residual.result c.from_residual.ensures.1 in
    rw (p.1, p.2) (pack_sides_refused a.width a.height (map samples_in a.planes.now) why.field-0.0 why.ensures)

pub loop-plane-init : goal.loop-plane-init
loop-plane-init c = refl

pub returns-then-count-area-clause-refused : goal.returns-then-count-area-clause-refused
returns-then-count-area-clause-refused c =
    let a = c.args in
    let l = c.loop-plane in
    let s = c.in_ok-sides.sides in
    let same = sides_same a.width a.height s c.in_ok-sides.ensures in
    let area = same_area a.width a.height (map samples_in a.planes.now) s same in
    let here = short_at (s.width * s.height) a.planes.now l.plane-index c.count.result _ c.loop-plane-test.true c.count.ensures.own (omega arith) in
    pack_short a.width a.height (map samples_in a.planes.now) s same (sym (ap (λ (n : ℕ). any_short n (map samples_in a.planes.now)) area) ∙ l.invariant ∙ here)

pub loop-plane-preserved : goal.loop-plane-preserved
loop-plane-preserved c =
    let a = c.args in
    let l = c.loop-plane in
    let s = c.in_ok-sides.sides in
    l.invariant ∙ short_behind (s.width * s.height) a.planes.now l.plane-index c.count.result _ c.loop-plane-test.true c.count.ensures.own (omega arith)

pub returns-clause-passed : goal.returns-clause-passed
returns-clause-passed c =
    let a = c.args in
    let l = c.loop-plane in
    let s = c.in_ok-sides.sides in
    let same = sides_same a.width a.height s c.in_ok-sides.ensures in
    let area = same_area a.width a.height (map samples_in a.planes.now) s same in
    let all = l.invariant ∙ none_short (s.width * s.height) a.planes.now l.plane-index (omega arith) in
    (same.0, same.1, sym (ap (λ (n : ℕ). any_short n (map samples_in a.planes.now)) area) ∙ all)
