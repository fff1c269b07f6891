-- `decompress_planes`: the colour planes go on where alpha stopped (`planes_append`), unless that was refused. Assumes nothing.
use Rattle.std.proofs.Common.{sym, ap, ◌∙◌, arith}
use Rattle.rle_format.specs.Answer.{counted, refused, number, to_answer}
use Rattle.bitmap_format.proofs.UnpackPlanes.{planes_within}
use Rattle.bitmap_planes.proofs.PlaneSequence.{length_suffix, refusal_up, alpha_refused, colours_after_alpha}
use Rattle.bitmap_planes.proofs.decompress_planes.Goals as goal

pub returns-in_err-alpha_read : goal.returns-in_err-alpha_read
returns-in_err-alpha_read c =
    let a = c.args in
    let d = c.decompress_alpha in
    let shown = alpha_refused a.header a.width a.height a.offset a.body.now a.work.now d.new.work d.result (d.ensures.answer, d.ensures.slice) _ c.in_err-alpha_read.was in
    let r = refusal_up _ _ _ shown _ c.from_residual.ensures.1 in
    record { answer = r.0; slice = r.1 }

pub slice_bounds-rest-count : goal.slice_bounds-rest-count
slice_bounds-rest-count c = planes_within _ _ _ _ (sym c.decompress_alpha.ensures.answer ∙ ap to_answer c.in_ok-alpha_read.was)

pub slice_bounds-rest-start : goal.slice_bounds-rest-start
slice_bounds-rest-start c = omega (arith, planes_within _ _ _ _ (sym c.decompress_alpha.ensures.answer ∙ ap to_answer c.in_ok-alpha_read.was))

pub returns-in_err-colors_read : goal.returns-in_err-colors_read
returns-in_err-colors_read c =
    let a = c.args in
    let d = c.decompress_alpha in
    let e = c.decompress_color_planes in
    let s = c.has_subsampled_chroma-subsampling in
    let k = number c.in_err-colors_read.field-0.0 in
    let shown = colours_after_alpha a.header a.width a.height a.offset a.body.now a.work.now d.new.work d.result (d.ensures.answer, d.ensures.slice) _ c.in_ok-alpha_read.was s.result s.ensures
    e.new.work (refused k) (sym (ap to_answer c.in_err-colors_read.was) ∙ e.ensures.answer, e.ensures.slice) in
    let r = refusal_up _ _ _ shown _ c.from_residual-in_err-colors_read.ensures.1 in
    record { answer = r.0; slice = r.1 }

pub overflow_add-result : goal.overflow_add-result
overflow_add-result c =
    omega (
      arith,
      planes_within _ _ _ _ (sym c.decompress_alpha.ensures.answer ∙ ap to_answer c.in_ok-alpha_read.was),
      planes_within _ _ _ _ (sym c.decompress_color_planes.ensures.answer ∙ ap to_answer c.in_ok-colors_read.was),
      length_suffix c.args.body.now c.in_ok-alpha_read.alpha_read,
    )

pub returns : goal.returns
returns c =
    let a = c.args in
    let d = c.decompress_alpha in
    let e = c.decompress_color_planes in
    let s = c.has_subsampled_chroma-subsampling in
    let r = colours_after_alpha a.header a.width a.height a.offset a.body.now a.work.now d.new.work d.result (d.ensures.answer, d.ensures.slice) _ c.in_ok-alpha_read.was s.result s.ensures
    e.new.work (counted c.in_ok-colors_read.colors_read) (sym (ap to_answer c.in_ok-colors_read.was) ∙ e.ensures.answer, e.ensures.slice) in
    record { answer = r.0; slice = r.1 }
