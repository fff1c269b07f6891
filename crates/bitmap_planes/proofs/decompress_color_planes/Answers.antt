-- `decompress_color_planes`: each plane goes on behind the bytes that the one before took, unless that was refused. Assumes nothing.
use Rattle.std.proofs.Common.{refl, arith}
use Rattle.rle_format.proofs.Slice.{suffix}
use Rattle.bitmap_planes.proofs.PlaneSequence.{length_suffix, plane_within, refusal_up, first_refused, second_refused, third_refused, third_read, areas}
use Rattle.bitmap_planes.proofs.decompress_color_planes.Goals as goal

pub returns-in_err-first_read : goal.returns-in_err-first_read
returns-in_err-first_read c =
    let a = c.args in
    let d = c.decompress_plane in
    let shown = first_refused a.subsampling a.width a.height _ _ a.body.now a.work.now refl refl d.new.work d.result (d.ensures.answer, d.ensures.slice) _ c.in_err-first_read.was in
    let r = refusal_up _ _ _ shown _ c.from_residual.ensures.1 in
    record { answer = r.0; slice = r.1 }

pub slice_bounds-after_first-count : goal.slice_bounds-after_first-count
slice_bounds-after_first-count c =
    let d = c.decompress_plane in
    plane_within _ _ _ _ d.result (d.ensures.answer, d.ensures.slice) _ c.in_ok-first_read.was

pub slice_bounds-after_first-start : goal.slice_bounds-after_first-start
slice_bounds-after_first-start c =
    let d = c.decompress_plane in
    omega (arith, plane_within _ _ _ _ d.result (d.ensures.answer, d.ensures.slice) _ c.in_ok-first_read.was)

pub overflow_mul-second : goal.overflow_mul-second
overflow_mul-second c =
    let a = c.args in
    let d = c.decompress_plane in
    omega (arith, areas a.subsampling a.width a.height _ _ a.body.now a.work.now refl refl d.new.work d.result _ (d.ensures.answer, d.ensures.slice) c.in_ok-first_read.was)

pub returns-in_err-second_read : goal.returns-in_err-second_read
returns-in_err-second_read c =
    let a = c.args in
    let d = c.decompress_plane in
    let e = c.decompress_plane-2 in
    let shown = second_refused a.subsampling a.width a.height _ _ a.body.now a.work.now c.chroma_side.ensures c.chroma_side-2.ensures d.new.work d.result (d.ensures.answer, d.ensures.slice) _ c.in_ok-first_read.was
    e.new.work e.result (e.ensures.answer, e.ensures.slice) _ c.in_err-second_read.was in
    let r = refusal_up _ _ _ shown _ c.from_residual-in_err-second_read.ensures.1 in
    record { answer = r.0; slice = r.1 }

pub slice_bounds-after_second-count : goal.slice_bounds-after_second-count
slice_bounds-after_second-count c =
    let e = c.decompress_plane-2 in
    plane_within _ _ _ _ e.result (e.ensures.answer, e.ensures.slice) _ c.in_ok-second_read.was

pub slice_bounds-after_second-start : goal.slice_bounds-after_second-start
slice_bounds-after_second-start c =
    let e = c.decompress_plane-2 in
    omega (arith, plane_within _ _ _ _ e.result (e.ensures.answer, e.ensures.slice) _ c.in_ok-second_read.was)

pub overflow_mul-third : goal.overflow_mul-third
overflow_mul-third c =
    let a = c.args in
    let d = c.decompress_plane in
    omega (arith, areas a.subsampling a.width a.height _ _ a.body.now a.work.now c.chroma_side.ensures c.chroma_side-2.ensures d.new.work d.result _ (d.ensures.answer, d.ensures.slice) c.in_ok-first_read.was)

pub overflow_add-third : goal.overflow_add-third
overflow_add-third c =
    let a = c.args in
    let d = c.decompress_plane in
    omega (arith, areas a.subsampling a.width a.height _ _ a.body.now a.work.now c.chroma_side.ensures c.chroma_side-2.ensures d.new.work d.result _ (d.ensures.answer, d.ensures.slice) c.in_ok-first_read.was)

pub returns-in_err-third_read : goal.returns-in_err-third_read
returns-in_err-third_read c =
    let a = c.args in
    let d = c.decompress_plane in
    let e = c.decompress_plane-2 in
    let f = c.decompress_plane-3 in
    let shown = third_refused a.subsampling a.width a.height _ _ a.body.now a.work.now c.chroma_side.ensures c.chroma_side-2.ensures d.new.work d.result (d.ensures.answer, d.ensures.slice) _ c.in_ok-first_read.was
    e.new.work e.result (e.ensures.answer, e.ensures.slice) _ c.in_ok-second_read.was f.new.work f.result (f.ensures.answer, f.ensures.slice) _ c.in_err-third_read.was in
    let r = refusal_up _ _ _ shown _ c.from_residual-in_err-third_read.ensures.1 in
    record { answer = r.0; slice = r.1 }

pub overflow_add-result : goal.overflow_add-result
overflow_add-result c =
    let d = c.decompress_plane in
    let e = c.decompress_plane-2 in
    omega (
      arith,
      plane_within _ _ _ _ d.result (d.ensures.answer, d.ensures.slice) _ c.in_ok-first_read.was,
      plane_within _ _ _ _ e.result (e.ensures.answer, e.ensures.slice) _ c.in_ok-second_read.was,
      length_suffix c.args.body.now c.in_ok-first_read.first_read,
    )

pub overflow_add-result-2 : goal.overflow_add-result-2
overflow_add-result-2 c =
    let d = c.decompress_plane in
    let e = c.decompress_plane-2 in
    let f = c.decompress_plane-3 in
    omega (
      arith,
      plane_within _ _ _ _ d.result (d.ensures.answer, d.ensures.slice) _ c.in_ok-first_read.was,
      plane_within _ _ _ _ e.result (e.ensures.answer, e.ensures.slice) _ c.in_ok-second_read.was,
      plane_within _ _ _ _ f.result (f.ensures.answer, f.ensures.slice) _ c.in_ok-third_read.was,
      length_suffix c.args.body.now c.in_ok-first_read.first_read,
      length_suffix (suffix c.args.body.now c.in_ok-first_read.first_read) c.in_ok-second_read.second_read,
    )

pub returns : goal.returns
returns c =
    let a = c.args in
    let d = c.decompress_plane in
    let e = c.decompress_plane-2 in
    let f = c.decompress_plane-3 in
    let r = third_read a.subsampling a.width a.height _ _ a.body.now a.work.now c.chroma_side.ensures c.chroma_side-2.ensures d.new.work d.result (d.ensures.answer, d.ensures.slice) _ c.in_ok-first_read.was
    e.new.work e.result (e.ensures.answer, e.ensures.slice) _ c.in_ok-second_read.was f.new.work f.result (f.ensures.answer, f.ensures.slice) _ c.in_ok-third_read.was in
    record { answer = r.0; slice = r.1 }
