-- `encode`: by the checks, then RLE or raw.
use Rattle.std.proofs.Common.{◌≡◌, ℕ, ◌*◌, length, map, sym, ap, ◌∙◌, arith}
use Rattle.std.proofs.lemmas.Result.{err_from_is_err_and}
use Rattle.rle_format.specs.Answer.{number}
use Rattle.rle_format.specs.Pack.{write_segments}
use Rattle.rle_format.proofs.Outcome.{answer_cong, slice_cong, stop_writes_nothing}
use Rattle.rle_format.proofs.Plane.{area_max}
use Rattle.rle_format.proofs.WriteLoop.{wrote_from_0}
use Rattle.pixel_format.specs.Samples.{samples_in}
use Rattle.bitmap_format.specs.PackPicture.{picture_segments, raw_body, write_all_or_nothing, any_short}
use Rattle.bitmap_format.proofs.PackPicture.{pack_picture_refused, pack_picture_rle, pack_picture_all_or_nothing}
use Rattle.bitmap_encoder.proofs.Checks.{pack_passes, same_area}
use Rattle.bitmap_encoder.proofs.planes.encode.Goals as goal

pub returns-in_err-sides : goal.returns-in_err-sides
returns-in_err-sides c =
    let a = c.args in
    let planes = map samples_in a.planes.now in
    let why = c.in_err-sides in
    let w = stop_writes_nothing a.dst.now _ _ (pack_picture_refused a.width a.height planes a.rle (length a.dst.now) (number why.field-0.0) why.ensures.refused) in
    let p = err_from_is_err_and c.from_residual.result c.from_residual.ensures.1 in
    record { answer = rw (p.1, p.2) w.0; slice = w.1 }

pub compress_planes-requires : goal.compress_planes-requires
compress_planes-requires c =
    let a = c.args in
    let planes = map samples_in a.planes.now in
    let sides = c.in_ok-sides in
    let passed = sides.ensures.passed in
    ap (λ (n : ℕ). any_short n planes) (same_area a.width a.height planes sides.sides (passed.0, passed.1)) ∙ passed.2

pub returns-then-rle : goal.returns-then-rle
returns-then-rle c =
    let a = c.args in
    let planes = map samples_in a.planes.now in
    let s = c.in_ok-sides.sides in
    let passed = c.in_ok-sides.ensures.passed in
    let checked = pack_passes a.width a.height planes s (passed.0, passed.1) passed.2 in
    let is = sym (pack_picture_rle a.rle a.width a.height (length a.dst.now) (a.width * a.height) planes checked c.if-rle.true) in
    let q = c.compress_planes in
    let w = wrote_from_0 (picture_segments s.width s.height planes) a.dst.now q.new.dst q.result (q.ensures.answer, q.ensures.slice) in
    let sides : write_segments (picture_segments s.width s.height planes) (length a.dst.now) ≡ write_segments (picture_segments a.width a.height planes) (length a.dst.now) =
    λ i. write_segments (picture_segments (passed.0 i) (passed.1 i) planes) (length a.dst.now) in
    record { answer = w.0 ∙ answer_cong sides ∙ answer_cong is; slice = w.1 ∙ slice_cong a.dst.now sides ∙ slice_cong a.dst.now is }

pub write_planes-requires : goal.write_planes-requires
write_planes-requires c =
    let a = c.args in
    let planes = map samples_in a.planes.now in
    let s = c.in_ok-sides.sides in
    let passed = c.in_ok-sides.ensures.passed in
    let most = area_max s.width s.height s.allowed.wide s.allowed.high in
    let n = c.area.ensures in (
      c.requires,
      omega arith,
      ap (λ (n : ℕ). any_short n planes) (n ∙ same_area a.width a.height planes s (passed.0, passed.1)) ∙ passed.2,
    )

pub returns : goal.returns
returns c =
    let a = c.args in
    let planes = map samples_in a.planes.now in
    let s = c.in_ok-sides.sides in
    let passed = c.in_ok-sides.ensures.passed in
    let checked = pack_passes a.width a.height planes s (passed.0, passed.1) passed.2 in
    let is = sym (pack_picture_all_or_nothing a.rle a.width a.height (length a.dst.now) (a.width * a.height) planes checked c.if-rle.false) in
    let q = c.write_planes in
    let n = c.area.ensures ∙ same_area a.width a.height planes s (passed.0, passed.1) in
    let area : write_all_or_nothing (raw_body c.area.result planes) (length a.dst.now) ≡ write_all_or_nothing (raw_body (a.width * a.height) planes) (length a.dst.now) =
    ap (λ (n : ℕ). write_all_or_nothing (raw_body n planes) (length a.dst.now)) n in
    record { answer = q.ensures.answer ∙ answer_cong area ∙ answer_cong is; slice = q.ensures.slice ∙ slice_cong a.dst.now area ∙ slice_cong a.dst.now is }
