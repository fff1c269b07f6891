-- `write_rgb24_row`: nothing is written where a test fails, else what `write_rgb24_pixels` writes.
use Rattle.std.proofs.Common.{Bool, ◌*◌, ◌<◌, ◌≤◌, [], length, sym, ap, ◌∙◌, arith}
use Rattle.bitmap_format.specs.Planes.{chroma_side_of}
use Rattle.bitmap_format.specs.Pixels.{three_bytes}
use Rattle.bitmap_rows.specs.Rows.{samples_fit, write_row_of}
use Rattle.bitmap_rows.proofs.Rows.{samples_fit_lem, row_no_room, row_no_samples, row_by_level}
use Rattle.bitmap_rows.proofs.write_rgb24_row.Goals as goal

pub returns-then-dst-width : goal.returns-then-dst-width
returns-then-dst-width c =
    let a = c.args in
    let room : length a.dst.now < 3 * a.width = omega arith in
    row_no_room three_bytes a.rule.definition a.rule.flagged a.samples.first.now a.samples.second.now a.samples.third.now [] a.width a.dst.now room

pub write_rgb24_pixels-requires : goal.write_rgb24_pixels-requires
write_rgb24_pixels-requires c =
    let known = c.in-Some.ensures in
    (known.2 ∙ c.has_subsampled_chroma-subsampling.ensures, omega (arith, known.1))

pub returns-in-Some : goal.returns-in-Some
returns-in-Some c =
    let a = c.args in
    let r = c.in-Some.row in
    let s = r.samples in
    let known = c.in-Some.ensures in
    let side = known.2 ∙ c.has_subsampled_chroma-subsampling.ensures in
    let room : 3 * r.width ≤ length a.dst.now = omega (arith, known.1) in
    let none : 0 ≤ 0 = omega arith in
    c.write_rgb24_pixels.ensures
    ∙ row_by_level three_bytes a.rule.definition a.rule.flagged s.first.now s.second.now s.third.now [] r.width a.dst.now
    (samples_fit_lem r.width _ s.first.now s.second.now s.third.now r.first (rw side at r.second) (rw side at r.third)) none room
    ∙ (λ i. write_row_of three_bytes a.rule.definition a.rule.flagged (known.0 i).first.now (known.0 i).second.now (known.0 i).third.now [] (known.1 i) a.dst.now)

pub returns-in_default : goal.returns-in_default
returns-in_default c =
    let a = c.args in
    let s = a.samples in
    row_no_samples three_bytes a.rule.definition a.rule.flagged s.first.now s.second.now s.third.now [] a.width a.dst.now
    (ap (λ (b : Bool). samples_fit a.width (chroma_side_of b a.width) s.first.now s.second.now s.third.now) (sym c.has_subsampled_chroma-subsampling.ensures) ∙ c.in_default.ensures)
