-- `write_pixel_row`: nothing is written where a test fails, else what `write_pixels` writes.
use Rattle.std.proofs.Common.{◌*◌, ◌<◌, ◌≤◌, length, ◌∙◌, arith}
use Rattle.pixel_format.specs.Channel.{channel_offsets}
use Rattle.bitmap_format.specs.Pixels.{four_bytes}
use Rattle.bitmap_rows.specs.Rows.{full_chroma, write_row_of}
use Rattle.bitmap_rows.proofs.Rows.{samples_fit_lem, full_chroma_side, row_no_room, row_missing, row_by_level}
use Rattle.bitmap_rows.proofs.write_pixel_row.Goals as goal

pub returns-then-dst-width : goal.returns-then-dst-width
returns-then-dst-width c =
    let a = c.args in
    let room : length a.dst.now < 4 * a.width = omega arith in
    row_no_room (four_bytes (channel_offsets a.layout)) (full_chroma a.rule.definition) a.rule.flagged a.samples.first.now a.samples.second.now a.samples.third.now a.alpha.now a.width a.dst.now room

pub returns-in-Some : goal.returns-in-Some
returns-in-Some c =
    let a = c.args in
    let p = c.in-Some.pixels in
    let n = p.row.width in
    let s = p.row.samples in
    let form = four_bytes (channel_offsets a.layout) in
    let d = full_chroma a.rule.definition in
    let known = c.in-Some.ensures in
    let side = full_chroma_side a.rule.definition n in
    let room : 4 * n ≤ length a.dst.now = omega (arith, known.1) in
    c.write_pixels.ensures
    ∙ row_by_level form d a.rule.flagged s.first.now s.second.now s.third.now p.alpha.now n a.dst.now
    (samples_fit_lem n _ s.first.now s.second.now s.third.now p.row.first (rw side p.second) (rw side p.third)) p.shown room
    ∙ (λ i. write_row_of form d a.rule.flagged (known.0 i).first.now (known.0 i).second.now (known.0 i).third.now (known.2 i) (known.1 i) a.dst.now)

pub returns-in_default : goal.returns-in_default
returns-in_default c =
    let a = c.args in
    let s = a.samples in
    row_missing (channel_offsets a.layout) a.rule.definition a.rule.flagged s.first.now s.second.now s.third.now a.alpha.now a.width a.dst.now c.in_default.ensures
