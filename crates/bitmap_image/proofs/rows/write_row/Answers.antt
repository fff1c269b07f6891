-- `write_row`: by whether chroma is subsampled (Row.antt).
use Rattle.std.proofs.Common.{sym}
use Rattle.bitmap_image.proofs.Row.{RowRoom, own_chroma_row, doubled_chroma_row}
use Rattle.bitmap_image.proofs.rows.write_row.Goals as goal

pub returns-then-has_subsampled_chroma : goal.returns-then-has_subsampled_chroma
returns-then-has_subsampled_chroma c =
    let a = c.args in
    let r = c.requires in
    let room : RowRoom a.rule.definition a.samples.first.now a.samples.second.now a.samples.third.now a.alpha.now a.width a.dst.now a.co.now a.cg.now =
    record { valid = r.0; first_room = r.1; second_room = r.2; third_room = r.3; alpha_room = r.4; dst_room = r.5; co_room = r.6; cg_room = r.7 } in
    let o = c.double_samples in
    let g = c.double_samples-then-has_subsampled_chroma in
    let w = c.write_pixel_row in
    doubled_chroma_row a.layout a.rule.definition a.rule.flagged a.samples.first.now a.samples.second.now a.samples.third.now a.alpha.now a.width a.dst.now a.co.now a.cg.now w.new.dst room o.new.doubled g.new.doubled
    (sym c.if-has_subsampled_chroma.ensures) o.ensures g.ensures o.auto.doubled g.auto.doubled w.ensures

pub returns : goal.returns
returns c =
    let a = c.args in
    let r = c.requires in
    let room : RowRoom a.rule.definition a.samples.first.now a.samples.second.now a.samples.third.now a.alpha.now a.width a.dst.now a.co.now a.cg.now =
    record { valid = r.0; first_room = r.1; second_room = r.2; third_room = r.3; alpha_room = r.4; dst_room = r.5; co_room = r.6; cg_room = r.7 } in
    let w = c.write_pixel_row-2 in
    own_chroma_row a.layout a.rule.definition a.rule.flagged a.samples.first.now a.samples.second.now a.samples.third.now a.alpha.now a.width a.dst.now a.co.now a.cg.now w.new.dst room (sym c.if-has_subsampled_chroma.ensures) w.ensures
