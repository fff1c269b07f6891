-- `write_pixels`: each plane definition by the function that it calls; an AYCoCg pixel by the two answers of its layout.
use Rattle.std.proofs.Common.{false, sym, ap, ◌∙◌}
use Rattle.pixel_format.specs.Channel.{channel_offsets}
use Rattle.bitmap_format.specs.Pixels.{four_bytes}
use Rattle.bitmap_rows.specs.Rows.{full_chroma}
use Rattle.bitmap_rows.proofs.Inner.{argb_row, arranged_row, level_valid, refused_row, known_row}
use Rattle.bitmap_rows.proofs.pixels.write_pixels.Goals as goal

pub returns-in-Argb : goal.returns-in-Argb
returns-in-Argb c =
    let a = c.args in
    c.write_argb_pixels.ensures ∙ argb_row (four_bytes (channel_offsets a.layout)) (full_chroma a.rule.definition) a.rule.flagged _ _ _ _ _ a.dst.now (ap full_chroma c.in-Argb.is)

pub returns-in_default : goal.returns-in_default
returns-in_default c =
    let a = c.args in
    refused_row (four_bytes (channel_offsets a.layout)) (full_chroma a.rule.definition) a.rule.flagged _ _ _ _ _ a.dst.now _ false (ap full_chroma c.in-AYCoCg.is) c.in_default.ensures

pub returns-in-Some : goal.returns-in-Some
returns-in-Some c =
    let a = c.args in
    let s = a.pixels.row.samples in
    let n = a.pixels.row.width in
    let level = c.in-Some.level in
    let form = four_bytes (channel_offsets a.layout) in
    c.write_aycocg_pixels.ensures
    ∙ sym (level_valid level.level false _ a.dst.now level.allowed.0 level.allowed.1)
    ∙ arranged_row a.layout a.rule.flagged level.level s.first.now s.second.now s.third.now a.pixels.alpha.now n a.dst.now _ _ c.alpha_first.ensures c.color_flag-flag.ensures
    ∙ level_valid level.level false _ a.dst.now level.allowed.0 level.allowed.1
    ∙ known_row form (full_chroma a.rule.definition) a.rule.flagged s.first.now s.second.now s.third.now a.pixels.alpha.now n a.dst.now _ false (ap full_chroma c.in-AYCoCg.is) level.level level.allowed.0 level.allowed.1 c.in-Some.ensures
