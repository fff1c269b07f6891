-- `write_rgb24_pixels`: each plane definition by its own pixels.
use Rattle.std.proofs.Common.{rules, ◌≡◌, ap, ◌∙◌, true, false, [], get_or, refl, arith}
use Rattle.bitmap_format.specs.declared.ColorPlaneDefinition.TheVariants.{Argb, AYCoCg}
use Rattle.bitmap_format.specs.Colour.{rgb, rgb24, aycocg_colour}
use Rattle.bitmap_format.specs.Planes.{subsampled}
use Rattle.bitmap_format.specs.Pixels.{three_bytes}
use Rattle.bitmap_rows.specs.Rows.{pixel_at}
use Rattle.bitmap_rows.proofs.PixelLoop.{aycocg_pixel, column_counted}
use Rattle.bitmap_rows.proofs.Inner.{argb_side, full_side, argb_row, refused_row, known_row}
use Rattle.bitmap_rows.proofs.rgb24.write_rgb24_pixels.Goals as goal

pub write_each-requires-clause-callable : goal.write_each-requires-clause-callable
write_each-requires-clause-callable c =
    let r = c.args.row in
    let second = argb_side c.args.rule.definition r.subsampling c.requires.0 r.width _ c.in-Argb.is r.second in
    let third = argb_side c.args.rule.definition r.subsampling c.requires.0 r.width _ c.in-Argb.is r.third in
    λ i l. (omega arith, omega arith, omega arith)

pub write_each-requires-in-AYCoCg-clause-callable : goal.write_each-requires-in-AYCoCg-clause-callable
write_each-requires-in-AYCoCg-clause-callable c =
    let r = c.args.row in
    let second = full_side c.args.rule.definition r.subsampling c.requires.0 _ _ r.width _ c.in-AYCoCg.is c.if-use_chroma_subsampling.false r.second in
    let third = full_side c.args.rule.definition r.subsampling c.requires.0 _ _ r.width _ c.in-AYCoCg.is c.if-use_chroma_subsampling.false r.third in
    λ i l. (omega arith, omega arith, omega arith, column_counted i)

pub returns-in-Argb : goal.returns-in-Argb
returns-in-Argb c =
    let r = c.args.row in
    let s = r.samples in
    c.write_each.ensures (pixel_at three_bytes Argb true s.first.now s.second.now s.third.now []) (λ i. refl) (λ i p l k.
    let e : p ≡ rgb (get_or s.first.now i 0) (get_or s.second.now i 0) (get_or s.third.now i 0) = search rules in
    ap rgb24 e)
    ∙ argb_row three_bytes c.args.rule.definition c.args.rule.flagged s.first.now s.second.now s.third.now [] r.width c.args.dst.now c.in-Argb.is

pub returns-in_default : goal.returns-in_default
returns-in_default c = refused_row three_bytes c.args.rule.definition c.args.rule.flagged _ _ _ [] _ c.args.dst.now _ _ c.in-AYCoCg.is c.in_default.ensures

pub write_subsampled_row-requires : goal.write_subsampled_row-requires
write_subsampled_row-requires c = (c.requires.0 ∙ ap subsampled c.in-AYCoCg.is ∙ c.if-use_chroma_subsampling.true, c.requires.1)

pub returns-then-use_chroma_subsampling : goal.returns-then-use_chroma_subsampling
returns-then-use_chroma_subsampling c =
    c.write_subsampled_row.ensures
    ∙ known_row three_bytes c.args.rule.definition c.args.rule.flagged _ _ _ [] _ c.args.dst.now c.in-AYCoCg.color_loss_level true (c.in-AYCoCg.is ∙ ap (AYCoCg c.in-AYCoCg.color_loss_level) c.if-use_chroma_subsampling.true) c.in-Some.level.level c.in-Some.level.allowed.0 c.in-Some.level.allowed.1 c.in-Some.ensures

pub returns-else-use_chroma_subsampling : goal.returns-else-use_chroma_subsampling
returns-else-use_chroma_subsampling c =
    let r = c.args.row in
    let s = r.samples in
    let level = c.in-Some.level.level in
    c.write_each-in-AYCoCg.ensures (pixel_at three_bytes (AYCoCg level false) c.args.rule.flagged s.first.now s.second.now s.third.now []) (λ i. refl) (λ i p l k.
    let e : p ≡ aycocg_colour c.args.rule.flagged level (get_or s.first.now i 0) (get_or s.second.now i 0) (get_or s.third.now i 0) = search rules in
    aycocg_pixel c.args.rule.flagged level false s.first.now s.second.now s.third.now i i p (column_counted i) e)
    ∙ known_row three_bytes c.args.rule.definition c.args.rule.flagged _ _ _ [] _ c.args.dst.now c.in-AYCoCg.color_loss_level false (c.in-AYCoCg.is ∙ ap (AYCoCg c.in-AYCoCg.color_loss_level) c.if-use_chroma_subsampling.false) level c.in-Some.level.allowed.0 c.in-Some.level.allowed.1 c.in-Some.ensures
