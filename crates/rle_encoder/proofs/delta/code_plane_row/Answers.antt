-- `code_plane_row`: the first row as it is, a later one by the row above it in the slice.
use Rattle.std.proofs.Common.{◌∙◌, ap}
use Rattle.rle_format.specs.Pack.{codes_at}
use Rattle.rle_encoder.proofs.Below.{plane_first, plane_later, planar_are}
use Rattle.rle_encoder.proofs.delta.code_plane_row.Goals as goal

pub returns-then-r-eq0 : goal.returns-then-r-eq0
returns-then-r-eq0 c =
    let row = c.args.row in
    c.copy_from_slice.ensures.after ∙ plane_first row.width row.samples.src.now row.r c.if-r-eq0.true ∙ ap (λ l. codes_at row.width l row.r) (planar_are row.samples.layout row.samples.channel row.samples.src.now c.requires.0)

pub returns : goal.returns
returns c =
    let row = c.args.row in
    c.delta_below.ensures ∙ plane_later row.width row.samples.src.now row.r c.if-r-eq0.false ∙ ap (λ l. codes_at row.width l row.r) (planar_are row.samples.layout row.samples.channel row.samples.src.now c.requires.0)
