-- `ColorPlanes::chroma_step`: by the parity of the row.
use Rattle.std.proofs.Common.{◌%◌, Bool, sym, ap, ◌∙◌, eq-eqb}
use Rattle.rle_format.specs.Choice.{choose}
use Rattle.bitmap_format.specs.Planes.{subsampled}
use Rattle.bitmap_format.proofs.Counting.{step_by_parity, step_odd}
use Rattle.bitmap_image.specs.Rows.{chroma_width_of}
use Rattle.bitmap_image.proofs.planes.ColorPlanes.chroma_step.Goals as goal

pub returns-then-row-eq0 : goal.returns-then-row-eq0
returns-then-row-eq0 c =
    let a = c.args in
    let p = a.self.picture in
    let width = chroma_width_of p in
    sym (step_by_parity (subsampled p.header.color_plane_definition) width a.row a.self.chroma.even_step a.self.chroma_even
    ∙ ap (λ (t : Bool). choose t a.self.chroma.even_step width) (eq-eqb (a.row % 2) 0 c.if-row-eq0.true))

pub returns : goal.returns
returns c =
    let a = c.args in
    let p = a.self.picture in
    a.self.chroma_width ∙ sym (step_odd (subsampled p.header.color_plane_definition) (chroma_width_of p) a.row c.if-row-eq0.false)
