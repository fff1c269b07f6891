-- `FittingPixels::new`: without subsampling a chroma row is as long as any.
use Rattle.std.proofs.Common.{Bool, ◌&&◌, leb, length, ap, arith}
use Rattle.bitmap_format.specs.Planes.{chroma_side_of}
use Rattle.bitmap_rows.proofs.fitting.FittingPixels.new.Goals as goal

pub returns-in_err-row : goal.returns-in_err-row
unfolding chroma_side_of
returns-in_err-row c = rw c.from_residual.ensures (ap (λ (t : Bool). t && leb c.args.width (length c.args.alpha.now)) c.in_err-row.ensures)

pub invariant_of-result : goal.invariant_of-result
unfolding chroma_side_of
invariant_of-result c =
    let row = c.in_ok-row.row in
    let full = c.in_ok-row.ensures.2 in
    record { second = rw full at row.second; third = rw full at row.third; shown = omega (arith, c.in_ok-row.ensures.1, c.if-alpha-width.false) }
