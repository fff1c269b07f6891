-- `code_pixel_row`: the samples that were read are coded, and kept.
use Rattle.std.proofs.Common.{arith}
use Rattle.pixel_format.specs.Samples.{samples_in}
use Rattle.rle_encoder.proofs.Rows.{row_coded}
use Rattle.rle_encoder.proofs.delta.code_pixel_row.Goals as goal

pub returns : goal.returns
returns c =
    let a = c.args in
    let row = a.row in
    let code = c.code_scanline in
    let w = row_coded row.width (samples_in row.samples) row.r a.above.now a.codes.now c.read.new.dst code.new.codes code.new.above (omega arith) (omega arith) row.within c.requires.2 c.read.ensures
    code.ensures.codes code.ensures.above in
    record { codes = w.0; above = w.1 }
