-- `encode_to`: a row that fits is copied at once.
use Rattle.std.proofs.Common.{take, arith}
use Rattle.rle_format.specs.Pack.{row_segments}
use Rattle.rle_encoder.proofs.Copied.{copied_part}
use Rattle.rle_encoder.proofs.row_packer.RowPacker.encode_to.Goals as goal

pub returns-then-bytes-dst : goal.returns-then-bytes-dst
returns-then-bytes-dst c =
    let a = c.args in
    let row = c.encode-bytes in
    let w = copied_part (row_segments (take a.self.now.width a.self.now.codes.now)) row.new.self.packed.now a.dst.now c.copy_from_slice.new.self a.at row.result row.ensures.bytes row.ensures.written (omega arith)
    c.copy_from_slice.ensures.after in
    record { answer = w.0; slice = w.1 }
