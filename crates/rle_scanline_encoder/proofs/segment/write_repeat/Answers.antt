-- `write_repeat`: the control byte of a long run, or nothing.
use Rattle.std.proofs.Common.{◌+◌, ◌*◌, ◌/◌, ◌%◌, set, sym, arith}
use Rattle.rle_format.specs.Pack.{repeat}
use Rattle.rle_format.proofs.Slice.{write_at_nil}
use Rattle.rle_format.proofs.Writing.{control_byte_long}
use Rattle.rle_format.proofs.WriteLoop.{wrote_refused, wrote_one}
use Rattle.rle_scanline_encoder.proofs.segment.write_repeat.Goals as goal

pub returns-then-dst-at-lt1 : goal.returns-then-dst-at-lt1
returns-then-dst-at-lt1 c =
    let w = wrote_refused (repeat c.args.run) c.args.dst.now c.args.at (omega arith) in
    record { answer = w.0; slice = w.1 }

pub returns : goal.returns
returns c =
    let control = 16 * (c.args.run % 16) + c.args.run / 16 in
    let now = set c.args.dst.now c.args.at control in
    let w = wrote_one (repeat c.args.run) c.args.dst.now c.args.at now control (c.args.at + 1) (omega arith) (omega arith)
    (sym (control_byte_long c.args.run (omega arith) (omega arith))) (omega arith) (sym (write_at_nil now (c.args.at + 1))) in
    record { answer = w.0; slice = w.1 }
