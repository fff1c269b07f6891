-- `write_literal`: the control byte and the raw bytes, or nothing.
use Rattle.std.proofs.Common.{◌+◌, ◌*◌, length, set, sym, ap, ◌∙◌, arith}
use Rattle.rle_format.specs.Pack.{literal}
use Rattle.rle_format.specs.Slice.{write_at}
use Rattle.rle_format.proofs.Writing.{control_byte_short}
use Rattle.rle_format.proofs.WriteLoop.{wrote_refused, wrote_one}
use Rattle.rle_scanline_encoder.proofs.Part.{put_mid-write_at}
use Rattle.rle_scanline_encoder.proofs.segment.write_literal.Goals as goal

pub returns-then-dst-at : goal.returns-then-dst-at
returns-then-dst-at c =
    let w = wrote_refused (literal c.args.raw.now c.args.run) c.args.dst.now c.args.at (omega arith) in
    record { answer = w.0; slice = w.1 }

pub returns : goal.returns
returns c =
    let a = c.args in
    let copied = c.copy_from_slice in
    let control = 16 * length a.raw.now + a.run in
    let d = set a.dst.now a.at control in
    let e = put_mid-write_at d copied.new.self (a.at + 1) (a.at + 1 + length a.raw.now) (ap (λ l. a.at + 1 + length l) (sym copied.ensures.after))
    ∙ ap (write_at d (a.at + 1)) copied.ensures.after in
    let w = wrote_one (literal a.raw.now a.run) a.dst.now a.at _ control (a.at + 1 + length a.raw.now)
    (omega arith) (omega arith) (sym (control_byte_short a.raw.now a.run (omega arith))) (omega arith) e in
    record { answer = w.0; slice = w.1 }
