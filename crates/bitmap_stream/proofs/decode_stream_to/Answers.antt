-- `decode_stream_to`: what the split stream is decides (proofs/Entry.antt).
use Rattle.std.proofs.Common.{ℕ, List, refl}
use Rattle.std.proofs.lemmas.Result.{err_from_is_err_and}
use Rattle.rle_format.specs.Answer.{refused, number, to_answer}
use Rattle.bitmap_format.specs.declared.BitmapStreamHeader.{BitmapStreamHeader}
use Rattle.bitmap_format.specs.Pixels.{format_to_form}
use Rattle.bitmap_format.specs.Picture.{unpack_to}
use Rattle.bitmap_stream.proofs.Entry.{left_as, split_body, split_refused_lem}
use Rattle.bitmap_stream.proofs.decode_stream_to.Goals as goal

pub returns-in_err-header : goal.returns-in_err-header
returns-in_err-header c =
    let a = c.args in
    let why = c.in_err-header in
    let e = split_refused_lem (λ (header : BitmapStreamHeader) (body : List ℕ). unpack_to (format_to_form a.format) header a.width a.height body a.work.now a.image.now)
    a.work.now a.image.now a.stream.now why.field-0.0 why.ensures.split in
    let w = left_as _ _ (refused (number why.field-0.0)) a.work.now a.image.now e (refl, (refl, refl)) in
    let p = err_from_is_err_and c.from_residual.result c.from_residual.ensures.1 in
    record { answer = rw (p.1, p.2) w.0; work = w.1.0; image = w.1.1 }

pub returns : goal.returns
returns c =
    let a = c.args in
    let d = c.decode_to in
    let e = split_body (λ (header : BitmapStreamHeader) (body : List ℕ). unpack_to (format_to_form a.format) header a.width a.height body a.work.now a.image.now)
    a.work.now a.image.now a.stream.now c.in_ok-header.field-0 c.in_ok-header.ensures.split in
    let w = left_as _ _ (to_answer d.result) d.new.work d.new.image e (d.ensures.answer, (d.ensures.work, d.ensures.image)) in
    record { answer = w.0; work = w.1.0; image = w.1.1 }
