-- `rdp6_stream_decode_pixels`: a picture that was written has few bytes; an unknown layout changes nothing.
use Rattle.std.proofs.Common.{sym, ap, ◌∙◌, arith}
use Rattle.rle_format.specs.Answer.{to_answer}
use Rattle.bitmap_format.specs.Picture.{PictureOutcome}
use Rattle.bitmap_format.proofs.StreamCounts.{stream_image_count_max}
use Rattle.rdp6.proofs.Layouts.{unknown_stream_by}
use Rattle.rle_format.proofs.Answer.{number_max}
use Rattle.rdp6.proofs.Numbers.{refusal_fits, read_back}
use Rattle.rdp6.proofs.rdp6_stream_decode_pixels.Goals as goal

pub returns-in_default-clause-answer : goal.returns-in_default-clause-answer
returns-in_default-clause-answer c =
    let a = c.args in
    let o = unknown_stream_by a.width a.height a.stream.now a.work.now a.image.now _ (sym c.layout_of.ensures ∙ c.in_default.is) in
    let n = c.refusal_number in
    read_back n.result _ _ (refusal_fits _ (number_max c.stream_layout_refusal.result)) n.ensures (c.stream_layout_refusal.ensures ∙ ap (λ (x : PictureOutcome). x.answer) o)

pub returns-in_default-clause-work : goal.returns-in_default-clause-work
returns-in_default-clause-work c =
    let a = c.args in
    ap (λ (x : PictureOutcome). x.work) (unknown_stream_by a.width a.height a.stream.now a.work.now a.image.now _ (sym c.layout_of.ensures ∙ c.in_default.is))

pub returns-in_default-clause-image : goal.returns-in_default-clause-image
returns-in_default-clause-image c =
    let a = c.args in
    ap (λ (x : PictureOutcome). x.image) (unknown_stream_by a.width a.height a.stream.now a.work.now a.image.now _ (sym c.layout_of.ensures ∙ c.in_default.is))

pub answer_number-requires : goal.answer_number-requires
answer_number-requires c n e =
    let a = c.args in
    omega (arith, stream_image_count_max _ a.width a.height a.stream.now a.work.now a.image.now n (sym c.decode_bitmap_stream_to_pixels.ensures.answer ∙ ap to_answer e))
