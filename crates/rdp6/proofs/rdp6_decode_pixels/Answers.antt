-- `rdp6_decode_pixels`: a picture that was written has few bytes.
use Rattle.std.proofs.Common.{sym, ap, ◌∙◌, arith}
use Rattle.rle_format.specs.Answer.{to_answer}
use Rattle.bitmap_format.proofs.UnpackPicture.{image_count_max}
use Rattle.rdp6.proofs.rdp6_decode_pixels.Goals as goal

pub answer_number-requires : goal.answer_number-requires
answer_number-requires c n e =
    let a = c.args in
    omega (arith, image_count_max _ c.header_of-picture_header.result a.width a.height a.body.now a.work.now a.image.now n (sym c.decode_pixels.ensures.answer ∙ ap to_answer e))
