-- `rdp6_decode`: a picture that was written has few bytes.
use Rattle.std.proofs.Common.{sym, ap, ◌∙◌, arith}
use Rattle.bitmap_format.specs.Pixels.{three_bytes}
use Rattle.rle_format.specs.Answer.{to_answer}
use Rattle.bitmap_format.proofs.UnpackPicture.{image_count_max}
use Rattle.rdp6.proofs.rdp6_decode.Goals as goal

pub answer_number-requires : goal.answer_number-requires
answer_number-requires c n e =
    let a = c.args in
    omega (arith, image_count_max three_bytes c.header_of-header.result a.width a.height a.body.now a.work.now a.image.now n (sym c.decode.ensures.answer ∙ ap to_answer e))
