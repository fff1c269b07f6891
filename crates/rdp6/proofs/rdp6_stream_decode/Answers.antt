-- `rdp6_stream_decode`: a picture that was written has few bytes.
use Rattle.std.proofs.Common.{sym, ap, ◌∙◌, arith}
use Rattle.bitmap_format.specs.Pixels.{three_bytes}
use Rattle.rle_format.specs.Answer.{to_answer}
use Rattle.bitmap_format.proofs.StreamCounts.{stream_image_count_max}
use Rattle.rdp6.proofs.rdp6_stream_decode.Goals as goal

pub answer_number-requires : goal.answer_number-requires
answer_number-requires c n e =
    let a = c.args in
    omega (arith, stream_image_count_max three_bytes a.width a.height a.stream.now a.work.now a.image.now n (sym c.decode_bitmap_stream_to_rgb24.ensures.answer ∙ ap to_answer e))
