-- `rdp6_stream_encode_bitmap_alpha`: a stream that was packed has fewer bytes than a slice can have.
use Rattle.std.proofs.Common.{true, arith}
use Rattle.rdp6.proofs.Numbers.{stream_count_max}
use Rattle.rdp6.proofs.rdp6_stream_encode_bitmap_alpha.Goals as goal

pub answer_number-requires : goal.answer_number-requires
answer_number-requires c =
    let a = c.args in
    let p = c.encode_bitmap_alpha in
    stream_count_max true a.rle a.width a.height _ a.dst.now p.result p.ensures.answer (omega arith)
