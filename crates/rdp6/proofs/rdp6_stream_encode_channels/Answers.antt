-- `rdp6_stream_encode_channels`: a stream that was packed has fewer bytes than a slice can have.
use Rattle.std.proofs.Common.{false, arith}
use Rattle.rdp6.proofs.Numbers.{stream_count_max}
use Rattle.rdp6.proofs.rdp6_stream_encode_channels.Goals as goal

pub answer_number-requires : goal.answer_number-requires
answer_number-requires c =
    let a = c.args in
    let p = c.encode_channels_stream in
    stream_count_max false a.rle a.width a.height _ a.dst.now p.result p.ensures.answer (omega arith)
