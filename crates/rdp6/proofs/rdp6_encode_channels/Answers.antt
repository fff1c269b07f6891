-- `rdp6_encode_channels`: a picture that was packed has fewer bytes than a slice can have.
use Rattle.std.proofs.Common.{arith}
use Rattle.rdp6.proofs.Numbers.{answer_without_header, encoded_count_max}
use Rattle.rdp6.proofs.rdp6_encode_channels.Goals as goal

pub answer_number-requires : goal.answer_number-requires
answer_number-requires c =
    let p = c.encode_channels_body-body in
    encoded_count_max _ _ _ _ _ p.result c.body_size.result c.body_size.ensures (answer_without_header p.result _ _ p.ensures.answer) (omega arith)
