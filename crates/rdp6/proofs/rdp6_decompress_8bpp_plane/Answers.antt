-- `rdp6_decompress_8bpp_plane`: a plane that was read has read few bytes.
use Rattle.std.proofs.Common.{length, sym, ap, ◌∙◌, arith}
use Rattle.rle_format.specs.Answer.{to_answer}
use Rattle.rle_format.proofs.Plane.{read_count_max}
use Rattle.rdp6.proofs.rdp6_decompress_8bpp_plane.Goals as goal

pub answer_number-requires : goal.answer_number-requires
answer_number-requires c n e =
    let a = c.args in
    omega (arith, read_count_max a.width a.height (length a.dst.now) a.src.now n (sym c.decompress_8bpp_plane.ensures.answer ∙ ap to_answer e))
