-- `rdp6_compress_8bpp_plane`: a plane that was packed has few bytes.
use Rattle.std.proofs.Common.{length, sym, ap, ◌∙◌, arith}
use Rattle.rle_format.specs.Answer.{to_answer}
use Rattle.rle_format.proofs.Plane.{area_max}
use Rattle.rle_format.proofs.PackPlane.{packed_complete}
use Rattle.rle_format.proofs.PackingSize.{packing_size_max}
use Rattle.rdp6.proofs.rdp6_compress_8bpp_plane.Goals as goal

pub answer_number-requires : goal.answer_number-requires
answer_number-requires c n e =
    let a = c.args in
    let w = packed_complete a.width a.height (length a.dst.now) a.src.now n (sym c.compress_8bpp_plane.ensures.answer ∙ ap to_answer e) in
    omega (arith, w.size, packing_size_max a.width a.height a.src.now, area_max a.width a.height w.wide.1 w.high.1)
