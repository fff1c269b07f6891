-- `rdp6_encode_bitmap`: an unknown layout writes nothing; a picture that was packed has fewer bytes than a slice can have.
use Rattle.std.proofs.Common.{false, length, sym, ap, ◌∙◌, arith}
use Rattle.rle_format.proofs.Outcome.{stop_writes_nothing}
use Rattle.rdp6.specs.Layout.{c_pack_pixels, unknown_layout}
use Rattle.rle_format.proofs.Answer.{number_max}
use Rattle.rdp6.proofs.Numbers.{refusal_fits, read_back, answer_without_header, encoded_count_max}
use Rattle.rdp6.proofs.rdp6_encode_bitmap.Goals as goal

pub returns-in_default-clause-answer : goal.returns-in_default-clause-answer
returns-in_default-clause-answer c =
    let a = c.args in
    let is = sym c.layout_of.ensures ∙ c.in_default.is in
    let left = stop_writes_nothing a.dst.now _ (unknown_layout a.width a.height) (ap (c_pack_pixels false a.rle a.width a.height (length a.dst.now) a.src.now) is) in
    read_back c.refusal_number.result _ _ (refusal_fits _ (number_max c.layout_refusal.result)) c.refusal_number.ensures (c.layout_refusal.ensures ∙ left.0)

pub returns-in_default-clause-slice : goal.returns-in_default-clause-slice
returns-in_default-clause-slice c =
    let a = c.args in
    let is = sym c.layout_of.ensures ∙ c.in_default.is in
    let left = stop_writes_nothing a.dst.now _ (unknown_layout a.width a.height) (ap (c_pack_pixels false a.rle a.width a.height (length a.dst.now) a.src.now) is) in
    left.1

pub answer_number-requires : goal.answer_number-requires
answer_number-requires c =
    let p = c.encode_bitmap_body-body in
    encoded_count_max _ _ _ _ _ p.result c.body_size.result c.body_size.ensures (answer_without_header p.result _ _ p.ensures.answer) (omega arith)
