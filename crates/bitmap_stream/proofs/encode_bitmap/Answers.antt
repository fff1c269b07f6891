-- `encode_bitmap`: an empty destination and a refusal keep the first byte, a packed body gets its header byte (proofs/FirstByte.antt).
use Rattle.std.proofs.Common.{false, [], ◌∷◌, Ok, Err, refl, ap, ◌∙◌, arith}
use Rattle.std.proofs.lemmas.Result.{err_from_is_err_and}
use Rattle.rle_format.specs.Answer.{counted}
use Rattle.pixel_format.specs.declared.Channel.TheVariants.{R, G, B}
use Rattle.pixel_format.specs.Channel.{channel_offsets, channel}
use Rattle.bitmap_stream.proofs.FirstByte.{stream_refused, stream_fits, stream_written, same_sides}
use Rattle.bitmap_stream.proofs.encode_bitmap.Goals as goal

pub returns-in_err-body : goal.returns-in_err-body
returns-in_err-body c =
    let a = c.args in
    let start = c.body_start-start in
    let p = c.encode_bitmap_body in
    let why = c.in_err-body in
    let is = stream_refused false a.rle _ _ (channel (channel_offsets a.layout) R a.src.now) (channel (channel_offsets a.layout) G a.src.now ∷ channel (channel_offsets a.layout) B a.src.now ∷ []) a.dst.now p.new.dst start.result start.ensures
    (Err why.field-0.0) p.auto.dst why.ensures.answer why.ensures.slice why.field-0.0 refl in
    let w = same_sides _ _ _ _ a.width a.height _ _ _ _ is (omega arith) (omega arith) in
    let q = err_from_is_err_and c.from_residual.result c.from_residual.ensures.1 in
    record { answer = rw (q.1, q.2) w.0; slice = w.1 }

pub write_header_byte-requires : goal.write_header_byte-requires
write_header_byte-requires c =
    let a = c.args in
    let start = c.body_start-start in
    let p = c.encode_bitmap_body in
    let packed = c.in_ok-body in
    stream_fits false a.rle _ _ (channel (channel_offsets a.layout) R a.src.now) (channel (channel_offsets a.layout) G a.src.now ∷ channel (channel_offsets a.layout) B a.src.now ∷ []) a.dst.now p.new.dst start.result start.ensures
    (Ok packed.body) p.auto.dst packed.ensures.answer packed.ensures.slice packed.body refl

pub returns : goal.returns
returns c =
    let a = c.args in
    let start = c.body_start-start in
    let p = c.encode_bitmap_body in
    let packed = c.in_ok-body in
    let f = c.write_header_byte in
    let is = stream_written false a.rle _ _ (channel (channel_offsets a.layout) R a.src.now) (channel (channel_offsets a.layout) G a.src.now ∷ channel (channel_offsets a.layout) B a.src.now ∷ []) a.dst.now p.new.dst start.result start.ensures
    (Ok packed.body) p.auto.dst packed.ensures.answer packed.ensures.slice packed.body refl in
    let w = same_sides _ _ _ _ a.width a.height _ _ _ _ is (omega arith) (omega arith) in
    record { answer = ap counted f.ensures.count ∙ w.0; slice = f.ensures.slice ∙ w.1 }
