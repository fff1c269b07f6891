-- `decode_to`: the answer of the checks decides (bitmap_format's UnpackPicture.antt); where it is no refusal, the RLE or the raw picture. Assumes
-- nothing.
use Rattle.std.proofs.Common.{◌≡◌, length, refl, sym, ap, ◌∙◌}
use Rattle.std.specs.Prelude.{Ok}
use Rattle.rle_format.specs.Answer.{counted, number, to_answer}
use Rattle.rle_format.specs.Sides.{AllowedSides}
use Rattle.bitmap_format.specs.Pixels.{format_to_form}
use Rattle.bitmap_format.specs.Picture.{check_picture}
use Rattle.bitmap_format.proofs.Answer.{passed_up}
use Rattle.bitmap_format.proofs.UnpackPicture.{unpack_to_refused, unpack_to_rle, unpack_to_raw}
use Rattle.bitmap_format.proofs.PictureChecks.{ChecksPassed, checks_passed}
use Rattle.bitmap_decoder.proofs.Pictures.{result_cong, checked_sides, raw_written}
use Rattle.bitmap_decoder.proofs.decode_to.Goals as goal
use Rattle.bitmap_decoder.proofs.decode_to.Goals.{In_ok-size}

-- the answer of the checks, where it is no refusal, and what is known then
checked : (c : In_ok-size) → check_picture (format_to_form c.args.format) c.args.header c.args.width c.args.height (length c.args.body.now) (length c.args.work.now) (length c.args.image.now) ≡ counted c.in_ok-size.size
checked c = sym c.first_refusal.ensures ∙ ap to_answer c.in_ok-size.was

known : (c : In_ok-size) → ChecksPassed (format_to_form c.args.format) c.args.header c.args.width c.args.height (length c.args.body.now) (length c.args.work.now) (length c.args.image.now) c.in_ok-size.size
known c = checks_passed _ _ _ _ _ _ _ _ (checked c)

sides : (c : In_ok-size) → AllowedSides c.args.width c.args.height
sides c = checked_sides _ _ _ _ _ _ _ _ (checked c)

pub returns-in_err-size : goal.returns-in_err-size
returns-in_err-size c =
    let a = c.args in
    let q = c.in_err-size.field-0.0 in
    let up = c.from_residual in
    let r = result_cong _ _ a.work.now a.image.now up.result (unpack_to_refused (format_to_form a.format) a.header a.width a.height a.body.now a.work.now a.image.now (number q) (sym c.first_refusal.ensures ∙ ap to_answer c.in_err-size.was)) (passed_up up.result q up.ensures.1, (refl, refl)) in
    record { answer = r.0; work = r.1.0; image = r.1.1 }

pub invariant_of-picture : goal.invariant_of-picture
invariant_of-picture c =
    let k = (goal.at.invariant_of-picture c).In_ok-size in
    record { allowed = sides k; level = (known k).loss }

pub decode_rle-requires : goal.decode_rle-requires
decode_rle-requires c =
    let k = known (goal.at.decode_rle-requires c).In_ok-size in
    (c.if-header.true, k.work_enough, k.image_enough)

pub returns-then-header : goal.returns-then-header
returns-then-header c =
    let a = c.args in
    let d = c.decode_rle in
    let w = (goal.at.returns-then-header c).In_ok-size in
    let r = result_cong _ _ d.new.work d.new.image d.result (unpack_to_rle (format_to_form a.format) a.header a.width a.height a.body.now a.work.now a.image.now _ (checked w) c.if-header.true) (d.ensures.answer, (d.ensures.work, d.ensures.image)) in
    record { answer = r.0; work = r.1.0; image = r.1.1 }

pub invariant_of-picture-2 : goal.invariant_of-picture-2
invariant_of-picture-2 c =
    let k = (goal.at.invariant_of-picture-2 c).In_ok-size in
    record { allowed = sides k; level = (known k).loss }

pub decode_raw-requires : goal.decode_raw-requires
decode_raw-requires c =
    let k = known (goal.at.decode_raw-requires c).In_ok-size in
    (c.if-header.false, k.body_enough, k.image_enough)

pub returns : goal.returns
returns c =
    let a = c.args in
    let w = (goal.at.returns c).In_ok-size in
    let r = result_cong _ _ a.work.now c.decode_raw.new.image (Ok c.in_ok-size.size) (unpack_to_raw (format_to_form a.format) a.header a.width a.height a.body.now a.work.now a.image.now _ (checked w) c.if-header.false)
    (raw_written (format_to_form a.format) a.header a.width a.height c.in_ok-size.size a.body.now a.work.now a.image.now _ (Ok c.in_ok-size.size) refl (known w).answer c.decode_raw.ensures) in
    record { answer = r.0; work = r.1.0; image = r.1.1 }
