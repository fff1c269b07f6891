-- `first_refusal`: refusals 1 to 3 are those of Picture::new, and each other return is by the law of the check that led to it (bitmap_format's
-- CheckedPicture.antt, PictureChecks.antt).
use Rattle.std.proofs.Common.{sym, ◌∙◌}
use Rattle.bitmap_format.proofs.Answer.{passed_up}
use Rattle.bitmap_format.proofs.CheckedPicture.{picture_refused, picture_passed}
use Rattle.bitmap_format.proofs.PictureChecks.{body_refused, work_refused, image_refused, all_passed}
use Rattle.bitmap_checks.proofs.first_refusal.Goals as goal

pub returns-in_err-new : goal.returns-in_err-new
returns-in_err-new c = passed_up _ _ c.from_residual.ensures.1 ∙ sym (picture_refused _ _ _ _ _ c.new.ensures _ c.in_err-new.was c.args.body c.args.work c.args.image)

pub returns-then-body-min_body_size : goal.returns-then-body-min_body_size
returns-then-body-min_body_size c =
    body_refused _ _ _ _ _ _ _ (picture_passed _ _ _ _ _ c.new.ensures _ c.in_ok-new.was) _ c.min_body_size.ensures c.if-body-min_body_size.true

pub returns-then-work-work_size : goal.returns-then-work-work_size
returns-then-work-work_size c =
    work_refused _ _ _ _ _ _ _ (picture_passed _ _ _ _ _ c.new.ensures _ c.in_ok-new.was) _ c.min_body_size.ensures c.if-body-min_body_size.false _ c.work_size.ensures
    c.if-work-work_size.true

pub returns-then-image-size : goal.returns-then-image-size
returns-then-image-size c =
    image_refused _ _ _ _ _ _ _ (picture_passed _ _ _ _ _ c.new.ensures _ c.in_ok-new.was) _ c.min_body_size.ensures c.if-body-min_body_size.false _ c.work_size.ensures
    c.if-work-work_size.false _ c.image_size-size.ensures c.if-image-size.true

pub returns : goal.returns
returns c =
    all_passed _ _ _ _ _ _ _ (picture_passed _ _ _ _ _ c.new.ensures _ c.in_ok-new.was) _ c.min_body_size.ensures c.if-body-min_body_size.false _ c.work_size.ensures
    c.if-work-work_size.false _ c.image_size-size.ensures c.if-image-size.false
