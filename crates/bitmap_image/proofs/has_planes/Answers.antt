-- `has_planes`: its three tests are those of `planes_fit`, for a picture that passed refusals 1 to 3.
use Rattle.std.proofs.Common.{◌≡◌, true, false, sym, ◌∙◌, leb-false, arith}
use Rattle.std.proofs.lemmas.Bool.{lt-leb}
use Rattle.bitmap_format.specs.Pixels.{format_to_form}
use Rattle.bitmap_image.proofs.PlanesFit.{size_is, fit_by_alpha, unfit_planes, unfit_image}
use Rattle.bitmap_image.proofs.has_planes.Goals as goal
use Rattle.bitmap_image.proofs.has_planes.Goals.{then-image_size-image, else-image_size-image}

pub returns-then-color_planes_size-planes : goal.returns-then-color_planes_size-planes
returns-then-color_planes_size-planes c =
    let a = c.args in
    let p = a.picture in
    elim c.if-image_size-image.branch [
      | then-image_size-image w ↦ sym (fit_by_alpha (format_to_form p.format) p.header p.width p.height a.planes a.alpha a.image p.allowed p.level _ c.image_size.ensures w.if-image_size-image.true _
          w.color_planes_size.ensures (sym w.value-is ∙ c.if-color_planes_size-planes.true) _ c.shown_alpha_size.ensures.size)
      | else-image_size-image w ↦ let z : true ≡ false = sym c.if-color_planes_size-planes.true ∙ w.value-is ∙ lt-leb _ _ w.if-image_size-image.false in absurd cc
    ]

pub returns-else-color_planes_size-planes : goal.returns-else-color_planes_size-planes
returns-else-color_planes_size-planes c =
    let a = c.args in
    let p = a.picture in
    elim c.if-image_size-image.branch [
      | then-image_size-image w ↦
          let size = size_is p.width p.height p.allowed _ _ c.image_size.ensures in
          let colours = size_is p.width p.height p.allowed _ _ w.color_planes_size.ensures in
          let short = leb-false _ _ (sym w.value-is ∙ c.if-color_planes_size-planes.false) in
          c.if-color_planes_size-planes.false
          ∙ unfit_planes (format_to_form p.format) p.header p.width p.height a.planes a.alpha a.image p.allowed (omega (arith, size, w.if-image_size-image.true)) (omega (arith, colours, short))
      | else-image_size-image w ↦
          let size = size_is p.width p.height p.allowed _ _ c.image_size.ensures in
          c.if-color_planes_size-planes.false
          ∙ unfit_image (format_to_form p.format) p.header p.width p.height a.planes a.alpha a.image p.allowed (omega (arith, size, w.if-image_size-image.false))
    ]
