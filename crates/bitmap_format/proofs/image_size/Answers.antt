-- `image_size`: 0 for sides that are refused, else the product.
use Rattle.bitmap_format.specs.Pixels.{format_to_form}
use Rattle.bitmap_format.specs.Sizes.{image_size_of}
use Rattle.bitmap_format.proofs.CheckedSizes.{no_size, has_size}
use Rattle.bitmap_format.proofs.Sizes.{image_product}
use Rattle.bitmap_format.proofs.image_size.Goals as goal

pub returns-in_default : goal.returns-in_default
returns-in_default c = no_size _ _ _ c.new.ensures _ c.in_default.is _

pub returns : goal.returns
returns c =
    let s = c.in-Ok.sides in
    has_size _ _ _ c.new.ensures s c.in-Ok.is (image_size_of (format_to_form c.args.format)) _
    (image_product (format_to_form c.args.format) s.width s.height _ _ c.bytes_per_pixel.ensures.bytes c.area.ensures)
