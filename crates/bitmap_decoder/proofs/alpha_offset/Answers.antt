-- `alpha_offset`: by the form of the pixels. Assumes nothing.
use Rattle.bitmap_decoder.proofs.Pictures.{offset_four}
use Rattle.bitmap_decoder.proofs.alpha_offset.Goals as goal

pub returns-in-FourBytes : goal.returns-in-FourBytes
returns-in-FourBytes c =
    let p = c.args.picture in
    offset_four p.format c.in-FourBytes.field-0 p.header p.width p.height c.color_planes_size.result c.in-FourBytes.is p.allowed c.color_planes_size.ensures
