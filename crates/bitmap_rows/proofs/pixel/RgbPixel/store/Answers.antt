-- `store` of an `Rgb`: three stores one after the other are one write.
use Rattle.bitmap_rows.proofs.PixelLoop.{write_three}
use Rattle.bitmap_rows.proofs.pixel.RgbPixel.store.Goals as goal

pub returns : goal.returns
returns c = write_three _ _ _ _ _ c.requires
