-- `store` of a `Quad`: four stores one after the other are one write.
use Rattle.bitmap_rows.proofs.PixelLoop.{write_four}
use Rattle.bitmap_rows.proofs.pixel.QuadPixel.store.Goals as goal

pub returns : goal.returns
returns c = write_four _ _ _ _ _ _ c.requires
