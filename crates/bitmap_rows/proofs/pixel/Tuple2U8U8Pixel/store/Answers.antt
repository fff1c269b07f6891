-- `store` of two samples: two stores one after the other are one write.
use Rattle.bitmap_rows.proofs.PixelLoop.{write_two}
use Rattle.bitmap_rows.proofs.pixel.Tuple2U8U8Pixel.store.Goals as goal

pub returns : goal.returns
returns c = write_two _ _ _ _ c.requires
