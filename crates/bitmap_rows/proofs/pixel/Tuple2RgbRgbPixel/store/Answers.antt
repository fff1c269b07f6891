-- `store` of two pixels: two writes one after the other are one.
use Rattle.std.proofs.Common.{arith, ◌+◌, ap, ◌∙◌, List, ℕ}
use Rattle.rle_format.specs.Slice.{write_at}
use Rattle.rle_format.proofs.Slice.{write_at-write_at}
use Rattle.bitmap_format.specs.Colour.{rgb24}
use Rattle.bitmap_rows.proofs.pixel.Tuple2RgbRgbPixel.store.Goals as goal

pub returns : goal.returns
returns c =
    let a = c.args in
    c.store-2.ensures ∙ ap (λ (d : List ℕ). write_at d (a.at + 3) (rgb24 a.self.1)) c.store.ensures ∙ write_at-write_at a.dst.now a.at (rgb24 a.self.0) (omega arith) (rgb24 a.self.1)
