-- `write_each`: an iteration of its loop is a pixel.
use Rattle.std.proofs.Common.{◌≡◌, ℕ, List, ◌<◌, length}
use Rattle.bitmap_rows.proofs.PixelLoop.{PixelInvariant}
use Rattle.bitmap_rows.proofs.pixel.write_each.Given as goal

abbrev pub invariant-loop-i : goal.invariant-loop-i
invariant-loop-i g l =
    (f : ℕ → List ℕ) → ((i : ℕ) → length (f i) ≡ g.P.Pixel.SIZE) → ((i : ℕ) (p : _) → i < l.n → g.F.Fn.post l.pixel (i, tt) p → g.P.Pixel.bytes p ≡ f i) → PixelInvariant l.fn.dst l.dst l.i f
