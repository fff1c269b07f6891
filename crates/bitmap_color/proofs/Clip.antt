-- Clipping by the library's `clamp`.
use Rattle.std.proofs.Common.{◌≡◌, Bool, true, false, ltb, ℤ, pos, negsuc, nat_abs, refl, le-ltb, arith}
use Rattle.std.specs.Int.{int_max, int_min}
use Rattle.bitmap_format.specs.Colour.{clip}

pub clip_is : (v : ℤ) → nat_abs (int_max (pos 0) (int_min v (pos 255))) ≡ clip v
unfolding clip
clip_is (negsuc n) = refl
clip_is (pos n) = go (ltb 255 n) refl
  where
    go : (t : Bool) → ltb 255 n ≡ t → nat_abs (int_max (pos 0) (int_min (pos n) (pos 255))) ≡ clip (pos n)
    go true e = simp e
    go false e = let low : ltb n 0 ≡ false = le-ltb n 0 (omega arith) in simp (e, low)
