-- What the colour rule makes of a chroma byte, as integers with bounds.
use Prim.Native.Nat.{ℕ, suc, ◌+◌, ◌-◌, ◌*◌, ◌%◌, ◌^◌, ◌<◌, ◌≤◌}
use mathlib.Core.Bool.{Bool, true, false}
use mathlib.Core.Path.{◌≡◌, refl, sym, ap, ◌∙◌}
use native.Mathlib.Omega.{arith}
use native.Mathlib.Nat.{mod-lt}
use lib.Dec.{ltb}
use lib.IntN.{pos, negsuc, sub_ℕ, ◌-ℤ◌}
use borrow.Author.Tests.{ltb-true, ltb-false}
use Rattle.rle_format.specs.Choice.{choose}
use Rattle.bitmap_format.specs.Colour.{signed_byte, chroma_value_of}
use Rattle.bitmap_format.proofs.Integers.{Between, pos_minus_pos, difference_negative, difference_not_negative, difference_reduced}

-- 128 added modulo 256, and subtracted again
signed_byte_shifted : (b : ℕ) → b < 256 → signed_byte b ≡ sub_ℕ ((b + 128) % 256) 128
unfolding signed_byte
signed_byte_shifted b h = go (ltb b 128) refl
  where
    go : (t : Bool) → ltb b 128 ≡ t → choose t (pos b) (pos b -ℤ pos 256) ≡ sub_ℕ ((b + 128) % 256) 128
    go true e =
        let low : b < 128 = ltb-true b 128 e in
        let n : b ≡ (b + 128) % 256 - 128 = omega arith in
        ap pos n ∙ sym (difference_not_negative ((b + 128) % 256) 128 (omega arith))
    go false e =
        let high : 128 ≤ b = ltb-false b 128 e in
        let n : 256 - suc b ≡ 128 - suc ((b + 128) % 256) = omega arith in
        pos_minus_pos b 256 ∙ difference_negative b 256 h ∙ ap negsuc n ∙ sym (difference_negative ((b + 128) % 256) 128 (omega arith))

pub chroma_value_shifted : (level byte : ℕ) → chroma_value_of level byte ≡ sub_ℕ ((byte * 2 ^ (level - 1) % 256 + 128) % 256) 128
unfolding chroma_value_of
chroma_value_shifted level byte = signed_byte_shifted (byte * 2 ^ (level - 1) % 256) (mod-lt (byte * 2 ^ (level - 1)) (omega arith))

-- a chroma value is −128 to 127
pub chroma_value_range : (level byte : ℕ) → Between (chroma_value_of level byte) 127 128
chroma_value_range level byte = record {
  more = (byte * 2 ^ (level - 1) % 256 + 128) % 256 - 128;
  less = 128 - (byte * 2 ^ (level - 1) % 256 + 128) % 256;
  is = chroma_value_shifted level byte ∙ difference_reduced ((byte * 2 ^ (level - 1) % 256 + 128) % 256) 128;
  most = omega arith;
  least = omega arith;
}
