-- The colour of a pixel (FORMAT 6; MS-RDPEGDI 3.1.9.1.2).
use Rattle.std.specs.Prelude.{ℕ, ◌-◌, ◌*◌, ◌%◌, ◌^◌, Bool, List, [], ◌∷◌, ltb, ℤ, pos, negsuc, ◌+ℤ◌, ◌-ℤ◌}
use Rattle.rle_format.specs.Choice.{choose}
use Rattle.bitmap_format.specs.declared.Rgb.{Rgb}

abbrev pub rgb : (r g b : ℕ) → Rgb
rgb r g b = record { r = r; g = g; b = b }

-- a byte read as two's complement
unfoldable pub signed_byte : ℕ → ℤ
signed_byte n = choose (ltb n 128) (pos n) (pos n -ℤ pos 256)

-- the value of a chroma sample (FORMAT 6.4)
unfoldable pub chroma_value_of : (level byte : ℕ) → ℤ
chroma_value_of level byte = signed_byte (byte * 2 ^ (level - 1) % 256)

-- the nearest value in 0..255
unfoldable pub clip : ℤ → ℕ
clip (pos n) = choose (ltb 255 n) 255 n
clip (negsuc n) = 0

-- the three colours of FORMAT 6.5, before it is known which is R and which is B
unfoldable pub ycocg : (level y co cg : ℕ) → Rgb
ycocg level y co cg =
    let t : ℤ = pos y -ℤ chroma_value_of level cg in
    rgb (clip (t +ℤ chroma_value_of level co)) (clip (pos y +ℤ chroma_value_of level cg)) (clip (t -ℤ chroma_value_of level co))

abbrev pub swap_red_blue : Rgb → Rgb
swap_red_blue c = rgb c.b c.g c.r

-- with the alpha flag they are R, G, B; without it B, G, R (FORMAT 6.5)
unfoldable pub aycocg_colour : (alpha : Bool) (level y co cg : ℕ) → Rgb
aycocg_colour alpha level y co cg = choose alpha (ycocg level y co cg) (swap_red_blue (ycocg level y co cg))

-- the bytes of a pixel in the image (FORMAT 6.1)
abbrev pub rgb24 : Rgb → List ℕ
rgb24 c = c.r ∷ c.g ∷ c.b ∷ []
