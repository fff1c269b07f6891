-- Pictures packed (FORMAT 7), with results worked out by hand, since document 01 has no example of it: one constant list, what the
-- definitions compute for each, and what is expected. proofs/Examples.antt has the one proof.
use Rattle.std.specs.Prelude.{ℕ, Bool, true, false, List, [], ◌∷◌, ◌++◌, length, replicate, Result, Ok, Err}
use Rattle.rle_format.specs.declared.Refusal.{Refusal}
use Rattle.rle_format.specs.declared.Refusal.TheVariants.{NotEnoughBytes}
use Rattle.rle_format.specs.Slice.{overwrite}
use Rattle.pixel_format.specs.Channel.{bgr_a}
use Rattle.bitmap_format.specs.declared.Encoded.{Encoded}
use Rattle.bitmap_format.specs.PackPicture.{three_planes, pixel_planes, pixel_planes_alpha, pack_picture, header_to_send_of, EncodedAnswer, encoded_count, encoded_refusal, with_header, encoded_to_answer}
use Rattle.bitmap_format.specs.Examples.{argb}

-- a slice after a call, and its answer
pub record After : Type 0 where
  pub slice : List ℕ
  pub answer : EncodedAnswer

pub data Example : Type 0 where
  -- the planes of a picture, whether alpha is one of them, the slice after the picture is packed, and the answer
  packs : (alpha rle : Bool) (width height : ℕ) (planes : List (List ℕ)) (slice : List ℕ) → EncodedAnswer → Example
  -- what the code returns, and the same as a number of bytes or of a refusal
  pack_answer : Result Encoded Refusal → EncodedAnswer → Example

-- what the definitions compute; the slice has the length that it has afterwards, and all its bytes are `EE` before the call
abbrev pub computed : Example → After
computed (packs alpha rle w h planes slice a) = record {
  slice = overwrite (replicate (length slice) 0xEE) (pack_picture rle w h (length slice) planes).written;
  answer = with_header (header_to_send_of alpha rle) (pack_picture rle w h (length slice) planes).answer;
}
computed (pack_answer e a) = record { slice = []; answer = encoded_to_answer e }

-- what is expected
abbrev pub expected : Example → After
expected (packs alpha rle w h planes slice a) = record { slice = slice; answer = a }
expected (pack_answer e a) = record { slice = []; answer = a }

-- three planes, or four with alpha, of B, G, R, A pixels
abbrev pub three : (pixels : List ℕ) → List (List ℕ)
three pixels = pixel_planes bgr_a pixels

abbrev pub four : (pixels : List ℕ) → List (List ℕ)
four pixels = pixel_planes_alpha bgr_a pixels

-- one pixel: B 3, G 2, R 1, A 4
abbrev pub pixel : List ℕ
pixel = 3 ∷ 2 ∷ 1 ∷ 4 ∷ []

-- raw into just enough room, one byte less, one more; RLE into just enough and one byte less; with two bytes of a second pixel, which a width
-- of 1 ignores and a width of 2 refuses; with a complete second pixel, which a width of 1 ignores
abbrev pub one_pixel : List Example
one_pixel =
    packs false false 1 1 (three pixel) (1 ∷ 2 ∷ 3 ∷ 0 ∷ []) (encoded_count 4 (argb false false))
    ∷ packs false false 1 1 (three pixel) (0xEE ∷ 0xEE ∷ 0xEE ∷ []) (encoded_refusal 12)
    ∷ packs true false 1 1 (four pixel) (4 ∷ 1 ∷ 2 ∷ 3 ∷ 0 ∷ 0xEE ∷ []) (encoded_count 5 (argb false false))
    ∷ packs true false 1 1 (four pixel) (0xEE ∷ 0xEE ∷ 0xEE ∷ 0xEE ∷ []) (encoded_refusal 12)
    ∷ packs false true 1 1 (three pixel) (0x10 ∷ 1 ∷ 0x10 ∷ 2 ∷ 0x10 ∷ 3 ∷ []) (encoded_count 6 (argb true false))
    ∷ packs true true 1 1 (four pixel) (0x10 ∷ 4 ∷ 0x10 ∷ 1 ∷ 0x10 ∷ 2 ∷ 0x10 ∷ 3 ∷ []) (encoded_count 8 (argb true false))
    ∷ packs true true 1 1 (four pixel) (0x10 ∷ 4 ∷ 0x10 ∷ 1 ∷ 0x10 ∷ 2 ∷ 0xEE ∷ []) (encoded_refusal 12)
    ∷ packs false false 1 1 (three (pixel ++ 7 ∷ 6 ∷ [])) (1 ∷ 2 ∷ 3 ∷ 0 ∷ []) (encoded_count 4 (argb false false))
    ∷ packs false false 2 1 (three (pixel ++ 7 ∷ 6 ∷ [])) (0xEE ∷ 0xEE ∷ 0xEE ∷ 0xEE ∷ []) (encoded_refusal 11)
    ∷ packs true false 1 1 (four (pixel ++ 7 ∷ 6 ∷ 5 ∷ 8 ∷ [])) (4 ∷ 1 ∷ 2 ∷ 3 ∷ 0 ∷ []) (encoded_count 5 (argb false false))
    ∷ packs false false 2 1 (three (pixel ++ 7 ∷ 6 ∷ 5 ∷ 8 ∷ [])) (1 ∷ 5 ∷ 2 ∷ 6 ∷ 3 ∷ 7 ∷ 0 ∷ []) (encoded_count 7 (argb false false))
    ∷ []

-- two by two: R 1 5, 2 5; G 2 6, 1 6; B 3 7, 3 9; A 4 8, 4 8; and a fifth pixel, which is ignored
abbrev pub pixels : List ℕ
pixels = 3 ∷ 2 ∷ 1 ∷ 4 ∷ 7 ∷ 6 ∷ 5 ∷ 8 ∷ 3 ∷ 1 ∷ 2 ∷ 4 ∷ 9 ∷ 6 ∷ 5 ∷ 8 ∷ 20 ∷ 20 ∷ 20 ∷ 20 ∷ []

-- The differences of its rows are R 1 0, G −1 0, B 0 2, A 0 0. Then the first three of these pixels, raw; and the first four samples of longer
-- planes, each one raw byte and a run of 3
abbrev pub more_pixels : List Example
more_pixels =
    packs true true 2 2 (four pixels)
    (0x20 ∷ 4 ∷ 8 ∷ 0x20 ∷ 0 ∷ 0
    ∷ 0x20 ∷ 1 ∷ 5 ∷ 0x20 ∷ 2 ∷ 0
    ∷ 0x20 ∷ 2 ∷ 6 ∷ 0x20 ∷ 1 ∷ 0
    ∷ 0x20 ∷ 3 ∷ 7 ∷ 0x20 ∷ 0 ∷ 4 ∷ [])
    (encoded_count 24 (argb true false))
    ∷ packs false false 1 3 (three pixels) (1 ∷ 5 ∷ 2 ∷ 2 ∷ 6 ∷ 1 ∷ 3 ∷ 7 ∷ 3 ∷ 0 ∷ []) (encoded_count 10 (argb false false))
    ∷ packs false true 4 1 (three_planes (replicate 8 9) (replicate 8 8) (replicate 8 7)) (0x13 ∷ 9 ∷ 0x13 ∷ 8 ∷ 0x13 ∷ 7 ∷ 0xEE ∷ []) (encoded_count 6 (argb true false))
    ∷ []

-- Refusals (FORMAT 8.2): where the conditions of several hold, the answer is the one that is checked first. Of the last picture the third
-- plane alone is short
abbrev pub refusals : List Example
refusals =
    packs false true 0 9000 (three []) [] (encoded_refusal 1)
    ∷ packs false true 8193 1 (three []) [] (encoded_refusal 2)
    ∷ packs false true 1 8193 (three []) [] (encoded_refusal 2)
    ∷ packs false true 8192 8192 (three []) [] (encoded_refusal 11)
    ∷ packs false true 2 2 (three_planes (replicate 4 1) (replicate 4 2) (replicate 3 3)) [] (encoded_refusal 11)
    ∷ pack_answer (Ok (record { bytes = 4; header = argb true false })) (encoded_count 4 (argb true false))
    ∷ pack_answer (Err NotEnoughBytes) (encoded_refusal 11)
    ∷ []

abbrev pub examples : List Example
examples = one_pixel ++ more_pixels ++ refusals
