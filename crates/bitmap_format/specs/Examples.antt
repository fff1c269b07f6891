-- Examples of pictures that are unpacked, worked out by hand, and the examples of planes of FORMAT 10: one constant list, what the
-- definitions compute for each, and what is expected. proofs/Examples.antt has the one proof.
use mathlib.Core.Path.{refl}
use Rattle.std.specs.Prelude.{◌≡◌, ℕ, Bool, true, false, List, [], ◌∷◌, ◌++◌, map, length, replicate, Result, Ok, Err}
use Rattle.rle_format.specs.declared.Refusal.{Refusal}
use Rattle.rle_format.specs.declared.Refusal.TheVariants.{LossLevel, ShortImage}
use Rattle.rle_format.specs.Answer.{Answer, counted, refused, to_answer}
use Rattle.rle_format.specs.Examples as planes
use Rattle.pixel_format.specs.declared.PixelFormat.{PixelFormat}
use Rattle.pixel_format.specs.declared.PixelFormat.TheVariants.{Rgb24}
use Rattle.bitmap_format.specs.declared.BitmapStreamHeader.{BitmapStreamHeader}
use Rattle.bitmap_format.specs.declared.ColorPlaneDefinition.{ColorPlaneDefinition}
use Rattle.bitmap_format.specs.declared.ColorPlaneDefinition.TheVariants.{Argb, AYCoCg}
use Rattle.bitmap_format.specs.declared.picture.Picture.{Picture}
use Rattle.bitmap_format.specs.Pixels.{three_bytes, format_to_form, bytes_per_pixel_of}
use Rattle.bitmap_format.specs.HeaderByte.{header_to_byte_of}
use Rattle.bitmap_format.specs.Sizes.{min_body_size_of, work_size_of, image_size_of}
use Rattle.bitmap_format.specs.Picture.{PictureOutcome, is_loss_level_invalid_of, check_picture, unpack_picture}
use Rattle.bitmap_format.specs.CheckedPicture.{picture_or_number}

pub data Example : Type 0 where
  -- an example of a plane
  plane : planes.Example → Example
  -- the body of a picture, and its image; the work area has its minimum size
  unpacks_to : BitmapStreamHeader → (width height : ℕ) (body image : List ℕ) → Example
  -- a body, the work area and the image after the call, and the answer
  unpacks : BitmapStreamHeader → (width height : ℕ) (body work image : List ℕ) → Answer → Example
  -- the minimum sizes
  sizes : BitmapStreamHeader → (width height body work image : ℕ) → Example
  -- the lengths of the slices, and the answer of all checks
  checks : BitmapStreamHeader → (width height body work image : ℕ) → Answer → Example
  -- what the code returns, and the same as a number of bytes or of a refusal
  unpack_answer : Result ℕ Refusal → Answer → Example
  -- what checking a picture returns, and the bytes of a pixel, the header byte and the sides, or the number of a refusal
  makes : Result Picture Refusal → Result (List ℕ) ℕ → Example

-- n bytes that no call has written
abbrev pub unwritten : (n : ℕ) → List ℕ
unwritten n = replicate n 0xEE

-- a picture unpacked, with a work area and an image of these lengths
abbrev pub unpacked : BitmapStreamHeader → (width height : ℕ) (body : List ℕ) (work_length image_length : ℕ) → PictureOutcome
unpacked header w h body work_length image_length = unpack_picture header w h body (unwritten work_length) (unwritten image_length)

abbrev pub image_and_answer : PictureOutcome → planes.After
image_and_answer o = record { slice = o.image; answer = o.answer }

-- the parts of a picture by numbers, or the number of its refusal
abbrev pub picture_parts : Result (PixelFormat × BitmapStreamHeader × ℕ × ℕ) ℕ → planes.After
picture_parts (Ok q) = planes.values (bytes_per_pixel_of (format_to_form q.0) ∷ header_to_byte_of q.1 ∷ q.2 ∷ q.3 ∷ [])
picture_parts (Err n) = planes.only_answer (refused n)

-- what the definitions compute; work area and image have the lengths that they have afterwards
abbrev pub computed : Example → List planes.After
computed (plane e) = planes.computed e
computed (unpacks_to header w h body image) = image_and_answer (unpacked header w h body (work_size_of three_bytes header w h) (length image)) ∷ []
computed (unpacks header w h body work image a) =
    planes.values (unpacked header w h body (length work) (length image)).work
    ∷ image_and_answer (unpacked header w h body (length work) (length image))
    ∷ []
computed (sizes header w h body work image) = planes.values (min_body_size_of header w h ∷ work_size_of three_bytes header w h ∷ image_size_of three_bytes w h ∷ []) ∷ []
computed (checks header w h body work image a) = planes.only_answer (check_picture three_bytes header w h body work image) ∷ []
computed (unpack_answer d a) = planes.only_answer (to_answer d) ∷ []
computed (makes r parts) = picture_parts (picture_or_number r) ∷ []

-- what is expected
abbrev pub expected : Example → List planes.After
expected (plane e) = planes.expected e
expected (unpacks_to header w h body image) = record { slice = image; answer = counted (length image) } ∷ []
expected (unpacks header w h body work image a) = planes.values work ∷ record { slice = image; answer = a } ∷ []
expected (sizes header w h body work image) = planes.values (body ∷ work ∷ image ∷ []) ∷ []
expected (checks header w h body work image a) = planes.only_answer a ∷ []
expected (unpack_answer d a) = planes.only_answer a ∷ []
expected (makes r (Ok parts)) = planes.values parts ∷ []
expected (makes r (Err n)) = planes.only_answer (refused n) ∷ []

abbrev pub header : (rle alpha : Bool) → ColorPlaneDefinition → BitmapStreamHeader
header rle alpha definition = record {
  enable_rle_compression = rle;
  use_alpha = alpha;
  color_plane_definition = definition;
}

-- raw or RLE, with alpha or without
abbrev pub argb : (rle alpha : Bool) → BitmapStreamHeader
argb rle alpha = header rle alpha Argb

abbrev pub aycocg : (rle alpha : Bool) (level : ℕ) → BitmapStreamHeader
aycocg rle alpha level = header rle alpha (AYCoCg level false)

abbrev pub subsampled_header : (rle alpha : Bool) → BitmapStreamHeader
subsampled_header rle alpha = header rle alpha (AYCoCg 1 true)

-- a picture that passes refusals 1 to 3: three by two, RLE with alpha, loss level 7
pub level_7_valid : is_loss_level_invalid_of (AYCoCg 7 false) ≡ false
unfolding is_loss_level_invalid_of
level_7_valid = refl

abbrev pub picture_3_2 : Picture
picture_3_2 = record { format = Rgb24; header = aycocg true true 7; width = 3; height = 2; allowed = planes.sides_3_2.allowed; level = level_7_valid }

-- those of FORMAT 10, with their numbers. The body of 15 is alpha `FF` if flagged, Y 100, Co 10, Cg 20
abbrev pub worked_pictures : List Example
worked_pictures =
    unpacks_to (aycocg false true 1) 1 1 (0xFF ∷ 100 ∷ 10 ∷ 20 ∷ []) (90 ∷ 120 ∷ 70 ∷ [])  -- 15
    ∷ unpacks_to (aycocg false false 1) 1 1 (100 ∷ 10 ∷ 20 ∷ []) (70 ∷ 120 ∷ 90 ∷ [])
    ∷ unpacks_to (aycocg true true 1) 1 1 (0x10 ∷ 0xFF ∷ 0x10 ∷ 100 ∷ 0x10 ∷ 10 ∷ 0x10 ∷ 20 ∷ []) (90 ∷ 120 ∷ 70 ∷ [])
    ∷ unpacks_to (aycocg true false 1) 1 1 (0x10 ∷ 100 ∷ 0x10 ∷ 10 ∷ 0x10 ∷ 20 ∷ []) (70 ∷ 120 ∷ 90 ∷ [])
    ∷ unpacks_to (aycocg false true 2) 1 1 (0xFF ∷ 100 ∷ 0x40 ∷ 0 ∷ []) (0 ∷ 100 ∷ 228 ∷ [])  -- 16
    ∷ sizes (argb true false) 47 1 3 141 141  -- 17
    ∷ sizes (argb true false) 48 1 6 144 144
    ∷ unpacks (argb true false) 48 1 (replicate 5 0x01) [] [] (refused 4)
    ∷ []

-- Colours. With level 7 the factor is 64: Co 3 is 192, which is −64; Cg 9 is 576, which is 64 mod 256; 36 − 64 is clipped. Level 1, two by
-- two: Y 250, Co −128, Cg 6 is 116, 256, 372; Y 128, Co 127, Cg 0 is 255, 128, 1; Y 10, Co 0, Cg −20 is 30, −10, 30; Y 0, Co 1, Cg −1 is 2, −1, 0
abbrev pub colours : List Example
colours =
    unpacks_to (aycocg false true 7) 1 1 (0xFF ∷ 100 ∷ 3 ∷ 9 ∷ []) (0 ∷ 164 ∷ 100 ∷ [])
    ∷ unpacks_to (aycocg false true 1) 2 2
    (replicate 4 0xFF ++ 250 ∷ 128 ∷ 10 ∷ 0 ∷ 0x80 ∷ 0x7F ∷ 0 ∷ 1 ∷ 6 ∷ 0 ∷ 0xEC ∷ 0xFF ∷ [])
    (116 ∷ 255 ∷ 255 ∷ 255 ∷ 128 ∷ 1 ∷ 30 ∷ 0 ∷ 30 ∷ 2 ∷ 0 ∷ 0 ∷ [])
    ∷ []

-- Raw ARGB, two by two; then three by two with alpha, a pad byte, and a work area and an image that are longer than they need be
abbrev pub raw_pictures : List Example
raw_pictures =
    unpacks_to (argb false false) 2 2 (1 ∷ 2 ∷ 3 ∷ 4 ∷ 11 ∷ 12 ∷ 13 ∷ 14 ∷ 21 ∷ 22 ∷ 23 ∷ 24 ∷ [])
    (1 ∷ 11 ∷ 21 ∷ 2 ∷ 12 ∷ 22 ∷ 3 ∷ 13 ∷ 23 ∷ 4 ∷ 14 ∷ 24 ∷ [])
    ∷ unpacks (argb false true) 3 2
    (planes.count_from 101 6 ++ planes.count_from 1 6 ++ planes.count_from 11 6 ++ planes.count_from 21 6 ++ 0 ∷ [])
    (unwritten 2)
    (1 ∷ 11 ∷ 21 ∷ 2 ∷ 12 ∷ 22 ∷ 3 ∷ 13 ∷ 23 ∷ 4 ∷ 14 ∷ 24 ∷ 5 ∷ 15 ∷ 25 ∷ 6 ∷ 16 ∷ 26 ∷ unwritten 2)
    (counted 18)
    ∷ []

-- two wide and three high. Y is 100 to 105, Co is 1 and 2, Cg ten times as much, one wide and two high. So t is 90 91, 92 93, 84 85
abbrev pub two_by_three : List ℕ
two_by_three = 89 ∷ 110 ∷ 91 ∷ 90 ∷ 111 ∷ 92 ∷ 91 ∷ 112 ∷ 93 ∷ 92 ∷ 113 ∷ 94 ∷ 82 ∷ 124 ∷ 86 ∷ 83 ∷ 125 ∷ 87 ∷ []

-- Subsampled, three by three, so that the chroma planes are two by two. Y is 100 to 108; Co, and ten times as much Cg, are 1 1 2, 1 1 2, 3 3 4 by
-- rows. So t is 90 91 82, 93 94 85, 76 77 68. The RLE picture has the same planes, in differences of 3, of 2 and of 20. Then two wide and
-- three high, raw and RLE
abbrev pub subsampled_pictures : List Example
subsampled_pictures =
    unpacks_to (subsampled_header false true) 3 3
    (replicate 9 0xFF ++ planes.count_from 100 9 ++ 1 ∷ 2 ∷ 3 ∷ 4 ∷ 10 ∷ 20 ∷ 30 ∷ 40 ∷ [])
    (91 ∷ 110 ∷ 89 ∷ 92 ∷ 111 ∷ 90 ∷ 84 ∷ 122 ∷ 80
    ∷ 94 ∷ 113 ∷ 92 ∷ 95 ∷ 114 ∷ 93 ∷ 87 ∷ 125 ∷ 83
    ∷ 79 ∷ 136 ∷ 73 ∷ 80 ∷ 137 ∷ 74 ∷ 72 ∷ 148 ∷ 64 ∷ [])
    ∷ unpacks (subsampled_header true false) 3 3
    (0x30 ∷ 100 ∷ 101 ∷ 102 ∷ 0x30 ∷ 6 ∷ 6 ∷ 6 ∷ 0x30 ∷ 6 ∷ 6 ∷ 6
    ∷ 0x20 ∷ 1 ∷ 2 ∷ 0x20 ∷ 4 ∷ 4
    ∷ 0x20 ∷ 10 ∷ 20 ∷ 0x20 ∷ 40 ∷ 40 ∷ [])
    (planes.count_from 100 9 ++ 1 ∷ 2 ∷ 3 ∷ 4 ∷ 10 ∷ 20 ∷ 30 ∷ 40 ∷ unwritten 1)
    (89 ∷ 110 ∷ 91 ∷ 90 ∷ 111 ∷ 92 ∷ 80 ∷ 122 ∷ 84
    ∷ 92 ∷ 113 ∷ 94 ∷ 93 ∷ 114 ∷ 95 ∷ 83 ∷ 125 ∷ 87
    ∷ 73 ∷ 136 ∷ 79 ∷ 74 ∷ 137 ∷ 80 ∷ 64 ∷ 148 ∷ 72 ∷ unwritten 1)
    (counted 27)
    ∷ unpacks_to (subsampled_header false false) 2 3 (planes.count_from 100 6 ++ 1 ∷ 2 ∷ 10 ∷ 20 ∷ []) two_by_three
    ∷ unpacks_to (subsampled_header true false) 2 3
    (0x20 ∷ 100 ∷ 101 ∷ 0x20 ∷ 4 ∷ 4 ∷ 0x20 ∷ 4 ∷ 4 ∷ 0x10 ∷ 1 ∷ 0x10 ∷ 2 ∷ 0x10 ∷ 10 ∷ 0x10 ∷ 20 ∷ [])
    two_by_three
    ∷ sizes (subsampled_header false true) 3 3 26 0 27
    ∷ sizes (subsampled_header true true) 3 3 10 17 27
    ∷ []

-- RLE ARGB, three by two. `03` is a row of 0: as row 0 its samples, as row 1 the row above again. The first has R 1 2 3 twice, G 0 0 0 and 1 2 3, B 7
-- 8 9 twice. The others have alpha 101 102 103 twice and are refused: in row 1 of G, after code 2; in row 1 of R, after code 2, with alpha behind
-- it; in row 1 of alpha
abbrev pub rle_pictures : List Example
rle_pictures =
    unpacks (argb true false) 3 2
    (0x30 ∷ 1 ∷ 2 ∷ 3 ∷ 0x03 ∷ 0x03 ∷ 0x30 ∷ 2 ∷ 4 ∷ 6 ∷ 0x30 ∷ 7 ∷ 8 ∷ 9 ∷ 0x03 ∷ [])
    (1 ∷ 2 ∷ 3 ∷ 1 ∷ 2 ∷ 3 ∷ 0 ∷ 0 ∷ 0 ∷ 1 ∷ 2 ∷ 3 ∷ 7 ∷ 8 ∷ 9 ∷ 7 ∷ 8 ∷ 9 ∷ [])
    (1 ∷ 0 ∷ 7 ∷ 2 ∷ 0 ∷ 8 ∷ 3 ∷ 0 ∷ 9 ∷ 1 ∷ 1 ∷ 7 ∷ 2 ∷ 2 ∷ 8 ∷ 3 ∷ 3 ∷ 9 ∷ [])
    (counted 18)
    ∷ unpacks (argb true true) 3 2
    (0x30 ∷ 101 ∷ 102 ∷ 103 ∷ 0x03 ∷ 0x30 ∷ 1 ∷ 2 ∷ 3 ∷ 0x03 ∷ 0x30 ∷ 4 ∷ 5 ∷ 6 ∷ 0x10 ∷ 2 ∷ 0x00 ∷ [])
    (1 ∷ 2 ∷ 3 ∷ 1 ∷ 2 ∷ 3 ∷ 4 ∷ 5 ∷ 6 ∷ 2 ∷ unwritten 8)
    (unwritten 18)
    (refused 8)
    ∷ unpacks (argb true true) 3 2 (0x30 ∷ 101 ∷ 102 ∷ 103 ∷ 0x03 ∷ 0x30 ∷ 1 ∷ 2 ∷ 3 ∷ 0x10 ∷ 2 ∷ [])
    (1 ∷ 2 ∷ 3 ∷ 2 ∷ 102 ∷ 103 ∷ unwritten 12)
    (unwritten 18)
    (refused 7)
    ∷ unpacks (argb true true) 3 2 (0x30 ∷ 101 ∷ 102 ∷ 103 ∷ 0x04 ∷ 0 ∷ 0 ∷ 0 ∷ [])
    (101 ∷ 102 ∷ 103 ∷ unwritten 15)
    (unwritten 18)
    (refused 9)
    ∷ []

-- Refusals (FORMAT 8.2): where the conditions of several hold, the answer is the one that is checked first. A pixel of RLE ARGB needs 3 bytes of
-- each buffer
abbrev pub refusals : List Example
refusals =
    unpacks (aycocg true true 0) 0 9000 [] [] [] (refused 1)
    ∷ unpacks (aycocg true true 0) 8193 1 [] [] [] (refused 2)
    ∷ unpacks (aycocg true true 0) 1 8193 [] [] [] (refused 2)
    ∷ unpacks (aycocg true true 0) 8192 8192 [] [] [] (refused 3)
    ∷ unpacks (aycocg true true 8) 1 1 [] [] [] (refused 3)
    ∷ unpacks (aycocg true true 7) 1 1 (replicate 3 0x00) [] [] (refused 4)
    ∷ unpacks (argb true false) 1 1 (replicate 3 0x00) (unwritten 2) [] (refused 5)
    ∷ unpacks (argb true false) 1 1 (replicate 3 0x00) (unwritten 3) (unwritten 2) (refused 6)
    ∷ unpacks (argb true false) 1 1 (replicate 3 0x00) (unwritten 3) (unwritten 3) (refused 8)
    ∷ unpacks (argb false false) 1 1 (1 ∷ 2 ∷ []) [] [] (refused 4)
    ∷ unpacks (argb false false) 1 1 (1 ∷ 2 ∷ 3 ∷ []) [] (unwritten 2) (refused 6)
    ∷ checks (argb true false) 3 2 6 17 20 (refused 5)
    ∷ checks (argb true false) 3 2 6 18 17 (refused 6)
    ∷ checks (argb true false) 3 2 6 18 20 (counted 18)
    ∷ unpack_answer (Ok 3) (counted 3)
    ∷ unpack_answer (Err ShortImage) (refused 6)
    ∷ makes (Ok picture_3_2) (Ok (3 ∷ 0x17 ∷ 3 ∷ 2 ∷ []))
    ∷ makes (Err LossLevel) (Err 3)
    ∷ []

abbrev pub examples : List Example
examples = map plane planes.worked_examples ++ worked_pictures ++ colours ++ raw_pictures ++ subsampled_pictures ++ rle_pictures ++ refusals
