-- Examples of what the numbers of a C call mean, worked out by hand: one constant list, what the definitions compute for each, and what is
-- expected. proofs/Examples.antt has the one proof.
use Rattle.std.specs.Prelude.{ℕ, Bool, true, false, List, [], ◌∷◌, length, ℤ, pos, negsuc, Option, Some, None}
use Rattle.rle_format.specs.Answer.{Answer, counted, refused, Outcome}
use Rattle.pixel_format.specs.declared.PixelLayout.TheVariants.{BgrA, RgbA, ARgb, ABgr}
use Rattle.bitmap_format.specs.declared.BitmapStreamHeader.{BitmapStreamHeader}
use Rattle.bitmap_format.specs.declared.ColorPlaneDefinition.TheVariants.{Argb, AYCoCg}
use Rattle.bitmap_format.specs.Examples as pictures
use Rattle.bitmap_format.specs.Picture.{PictureOutcome}
use Rattle.bitmap_format.specs.Stream.{StreamOutcome}
use Rattle.pixel_format.specs.declared.PixelLayout.{PixelLayout}
use Rattle.rdp6.specs.Number.{c_number}
use Rattle.rdp6.specs.Header.{c_header}
use Rattle.rdp6.specs.Layout.{c_layout, unknown_layout, c_pack_pixels, c_pack_pixels_stream, c_unpack_pixels, c_unpack_pixel_stream}

pub data Example : Type 0 where
  -- the arguments of a C function, and the header record
  takes : (rle alpha : Bool) (definition level : ℕ) (subsampling : Bool) → BitmapStreamHeader → Example
  -- an answer, and the number that a C function returns
  returns : Answer → ℤ → Example
  -- a number, and the layout that it means
  means : (number : ℕ) → Option PixelLayout → Example
  -- the sides, and the answer of a call with an unknown layout
  refuses : (width height : ℕ) → Answer → Example
  -- the number of a layout, and pixels that are packed into a body, or into a stream
  packs : (number : ℕ) (alpha rle : Bool) (width height room : ℕ) (pixels : List ℕ) → Outcome → Example
  packs_stream : (number : ℕ) (alpha rle : Bool) (width height : ℕ) (pixels dst : List ℕ) → StreamOutcome → Example
  -- the number of a layout, and a body or a stream that is unpacked to pixels: work area and image after the call, and the answer
  unpacks : (number : ℕ) → BitmapStreamHeader → (width height : ℕ) (body work image : List ℕ) → Answer → Example
  unpacks_stream : (number width height : ℕ) (stream work image : List ℕ) → Answer → Example

-- what a number or a call means
pub data Meaning : Type 0 where
  header : BitmapStreamHeader → Meaning
  number : ℤ → Meaning
  layout : Option PixelLayout → Meaning
  answer : Answer → Meaning
  body : Outcome → Meaning
  stream : StreamOutcome → Meaning
  picture : PictureOutcome → Meaning

-- what the definitions compute
abbrev pub computed : Example → Meaning
computed (takes rle alpha definition level s h) = header (c_header rle alpha definition level s)
computed (returns a n) = number (c_number a)
computed (means n l) = layout (c_layout n)
computed (refuses width height a) = answer (unknown_layout width height)
computed (packs n alpha rle width height room pixels o) = body (c_pack_pixels alpha rle width height room pixels (c_layout n))
computed (packs_stream n alpha rle width height pixels dst o) = stream (c_pack_pixels_stream alpha rle width height pixels dst (c_layout n))
computed (unpacks n h width height b work image a) =
    picture (c_unpack_pixels (c_layout n) h width height b (pictures.unwritten (length work)) (pictures.unwritten (length image)))
computed (unpacks_stream n width height s work image a) =
    picture (c_unpack_pixel_stream (c_layout n) width height s (pictures.unwritten (length work)) (pictures.unwritten (length image)))

-- what is expected
abbrev pub expected : Example → Meaning
expected (takes rle alpha definition level s h) = header h
expected (returns a n) = number n
expected (means n l) = layout l
expected (refuses width height a) = answer a
expected (packs n alpha rle width height room pixels o) = body o
expected (packs_stream n alpha rle width height pixels dst o) = stream o
expected (unpacks n h width height b work image a) = picture (record { work = work; image = image; answer = a })
expected (unpacks_stream n width height s work image a) = picture (record { work = work; image = image; answer = a })

abbrev pub outcome : (written : List ℕ) → Answer → Outcome
outcome written a = record { written = written; answer = a }

abbrev pub stream_outcome : (slice : List ℕ) → Answer → StreamOutcome
stream_outcome slice a = record { slice = slice; answer = a }

-- two pixels
abbrev pub pixels : List ℕ
pixels = 1 ∷ 2 ∷ 3 ∷ 4 ∷ 5 ∷ 6 ∷ 7 ∷ 8 ∷ []

-- header records: ARGB, whatever level and subsampling are; AYCoCg with the least and the greatest level; a level over 7 and an unknown
-- definition, both taken for level 0. Returned numbers, the last −7. Layouts, and numbers that mean none: 256 and 4,294,967,295 are among them.
-- The sides before an unknown layout. Two pixels packed raw as RGBA without alpha, as ARGB with it, and one as RLE; a stream of ABGR, with room for a
-- byte more. An unknown layout comes before pixels that are missing, and changes nothing. The same two pixels unpacked as ABGR, from a body and
-- from a stream; one pixel from RLE, whose alpha is behind the colours in the work area. An unknown layout comes behind the stream's own refusals 13 and 14
abbrev pub examples : List Example
examples =
    takes true false 0 5 true (pictures.header true false Argb)
    ∷ takes false true 1 1 false (pictures.header false true (AYCoCg 1 false))
    ∷ takes true true 1 7 true (pictures.header true true (AYCoCg 7 true))
    ∷ takes false false 1 8 true (pictures.header false false (AYCoCg 0 true))
    ∷ takes false false 2 3 false (pictures.header false false (AYCoCg 0 false))
    ∷ returns (counted 5) (pos 5)
    ∷ returns (refused 7) (negsuc 6)
    ∷ means 0 (Some BgrA)
    ∷ means 1 (Some RgbA)
    ∷ means 2 (Some ARgb)
    ∷ means 3 (Some ABgr)
    ∷ means 4 None
    ∷ means 256 None
    ∷ means 4294967295 None
    ∷ refuses 0 8193 (refused 1)
    ∷ refuses 8193 0 (refused 1)
    ∷ refuses 8193 1 (refused 2)
    ∷ refuses 1 8193 (refused 2)
    ∷ refuses 8192 8192 (refused 3)
    ∷ packs 1 false false 2 1 7 pixels (outcome (1 ∷ 5 ∷ 2 ∷ 6 ∷ 3 ∷ 7 ∷ 0 ∷ []) (counted 7))
    ∷ packs 2 true false 2 1 9 pixels (outcome (1 ∷ 5 ∷ 2 ∷ 6 ∷ 3 ∷ 7 ∷ 4 ∷ 8 ∷ 0 ∷ []) (counted 9))
    ∷ packs 0 false true 1 1 6 pixels (outcome (16 ∷ 3 ∷ 16 ∷ 2 ∷ 16 ∷ 1 ∷ []) (counted 6))
    ∷ packs 4 false false 2 1 7 [] (outcome [] (refused 3))
    ∷ packs_stream 3 false false 2 1 pixels (9 ∷ 9 ∷ 9 ∷ 9 ∷ 9 ∷ 9 ∷ 9 ∷ 9 ∷ 9 ∷ []) (stream_outcome (32 ∷ 4 ∷ 8 ∷ 3 ∷ 7 ∷ 2 ∷ 6 ∷ 0 ∷ 9 ∷ []) (counted 8))
    ∷ packs_stream 0 true true 1 1 pixels (9 ∷ 9 ∷ 9 ∷ 9 ∷ 9 ∷ 9 ∷ 9 ∷ 9 ∷ 9 ∷ []) (stream_outcome (48 ∷ 16 ∷ 4 ∷ 16 ∷ 3 ∷ 16 ∷ 2 ∷ 16 ∷ 1 ∷ []) (counted 9))
    ∷ packs_stream 256 true false 2 1 [] (9 ∷ 9 ∷ []) (stream_outcome (9 ∷ 9 ∷ []) (refused 3))
    ∷ unpacks 3 (pictures.header false true Argb) 2 1 (1 ∷ 5 ∷ 2 ∷ 6 ∷ 3 ∷ 7 ∷ 4 ∷ 8 ∷ []) [] (1 ∷ 4 ∷ 3 ∷ 2 ∷ 5 ∷ 8 ∷ 7 ∷ 6 ∷ []) (counted 8)
    ∷ unpacks 0 (pictures.header true true Argb) 1 1 (16 ∷ 4 ∷ 16 ∷ 3 ∷ 16 ∷ 2 ∷ 16 ∷ 1 ∷ []) (3 ∷ 2 ∷ 1 ∷ 4 ∷ []) (1 ∷ 2 ∷ 3 ∷ 4 ∷ []) (counted 4)
    ∷ unpacks 4 (pictures.header true true Argb) 2 1 [] (pictures.unwritten 2) (pictures.unwritten 3) (refused 3)
    ∷ unpacks 4 (pictures.header true true Argb) 0 8193 [] (pictures.unwritten 2) (pictures.unwritten 3) (refused 1)
    ∷ unpacks_stream 3 2 1 (0 ∷ 1 ∷ 5 ∷ 2 ∷ 6 ∷ 3 ∷ 7 ∷ 4 ∷ 8 ∷ 0 ∷ []) [] (1 ∷ 4 ∷ 3 ∷ 2 ∷ 5 ∷ 8 ∷ 7 ∷ 6 ∷ []) (counted 8)
    ∷ unpacks_stream 4 2 1 (0 ∷ 0 ∷ []) (pictures.unwritten 2) (pictures.unwritten 3) (refused 3)
    ∷ unpacks_stream 4 0 1 [] (pictures.unwritten 2) (pictures.unwritten 3) (refused 13)
    ∷ unpacks_stream 4 0 1 (0 ∷ []) (pictures.unwritten 2) (pictures.unwritten 3) (refused 14)
    ∷ []
