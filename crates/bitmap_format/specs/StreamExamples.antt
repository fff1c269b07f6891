-- Whole streams (FORMAT 1.2, 1.7, 7.6), with results worked out by hand: one constant list, what the definitions compute for each, and what is
-- expected. proofs/Examples.antt has the one proof.
use Rattle.std.specs.Prelude.{ℕ, Bool, true, false, List, [], ◌∷◌, ◌++◌, map, length}
use Rattle.rle_format.specs.Answer.{Answer, counted, refused}
use Rattle.rle_format.specs.Examples.{count_from}
use Rattle.bitmap_format.specs.declared.BitmapStreamHeader.{BitmapStreamHeader}
use Rattle.bitmap_format.specs.declared.ColorPlaneDefinition.TheVariants.{AYCoCg}
use Rattle.bitmap_format.specs.HeaderByte.{header_from_byte_of, header_to_byte_of}
use Rattle.bitmap_format.specs.Picture.{PictureOutcome}
use Rattle.bitmap_format.specs.PackPicture.{three_planes, four_planes}
use Rattle.bitmap_format.specs.Pixels.{three_bytes}
use Rattle.bitmap_format.specs.Stream.{unpack_stream_of, stream_work_size_of, StreamOutcome, pack_picture_stream}
use Rattle.bitmap_format.specs.Examples.{header, argb, unwritten}

pub data Example : Type 0 where
  -- header bytes, and their header records
  reads_headers : (bytes : List ℕ) (headers : List BitmapStreamHeader) → Example
  -- header records, and their header bytes
  writes_headers : (headers : List BitmapStreamHeader) (bytes : List ℕ) → Example
  -- a stream, the work area and the image after the call, and the answer
  unpacks : (width height : ℕ) (stream work image : List ℕ) → Answer → Example
  -- the minimum sizes of the work areas of streams
  work_sizes : (width height : ℕ) (streams : List (List ℕ)) (sizes : List ℕ) → Example
  -- the planes of a picture, whether alpha is one of them, the destination after the picture is packed, and the answer
  packs : (alpha rle : Bool) (width height : ℕ) (planes : List (List ℕ)) (slice : List ℕ) → Answer → Example

pub data Result : Type 0 where
  headers : List BitmapStreamHeader → Result
  numbers : List ℕ → Result
  after : (work slice : List ℕ) → Answer → Result

abbrev pub after_unpacking : PictureOutcome → Result
after_unpacking o = after o.work o.image o.answer

abbrev pub after_packing : StreamOutcome → Result
after_packing o = after [] o.slice o.answer

-- what the definitions compute; the slices have the lengths that they have afterwards, and all their bytes are `EE` before the call
abbrev pub computed : Example → Result
computed (reads_headers bytes hs) = headers (map header_from_byte_of bytes)
computed (writes_headers hs bytes) = numbers (map header_to_byte_of hs)
computed (unpacks w h stream work image a) = after_unpacking (unpack_stream_of w h stream (unwritten (length work)) (unwritten (length image)))
computed (work_sizes w h streams sizes) = numbers (map (stream_work_size_of three_bytes w h) streams)
computed (packs alpha rle w h planes slice a) = after_packing (pack_picture_stream alpha rle w h planes (unwritten (length slice)))

-- what is expected
abbrev pub expected : Example → Result
expected (reads_headers bytes hs) = headers hs
expected (writes_headers hs bytes) = numbers bytes
expected (unpacks w h stream work image a) = after work image a
expected (work_sizes w h streams sizes) = numbers sizes
expected (packs alpha rle w h planes slice a) = after [] slice a

-- ---- header bytes

-- loss levels 0 to 7
abbrev pub eight_levels : (alpha rle subsampling : Bool) → List BitmapStreamHeader
eight_levels alpha rle s = argb rle alpha ∷ map (λ (level : ℕ). header rle alpha (AYCoCg level s)) (count_from 1 7)

-- bit 3 clear, then set
abbrev pub sixteen : (alpha rle : Bool) → List BitmapStreamHeader
sixteen alpha rle = eight_levels alpha rle false ++ eight_levels alpha rle true

-- bits 4 and 5 as well
abbrev pub sixty_four : List BitmapStreamHeader
sixty_four = sixteen true false ++ sixteen true true ++ sixteen false false ++ sixteen false true

-- All 256 bytes. Then bytes written: of the records of bytes 0 to 63, where bit 3 is 0 if the loss level is; and of loss levels that refusal 3
-- excludes, of which the three lowest bits are written
abbrev pub header_bytes : List Example
header_bytes =
    reads_headers (count_from 0 256) (sixty_four ++ sixty_four ++ sixty_four ++ sixty_four)
    ∷ writes_headers sixty_four
    (count_from 0 8 ++ 0 ∷ count_from 9 7
    ++ count_from 16 8 ++ 16 ∷ count_from 25 7
    ++ count_from 32 8 ++ 32 ∷ count_from 41 7
    ++ count_from 48 8 ++ 48 ∷ count_from 57 7)
    ∷ writes_headers (header true false (AYCoCg 0 true) ∷ header false true (AYCoCg 8 true) ∷ header false true (AYCoCg 15 true) ∷ []) (0x30 ∷ 0x00 ∷ 0x0F ∷ [])
    ∷ []

-- ---- streams

-- One pixel of R 1, G 2, B 3: raw without alpha, with a longer work area and image; with alpha 4; RLE without alpha, its last byte no pad byte;
-- with alpha; `F8` is `30` with bit 3 and the two top bits set. Two pixels side by side. Then the pixel of FORMAT 10, 15, with alpha and without; and
-- two wide, two high, subsampled: Y 100 to 103, Co 1, Cg 10, so t is 90 to 93
abbrev pub unpacked : List Example
unpacked =
    unpacks 1 1 (0x20 ∷ 1 ∷ 2 ∷ 3 ∷ 0 ∷ []) (unwritten 2) (1 ∷ 2 ∷ 3 ∷ unwritten 1) (counted 3)
    ∷ unpacks 1 1 (0x00 ∷ 4 ∷ 1 ∷ 2 ∷ 3 ∷ 0 ∷ []) [] (1 ∷ 2 ∷ 3 ∷ []) (counted 3)
    ∷ unpacks 1 1 (0x30 ∷ 0x10 ∷ 1 ∷ 0x10 ∷ 2 ∷ 0x10 ∷ 3 ∷ []) (1 ∷ 2 ∷ 3 ∷ []) (1 ∷ 2 ∷ 3 ∷ []) (counted 3)
    ∷ unpacks 1 1 (0x10 ∷ 0x10 ∷ 4 ∷ 0x10 ∷ 1 ∷ 0x10 ∷ 2 ∷ 0x10 ∷ 3 ∷ []) (1 ∷ 2 ∷ 3 ∷ []) (1 ∷ 2 ∷ 3 ∷ []) (counted 3)
    ∷ unpacks 1 1 (0xF8 ∷ 0x10 ∷ 1 ∷ 0x10 ∷ 2 ∷ 0x10 ∷ 3 ∷ []) (1 ∷ 2 ∷ 3 ∷ []) (1 ∷ 2 ∷ 3 ∷ []) (counted 3)
    ∷ unpacks 2 1 (0x30 ∷ 0x20 ∷ 1 ∷ 2 ∷ 0x20 ∷ 3 ∷ 4 ∷ 0x20 ∷ 5 ∷ 6 ∷ []) (count_from 1 6) (1 ∷ 3 ∷ 5 ∷ 2 ∷ 4 ∷ 6 ∷ []) (counted 6)
    ∷ unpacks 1 1 (0x01 ∷ 0xFF ∷ 100 ∷ 10 ∷ 20 ∷ 0 ∷ []) [] (90 ∷ 120 ∷ 70 ∷ []) (counted 3)
    ∷ unpacks 1 1 (0x31 ∷ 0x10 ∷ 100 ∷ 0x10 ∷ 10 ∷ 0x10 ∷ 20 ∷ []) (100 ∷ 10 ∷ 20 ∷ []) (70 ∷ 120 ∷ 90 ∷ []) (counted 3)
    ∷ unpacks 2 2 (0x29 ∷ 100 ∷ 101 ∷ 102 ∷ 103 ∷ 1 ∷ 10 ∷ 0 ∷ []) []
    (89 ∷ 110 ∷ 91 ∷ 90 ∷ 111 ∷ 92 ∷ 91 ∷ 112 ∷ 93 ∷ 92 ∷ 113 ∷ 94 ∷ [])
    (counted 12)
    ∷ []

-- 13 and 14 come before 1; then 1, 2, 4, 5, 6, 7, 8. A raw stream of two bytes has an empty body, and a pad byte is no part of a body: both are
-- refused with 4. An RLE stream of one byte has an empty body too
abbrev pub refused_streams : List Example
refused_streams =
    unpacks 0 9000 [] (unwritten 1) (unwritten 1) (refused 13)
    ∷ unpacks 0 9000 (0x20 ∷ []) (unwritten 1) (unwritten 1) (refused 14)
    ∷ unpacks 1 1 (0x2F ∷ []) [] (unwritten 3) (refused 14)
    ∷ unpacks 0 9000 (0x30 ∷ []) [] [] (refused 1)
    ∷ unpacks 8193 1 (0x20 ∷ 0 ∷ []) [] [] (refused 2)
    ∷ unpacks 1 1 (0x20 ∷ 0 ∷ []) [] (unwritten 3) (refused 4)
    ∷ unpacks 1 1 (0x20 ∷ 1 ∷ 2 ∷ 3 ∷ []) [] (unwritten 3) (refused 4)
    ∷ unpacks 1 1 (0x30 ∷ []) (unwritten 3) (unwritten 3) (refused 4)
    ∷ unpacks 1 1 (0x30 ∷ 0x10 ∷ 1 ∷ 0x10 ∷ []) (unwritten 2) (unwritten 2) (refused 5)
    ∷ unpacks 1 1 (0x30 ∷ 0x10 ∷ 1 ∷ 0x10 ∷ []) (unwritten 3) (unwritten 2) (refused 6)
    ∷ unpacks 1 1 (0x30 ∷ 0x10 ∷ 1 ∷ 0x10 ∷ []) (1 ∷ unwritten 2) (unwritten 3) (refused 7)
    ∷ unpacks 1 1 (0x30 ∷ 0x10 ∷ 1 ∷ 0x10 ∷ 2 ∷ 0x00 ∷ []) (1 ∷ 2 ∷ unwritten 1) (unwritten 3) (refused 8)
    ∷ []

-- three by three: empty, raw, RLE, RLE with alpha, subsampled RLE
abbrev pub sizes : List Example
sizes = work_sizes 3 3 ([] ∷ (0x20 ∷ []) ∷ (0x30 ∷ []) ∷ (0x10 ∷ 9 ∷ []) ∷ (0x39 ∷ []) ∷ []) (0 ∷ 0 ∷ 27 ∷ 27 ∷ 17 ∷ []) ∷ []

-- one pixel: R 1, G 2, B 3, A 4
abbrev pub three : List (List ℕ)
three = three_planes (1 ∷ []) (2 ∷ []) (3 ∷ [])

abbrev pub four : List (List ℕ)
four = four_planes (1 ∷ []) (2 ∷ []) (3 ∷ []) (4 ∷ [])

-- Raw and RLE, three planes and four, into just enough room or one byte more; two pixels side by side; then one byte less. Where the room ends, an
-- RLE stream keeps its complete segments, and not the header byte. Then room for the header byte alone
abbrev pub packed : List Example
packed =
    packs false false 1 1 three (0x20 ∷ 1 ∷ 2 ∷ 3 ∷ 0 ∷ unwritten 1) (counted 5)
    ∷ packs true false 1 1 four (0x20 ∷ 4 ∷ 1 ∷ 2 ∷ 3 ∷ 0 ∷ []) (counted 6)
    ∷ packs false true 1 1 three (0x30 ∷ 0x10 ∷ 1 ∷ 0x10 ∷ 2 ∷ 0x10 ∷ 3 ∷ []) (counted 7)
    ∷ packs true true 1 1 four (0x30 ∷ 0x10 ∷ 4 ∷ 0x10 ∷ 1 ∷ 0x10 ∷ 2 ∷ 0x10 ∷ 3 ∷ unwritten 1) (counted 9)
    ∷ packs false true 2 1 (three_planes (1 ∷ 2 ∷ []) (3 ∷ 4 ∷ []) (5 ∷ 6 ∷ [])) (0x30 ∷ 0x20 ∷ 1 ∷ 2 ∷ 0x20 ∷ 3 ∷ 4 ∷ 0x20 ∷ 5 ∷ 6 ∷ []) (counted 10)
    ∷ packs false false 1 1 three (unwritten 4) (refused 12)
    ∷ packs false true 1 1 three (0xEE ∷ 0x10 ∷ 1 ∷ 0x10 ∷ 2 ∷ unwritten 1) (refused 12)
    ∷ packs true true 1 1 four (unwritten 1) (refused 12)
    ∷ []

-- an empty destination is checked last
abbrev pub refused_destinations : List Example
refused_destinations =
    packs false true 1 1 three [] (refused 12)
    ∷ packs false false 1 1 three [] (refused 12)
    ∷ packs false true 2 1 three [] (refused 11)
    ∷ packs false true 0 1 three [] (refused 1)
    ∷ packs false true 8193 1 three [] (refused 2)
    ∷ packs false true 2 1 three (unwritten 3) (refused 11)
    ∷ []

abbrev pub examples : List Example
examples = header_bytes ++ unpacked ++ refused_streams ++ sizes ++ packed ++ refused_destinations
