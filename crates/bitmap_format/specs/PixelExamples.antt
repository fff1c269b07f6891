-- Examples of pictures that are unpacked to four-byte pixels, worked out by hand: one constant list, what the definitions compute for each,
-- and what is expected. proofs/Examples.antt has the one proof.
use Rattle.std.specs.Prelude.{ℕ, Bool, true, false, List, [], ◌∷◌, ◌++◌, length}
use Rattle.rle_format.specs.Answer.{Answer, counted, refused}
use Rattle.pixel_format.specs.declared.PixelFormat.{PixelFormat}
use Rattle.pixel_format.specs.declared.PixelFormat.TheVariants.{Rgb24, FourBytes}
use Rattle.pixel_format.specs.declared.PixelLayout.TheVariants.{BgrA, RgbA, ARgb, ABgr}
use Rattle.pixel_format.specs.Channel.{ChannelOffsets, rgb_a}
use Rattle.bitmap_format.specs.declared.BitmapStreamHeader.{BitmapStreamHeader}
use Rattle.bitmap_format.specs.Pixels.{format_to_form}
use Rattle.bitmap_format.specs.Sizes.{work_size_of, image_size_of}
use Rattle.bitmap_format.specs.Picture.{PictureOutcome, unpack_to, unpack_pixels}
use Rattle.bitmap_format.specs.Stream.{unpack_stream_to, unpack_pixel_stream, stream_work_size_of}
use Rattle.bitmap_format.specs.Examples.{unwritten, argb, subsampled_header, aycocg}

pub data Example : Type 0 where
  -- a body, the work area and the image after the call, and the answer
  unpacks : PixelFormat → BitmapStreamHeader → (width height : ℕ) (body work image : List ℕ) → Answer → Example
  -- the same for a stream
  unpacks_stream : PixelFormat → (width height : ℕ) (stream work image : List ℕ) → Answer → Example
  -- both for four-byte pixels with these offsets; the work area is empty
  unpacks_pixels : ChannelOffsets → BitmapStreamHeader → (width height : ℕ) (body image : List ℕ) → Answer → Example
  unpacks_pixel_stream : ChannelOffsets → (width height : ℕ) (stream image : List ℕ) → Answer → Example
  -- the minimum sizes of work area and image
  sizes : PixelFormat → BitmapStreamHeader → (width height work image : ℕ) → Example
  -- the minimum size of the work area of a stream
  stream_size : PixelFormat → (width height : ℕ) (stream : List ℕ) (work : ℕ) → Example

-- work area, image and answer
abbrev pub outcome : (work image : List ℕ) → Answer → PictureOutcome
outcome work image a = record { work = work; image = image; answer = a }

abbrev pub numbers : (ns : List ℕ) → PictureOutcome
numbers ns = outcome ns [] (counted 0)

-- what the definitions compute; work area and image have the lengths that they have afterwards
abbrev pub computed : Example → PictureOutcome
computed (unpacks format header w h body work image a) =
    unpack_to (format_to_form format) header w h body (unwritten (length work)) (unwritten (length image))
computed (unpacks_stream format w h stream work image a) =
    unpack_stream_to (format_to_form format) w h stream (unwritten (length work)) (unwritten (length image))
computed (unpacks_pixels p header w h body image a) = unpack_pixels p header w h body [] (unwritten (length image))
computed (unpacks_pixel_stream p w h stream image a) = unpack_pixel_stream p w h stream [] (unwritten (length image))
computed (sizes format header w h work image) = numbers (work_size_of (format_to_form format) header w h ∷ image_size_of (format_to_form format) w h ∷ [])
computed (stream_size format w h stream work) = numbers (stream_work_size_of (format_to_form format) w h stream ∷ [])

-- what is expected
abbrev pub expected : Example → PictureOutcome
expected (unpacks format header w h body work image a) = outcome work image a
expected (unpacks_stream format w h stream work image a) = outcome work image a
expected (unpacks_pixels p header w h body image a) = outcome [] image a
expected (unpacks_pixel_stream p w h stream image a) = outcome [] image a
expected (sizes format header w h work image) = numbers (work ∷ image ∷ [])
expected (stream_size format w h stream work) = numbers (work ∷ [])

-- ---- two by two: the colours 10 20 30, 40 50 60, 70 80 90 and 100 110 120, with alpha 1, 2, 3 and 4

abbrev pub colour_planes : List ℕ
colour_planes = 10 ∷ 40 ∷ 70 ∷ 100 ∷ 20 ∷ 50 ∷ 80 ∷ 110 ∷ 30 ∷ 60 ∷ 90 ∷ 120 ∷ []

-- the same as RLE planes: the lower row is 60 more than the upper, and that of alpha 2 more
abbrev pub rle_colours : List ℕ
rle_colours =
    0x20 ∷ 10 ∷ 40 ∷ 0x20 ∷ 120 ∷ 120 ∷ 0x20 ∷ 20 ∷ 50 ∷ 0x20 ∷ 120 ∷ 120 ∷ 0x20 ∷ 30 ∷ 60 ∷ 0x20 ∷ 120 ∷ 120 ∷ []

abbrev pub rle_alpha : List ℕ
rle_alpha = 0x20 ∷ 1 ∷ 2 ∷ 0x20 ∷ 4 ∷ 4 ∷ []

-- raw, in each layout, with alpha and without
abbrev pub raw : PixelFormat → (alpha : Bool) (body image : List ℕ) → Example
raw format alpha body image = unpacks format (argb false alpha) 2 2 body [] image (counted (length image))

abbrev pub layouts : List Example
layouts =
    raw (FourBytes BgrA) true (1 ∷ 2 ∷ 3 ∷ 4 ∷ colour_planes)
    (30 ∷ 20 ∷ 10 ∷ 1 ∷ 60 ∷ 50 ∷ 40 ∷ 2 ∷ 90 ∷ 80 ∷ 70 ∷ 3 ∷ 120 ∷ 110 ∷ 100 ∷ 4 ∷ [])
    ∷ raw (FourBytes RgbA) true (1 ∷ 2 ∷ 3 ∷ 4 ∷ colour_planes)
    (10 ∷ 20 ∷ 30 ∷ 1 ∷ 40 ∷ 50 ∷ 60 ∷ 2 ∷ 70 ∷ 80 ∷ 90 ∷ 3 ∷ 100 ∷ 110 ∷ 120 ∷ 4 ∷ [])
    ∷ raw (FourBytes ARgb) true (1 ∷ 2 ∷ 3 ∷ 4 ∷ colour_planes)
    (1 ∷ 10 ∷ 20 ∷ 30 ∷ 2 ∷ 40 ∷ 50 ∷ 60 ∷ 3 ∷ 70 ∷ 80 ∷ 90 ∷ 4 ∷ 100 ∷ 110 ∷ 120 ∷ [])
    ∷ raw (FourBytes ABgr) true (1 ∷ 2 ∷ 3 ∷ 4 ∷ colour_planes)
    (1 ∷ 30 ∷ 20 ∷ 10 ∷ 2 ∷ 60 ∷ 50 ∷ 40 ∷ 3 ∷ 90 ∷ 80 ∷ 70 ∷ 4 ∷ 120 ∷ 110 ∷ 100 ∷ [])
    ∷ raw (FourBytes BgrA) false colour_planes
    (30 ∷ 20 ∷ 10 ∷ 255 ∷ 60 ∷ 50 ∷ 40 ∷ 255 ∷ 90 ∷ 80 ∷ 70 ∷ 255 ∷ 120 ∷ 110 ∷ 100 ∷ 255 ∷ [])
    ∷ raw (FourBytes ARgb) false colour_planes
    (255 ∷ 10 ∷ 20 ∷ 30 ∷ 255 ∷ 40 ∷ 50 ∷ 60 ∷ 255 ∷ 70 ∷ 80 ∷ 90 ∷ 255 ∷ 100 ∷ 110 ∷ 120 ∷ [])
    ∷ raw Rgb24 true (1 ∷ 2 ∷ 3 ∷ 4 ∷ colour_planes) (10 ∷ 20 ∷ 30 ∷ 40 ∷ 50 ∷ 60 ∷ 70 ∷ 80 ∷ 90 ∷ 100 ∷ 110 ∷ 120 ∷ [])
    ∷ []

-- RLE with alpha. Alpha is behind the colour planes; three-byte pixels leave none of it. Then the first colour plane is refused in its lower
-- row: alpha is complete, or for three-byte pixels what the refused plane did not overwrite. Then alpha is refused in its lower row, after a segment of
-- one value: the colour part of the work area is unchanged
abbrev pub rle_pictures : List Example
rle_pictures =
    unpacks (FourBytes RgbA) (argb true true) 2 2 (rle_alpha ++ rle_colours) (colour_planes ++ (1 ∷ 2 ∷ 3 ∷ 4 ∷ unwritten 1))
    (10 ∷ 20 ∷ 30 ∷ 1 ∷ 40 ∷ 50 ∷ 60 ∷ 2 ∷ 70 ∷ 80 ∷ 90 ∷ 3 ∷ 100 ∷ 110 ∷ 120 ∷ 4 ∷ unwritten 1)
    (counted 16)
    ∷ unpacks Rgb24 (argb true true) 2 2 (rle_alpha ++ rle_colours) colour_planes
    (10 ∷ 20 ∷ 30 ∷ 40 ∷ 50 ∷ 60 ∷ 70 ∷ 80 ∷ 90 ∷ 100 ∷ 110 ∷ 120 ∷ [])
    (counted 12)
    ∷ unpacks (FourBytes RgbA) (argb true false) 2 2 rle_colours colour_planes
    (10 ∷ 20 ∷ 30 ∷ 255 ∷ 40 ∷ 50 ∷ 60 ∷ 255 ∷ 70 ∷ 80 ∷ 90 ∷ 255 ∷ 100 ∷ 110 ∷ 120 ∷ 255 ∷ [])
    (counted 16)
    ∷ unpacks (FourBytes BgrA) (argb true true) 2 2 (rle_alpha ++ (0x20 ∷ 10 ∷ 40 ∷ 0 ∷ []))
    (10 ∷ 40 ∷ unwritten 10 ++ (1 ∷ 2 ∷ 3 ∷ 4 ∷ []))
    (unwritten 16)
    (refused 8)
    ∷ unpacks Rgb24 (argb true true) 2 2 (rle_alpha ++ (0x20 ∷ 10 ∷ 40 ∷ 0 ∷ [])) (10 ∷ 40 ∷ 3 ∷ 4 ∷ unwritten 8) (unwritten 12) (refused 8)
    ∷ unpacks (FourBytes BgrA) (argb true true) 2 2 (0x20 ∷ 1 ∷ 2 ∷ 0x10 ∷ 4 ∷ 0x20 ∷ 4 ∷ 4 ∷ [])
    (unwritten 12 ++ (1 ∷ 2 ∷ 4 ∷ unwritten 1))
    (unwritten 16)
    (refused 9)
    ∷ []

-- Refusals 5 and 6, one byte below what they ask for; three-byte pixels ask for less
abbrev pub refusals : List Example
refusals =
    unpacks (FourBytes BgrA) (argb true true) 2 2 (rle_alpha ++ rle_colours) (unwritten 15) (unwritten 16) (refused 5)
    ∷ unpacks (FourBytes BgrA) (argb true true) 2 2 (rle_alpha ++ rle_colours) (unwritten 16) (unwritten 15) (refused 6)
    ∷ unpacks (FourBytes BgrA) (argb true false) 2 2 rle_colours (unwritten 11) (unwritten 16) (refused 5)
    ∷ unpacks (FourBytes BgrA) (aycocg true true 8) 1 1 [] [] [] (refused 3)
    ∷ unpacks (FourBytes BgrA) (argb false true) 1 1 (1 ∷ 2 ∷ 3 ∷ []) [] [] (refused 4)
    ∷ sizes (FourBytes BgrA) (argb true true) 2 3 24 24
    ∷ sizes (FourBytes RgbA) (argb true false) 2 3 18 24
    ∷ sizes (FourBytes ARgb) (argb false true) 2 3 0 24
    ∷ sizes (FourBytes ABgr) (subsampled_header true true) 3 3 26 36
    ∷ sizes Rgb24 (subsampled_header true true) 3 3 17 27
    ∷ []

-- ---- three by three, subsampled: Y 100 to 108, Co 0 10 and 20 30, Cg 0 5 and 10 15; alpha 1 to 9

abbrev pub subsampled_planes : List ℕ
subsampled_planes =
    100 ∷ 101 ∷ 102 ∷ 103 ∷ 104 ∷ 105 ∷ 106 ∷ 107 ∷ 108 ∷ 0 ∷ 10 ∷ 20 ∷ 30 ∷ 0 ∷ 5 ∷ 10 ∷ 15 ∷ []

-- without alpha the planes have R and B exchanged
abbrev pub subsampled_pictures : List Example
subsampled_pictures =
    unpacks (FourBytes ARgb) (subsampled_header false true) 3 3 (1 ∷ 2 ∷ 3 ∷ 4 ∷ 5 ∷ 6 ∷ 7 ∷ 8 ∷ 9 ∷ subsampled_planes) (unwritten 2)
    (1 ∷ 100 ∷ 100 ∷ 100 ∷ 2 ∷ 101 ∷ 101 ∷ 101 ∷ 3 ∷ 107 ∷ 107 ∷ 87
    ∷ 4 ∷ 103 ∷ 103 ∷ 103 ∷ 5 ∷ 104 ∷ 104 ∷ 104 ∷ 6 ∷ 110 ∷ 110 ∷ 90
    ∷ 7 ∷ 116 ∷ 116 ∷ 76 ∷ 8 ∷ 117 ∷ 117 ∷ 77 ∷ 9 ∷ 123 ∷ 123 ∷ 63 ∷ [])
    (counted 36)
    ∷ unpacks (FourBytes BgrA) (subsampled_header false false) 3 3 subsampled_planes []
    (100 ∷ 100 ∷ 100 ∷ 255 ∷ 101 ∷ 101 ∷ 101 ∷ 255 ∷ 107 ∷ 107 ∷ 87 ∷ 255
    ∷ 103 ∷ 103 ∷ 103 ∷ 255 ∷ 104 ∷ 104 ∷ 104 ∷ 255 ∷ 110 ∷ 110 ∷ 90 ∷ 255
    ∷ 116 ∷ 116 ∷ 76 ∷ 255 ∷ 117 ∷ 117 ∷ 77 ∷ 255 ∷ 123 ∷ 123 ∷ 63 ∷ 255 ∷ [])
    (counted 36)
    ∷ []

-- Streams: raw with alpha and a pad byte; RLE with alpha; refusals 13 and 14; the sizes of work areas
abbrev pub streams : List Example
streams =
    unpacks_stream (FourBytes ARgb) 2 2 (0x00 ∷ 1 ∷ 2 ∷ 3 ∷ 4 ∷ colour_planes ++ (77 ∷ [])) []
    (1 ∷ 10 ∷ 20 ∷ 30 ∷ 2 ∷ 40 ∷ 50 ∷ 60 ∷ 3 ∷ 70 ∷ 80 ∷ 90 ∷ 4 ∷ 100 ∷ 110 ∷ 120 ∷ [])
    (counted 16)
    ∷ unpacks_stream (FourBytes ABgr) 2 2 (0x10 ∷ rle_alpha ++ rle_colours) (colour_planes ++ (1 ∷ 2 ∷ 3 ∷ 4 ∷ []))
    (1 ∷ 30 ∷ 20 ∷ 10 ∷ 2 ∷ 60 ∷ 50 ∷ 40 ∷ 3 ∷ 90 ∷ 80 ∷ 70 ∷ 4 ∷ 120 ∷ 110 ∷ 100 ∷ [])
    (counted 16)
    ∷ unpacks_stream (FourBytes BgrA) 0 0 [] [] [] (refused 13)
    ∷ unpacks_stream (FourBytes BgrA) 0 0 (0x20 ∷ []) [] [] (refused 14)
    ∷ stream_size (FourBytes BgrA) 3 3 (0x10 ∷ []) 36
    ∷ stream_size (FourBytes BgrA) 3 3 (0x30 ∷ []) 27
    ∷ stream_size (FourBytes BgrA) 3 3 (0x00 ∷ []) 0
    ∷ stream_size (FourBytes BgrA) 3 3 [] 0
    ∷ []

-- Two wide and three high, raw, subsampled, without alpha: Y 100 to 105, Co 1 and 2, Cg 10 and 20, as in Examples.antt
abbrev pub two_by_three_planes : List ℕ
two_by_three_planes = 100 ∷ 101 ∷ 102 ∷ 103 ∷ 104 ∷ 105 ∷ 1 ∷ 2 ∷ 10 ∷ 20 ∷ []

abbrev pub two_by_three_pixels : List ℕ
two_by_three_pixels =
    89 ∷ 110 ∷ 91 ∷ 255 ∷ 90 ∷ 111 ∷ 92 ∷ 255
    ∷ 91 ∷ 112 ∷ 93 ∷ 255 ∷ 92 ∷ 113 ∷ 94 ∷ 255
    ∷ 82 ∷ 124 ∷ 86 ∷ 255 ∷ 83 ∷ 125 ∷ 87 ∷ 255 ∷ []

abbrev pub two_by_three : List Example
two_by_three =
    unpacks_pixels rgb_a (subsampled_header false false) 2 3 two_by_three_planes two_by_three_pixels (counted 24)
    ∷ unpacks_pixel_stream rgb_a 2 3 (0x29 ∷ two_by_three_planes ++ (0 ∷ [])) two_by_three_pixels (counted 24)
    ∷ []

abbrev pub examples : List Example
examples = layouts ++ rle_pictures ++ refusals ++ subsampled_pictures ++ streams ++ two_by_three
