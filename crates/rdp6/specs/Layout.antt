-- The layout of the pixels, from an argument of a C function, and what a call does by it.
use Rattle.std.specs.Prelude.{ℕ, Bool, true, false, List, [], eqb, Option, Some, None}
use Rattle.rle_format.specs.Answer.{Answer, refused, Outcome, stop}
use Rattle.rle_format.specs.Choice.{choose}
use Rattle.rle_format.specs.Sides.{check_sides_of}
use Rattle.pixel_format.specs.declared.PixelLayout.{PixelLayout}
use Rattle.pixel_format.specs.declared.PixelLayout.TheVariants.{BgrA, RgbA, ARgb, ABgr}
use Rattle.pixel_format.specs.Channel.{ChannelOffsets, channel_offsets}
use Rattle.bitmap_format.specs.declared.BitmapStreamHeader.{BitmapStreamHeader}
use Rattle.bitmap_format.specs.Picture.{PictureOutcome, unpack_pixels}
use Rattle.bitmap_format.specs.PackPicture.{pixel_planes, pixel_planes_alpha, pack_picture}
use Rattle.bitmap_format.specs.Stream.{unpack_stream_by, StreamOutcome, pack_picture_stream}

-- the layout that a number means (FORMAT 6.6). No other number means one
unfoldable pub c_layout : (layout : ℕ) → Option PixelLayout
c_layout layout =
    choose (eqb layout 0)
    (Some BgrA)
    (choose (eqb layout 1) (Some RgbA) (choose (eqb layout 2) (Some ARgb) (choose (eqb layout 3) (Some ABgr) None)))

-- the answer of a call with an unknown layout: 3, unless the sides are refused with 1 or 2 (FORMAT 8.1). For a layout only the C interface gives it,
-- since the functions that it calls take no unknown one
unfoldable pub unknown_layout : (width height : ℕ) → Answer
unknown_layout width height = check_sides_of refused width height (refused 3)

-- what a call does: `call` with a known layout. With an unknown one it changes nothing: `unchanged` makes that outcome from an answer
abbrev pub by_layout : {A : Type 0} (unchanged : Answer → A) (width height : ℕ) (call : PixelLayout → A) → Option PixelLayout → A
by_layout unchanged width height call (Some layout) = call layout
by_layout unchanged width height call None = unchanged (unknown_layout width height)

-- ---- packing

-- the planes of a picture, from its pixels; `alpha` is whether their alpha is packed
abbrev pub planes_of_pixels : (alpha : Bool) → ChannelOffsets → (pixels : List ℕ) → List (List ℕ)
planes_of_pixels true = pixel_planes_alpha
planes_of_pixels false = pixel_planes

-- packing pixels into a body of `room` bytes
abbrev pub c_pack_pixels : (alpha rle : Bool) (width height room : ℕ) (pixels : List ℕ) → Option PixelLayout → Outcome
c_pack_pixels alpha rle width height room pixels =
    by_layout stop width height (λ (layout : PixelLayout). pack_picture rle width height room (planes_of_pixels alpha (channel_offsets layout) pixels))

-- a stream whose destination stays as it is
abbrev pub unchanged_stream : (dst : List ℕ) → Answer → StreamOutcome
unchanged_stream dst answer = record { slice = dst; answer = answer }

-- packing pixels into a stream
abbrev pub c_pack_pixels_stream : (alpha rle : Bool) (width height : ℕ) (pixels dst : List ℕ) → Option PixelLayout → StreamOutcome
c_pack_pixels_stream alpha rle width height pixels dst =
    by_layout (unchanged_stream dst) width height (λ (layout : PixelLayout). pack_picture_stream alpha rle width height (planes_of_pixels alpha (channel_offsets layout) pixels) dst)

-- ---- unpacking

-- a picture that is not unpacked: work area and image stay as they are
abbrev pub unchanged_picture : (work image : List ℕ) → Answer → PictureOutcome
unchanged_picture work image answer = record { work = work; image = image; answer = answer }

-- unpacking a body to four-byte pixels
abbrev pub c_unpack_pixels : Option PixelLayout → BitmapStreamHeader → (width height : ℕ) (body work image : List ℕ) → PictureOutcome
c_unpack_pixels layout header width height body work image =
    by_layout (unchanged_picture work image) width height (λ (l : PixelLayout). unpack_pixels (channel_offsets l) header width height body work image) layout

-- unpacking a stream to four-byte pixels: refusals 13 and 14 come before that of the layout
abbrev pub c_unpack_pixel_stream : Option PixelLayout → (width height : ℕ) (stream work image : List ℕ) → PictureOutcome
c_unpack_pixel_stream layout width height stream work image =
    unpack_stream_by (λ (header : BitmapStreamHeader) (body : List ℕ). c_unpack_pixels layout header width height body work image) work image stream

-- the answer with an unknown layout
abbrev pub unknown_layout_of_stream : (width height : ℕ) (stream : List ℕ) → Answer
unknown_layout_of_stream width height stream = (c_unpack_pixel_stream None width height stream [] []).answer
