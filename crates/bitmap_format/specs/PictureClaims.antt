-- What holds for pictures in both forms of pixels: one claim for each sentence of document 02, Card 2. proofs/PictureClaims.antt has the proofs. No
-- contract uses these.
use Rattle.std.specs.Prelude.{ℕ, ◌+◌, ◌*◌, ◌≤◌, ◌<◌, true, ◌≡◌, List, length, take, drop, get_or}
use Rattle.rle_format.specs.Choice.{choose}
use Rattle.rle_format.specs.Answer.{Answer, counted, refused}
use Rattle.rle_format.specs.Slice.{overwrite}
use Rattle.rle_format.specs.Unpack.{unpack_plane}
use Rattle.pixel_format.specs.Channel.{ChannelOffsets}
use Rattle.pixel_format.specs.Layouts.{IsRearrangement}
use Rattle.bitmap_format.specs.declared.BitmapStreamHeader.{BitmapStreamHeader}
use Rattle.bitmap_format.specs.Colour.{rgb24}
use Rattle.bitmap_format.specs.Planes.{subsampled, colour_planes, planes_of}
use Rattle.bitmap_format.specs.Pixels.{PixelForm, three_bytes, four_bytes, bytes_per_pixel_of, alpha_at}
use Rattle.bitmap_format.specs.Sizes.{sample_count_of, sum_over, colour_planes_size, work_size_of, row_size, image_size_of}
use Rattle.bitmap_format.specs.Image.{colour_at, concat_up_to, image_row}
use Rattle.bitmap_format.specs.Picture.{planes_for, check_picture, unpack_to, unpack_picture, unpack_pixels}

-- the work area and the image that a call is given
pub record Buffers : Type 0 where
  pub work : List ℕ
  pub image : List ℕ

-- ---- the three-byte picture is unchanged

-- For three-byte pixels the definitions that depend on the form of pixels are document 01's: the work area has the colour planes, alpha is unpacked
-- to its start, and a row has R, G and B of each pixel, whatever alpha is
pub record AsBefore (header : BitmapStreamHeader) (w h : ℕ) : Type 0 where
  pub work_size_is : work_size_of three_bytes header w h
      ≡ choose header.enable_rle_compression (sum_over sample_count_of (colour_planes (subsampled header.color_plane_definition) w h)) 0
  pub image_size_is : image_size_of three_bytes w h ≡ 3 * w * h
  pub row_size_is : row_size three_bytes w ≡ 3 * w
  pub planes : planes_for three_bytes header w h ≡ planes_of header w h
  pub row : (samples alpha : List ℕ) (r : ℕ) → image_row three_bytes header.color_plane_definition header.use_alpha w h samples alpha r
      ≡ concat_up_to w (λ (column : ℕ). rgb24 (colour_at header.color_plane_definition header.use_alpha w h samples r column))

abbrev pub ThreeBytesUnchanged : Type 0
ThreeBytesUnchanged = (header : BitmapStreamHeader) (w h : ℕ) → AsBefore header w h

-- ---- each pixel has the three bytes of the three-byte picture, and its alpha

-- the index in the image of byte k of the pixel at a row and a column
abbrev pub pixel_index : PixelForm → (w row column k : ℕ) → ℕ
pixel_index form w row column k = row * row_size form w + (column * bytes_per_pixel_of form + k)

-- the samples of the alpha plane, from the body alone: what its first plane unpacks to, or, if the body is raw, its first bytes
unfoldable pub alpha_samples : BitmapStreamHeader → (w h : ℕ) (body : List ℕ) → List ℕ
alpha_samples header w h body = choose header.enable_rle_compression (unpack_plane w h (w * h) body).written body

-- a pixel of `image`, which has four-byte pixels, beside the same pixel of `three`, which has three-byte pixels
pub record Holds (p : ChannelOffsets) (w row column alpha : ℕ) (image three : List ℕ) : Type 0 where
  pub red : get_or image (pixel_index (four_bytes p) w row column p.r) 0 ≡ get_or three (pixel_index three_bytes w row column 0) 0
  pub green : get_or image (pixel_index (four_bytes p) w row column p.g) 0 ≡ get_or three (pixel_index three_bytes w row column 1) 0
  pub blue : get_or image (pixel_index (four_bytes p) w row column p.b) 0 ≡ get_or three (pixel_index three_bytes w row column 2) 0
  pub transparency : get_or image (pixel_index (four_bytes p) w row column p.a) 0 ≡ alpha

-- for every rearrangement, every picture that is written, whatever the buffers were, and every pixel
abbrev pub EachPixelHolds : Type 0
EachPixelHolds =
    (p : ChannelOffsets) → IsRearrangement p → (header : BitmapStreamHeader) (w h : ℕ) (body : List ℕ) (four three : Buffers) (n m : ℕ)
    → (unpack_pixels p header w h body four.work four.image).answer ≡ counted n
    → (unpack_picture header w h body three.work three.image).answer ≡ counted m
    → (row column : ℕ) → row < h → column < w
    → Holds p w row column (alpha_at header.use_alpha (alpha_samples header w h body) w row column) (unpack_pixels p header w h body four.work four.image).image
    (unpack_picture header w h body three.work three.image).image

-- ---- alpha in the work area

-- an RLE picture with alpha that passed all checks
pub record AlphaChecked (p : ChannelOffsets) (header : BitmapStreamHeader) (w h : ℕ) (body work image : List ℕ) : Type 0 where
  pub rle : header.enable_rle_compression ≡ true
  pub flagged : header.use_alpha ≡ true
  pub size : ℕ
  pub checked : check_picture (four_bytes p) header w h (length body) (length work) (length image) ≡ counted size

-- behind the colour planes the work area has what the alpha plane by itself unpacks to, whether a colour plane is refused or none
abbrev pub AlphaStaysWhole : Type 0
AlphaStaysWhole =
    (p : ChannelOffsets) (header : BitmapStreamHeader) (w h : ℕ) (body work image : List ℕ) → AlphaChecked p header w h body work image
    → drop (colour_planes_size header w h) (unpack_pixels p header w h body work image).work
    ≡ overwrite (drop (colour_planes_size header w h) work) (unpack_plane w h (w * h) body).written

-- a refused alpha plane refuses the picture, and leaves the colour part of the work area unchanged
abbrev pub RefusedAlphaLeavesColours : Type 0
RefusedAlphaLeavesColours =
    (p : ChannelOffsets) (header : BitmapStreamHeader) (w h : ℕ) (body work image : List ℕ) → AlphaChecked p header w h body work image
    → (r : ℕ) → (unpack_plane w h (w * h) body).answer ≡ refused r
    → ((unpack_pixels p header w h body work image).answer ≡ refused r)
    × (take (colour_planes_size header w h) (unpack_pixels p header w h body work image).work ≡ take (colour_planes_size header w h) work)

-- ---- the same refusals

-- buffers as long as refusals 5 and 6 ask for
pub record LargeEnough (form : PixelForm) (header : BitmapStreamHeader) (w h : ℕ) (b : Buffers) : Type 0 where
  pub work_enough : work_size_of form header w h ≤ length b.work
  pub image_enough : image_size_of form w h ≤ length b.image

-- an answer of a picture in another form of pixels
abbrev pub in_form : PixelForm → (w h : ℕ) → Answer → Answer
in_form form w h (counted n) = counted (image_size_of form w h)
in_form form w h (refused r) = refused r

-- where both have room, one picture gets the same refusal in any two forms, or is written in both
abbrev pub SameRefusals : Type 0
SameRefusals =
    (f g : PixelForm) (header : BitmapStreamHeader) (w h : ℕ) (body : List ℕ) (a b : Buffers) → LargeEnough f header w h a → LargeEnough g header w h b
    → (unpack_to g header w h body b.work b.image).answer ≡ in_form g w h (unpack_to f header w h body a.work a.image).answer
