-- Whole streams: split into header record and body, and unpacked (FORMAT 1.7); packed (FORMAT 7.6).
use Rattle.std.specs.Prelude.{ℕ, ◌+◌, ◌-◌, Bool, true, false, List, [], ◌∷◌, length, take}
use Rattle.rle_format.specs.Answer.{Answer, counted, refused, Outcome}
use Rattle.rle_format.specs.Slice.{overwrite}
use Rattle.pixel_format.specs.Channel.{ChannelOffsets}
use Rattle.bitmap_format.specs.declared.BitmapStreamHeader.{BitmapStreamHeader}
use Rattle.bitmap_format.specs.HeaderByte.{header_from_byte_of, header_to_byte_of}
use Rattle.bitmap_format.specs.Pixels.{PixelForm, three_bytes, four_bytes}
use Rattle.bitmap_format.specs.Sizes.{work_size_of}
use Rattle.bitmap_format.specs.Picture.{PictureOutcome, refused_picture, unpack_to}
use Rattle.bitmap_format.specs.PackPicture.{check_pack, pack_picture, header_to_send_of}

-- ---- unpacking

-- the header record and the body of a stream, or the number of a refusal
pub data Split : Type 0 where
  split : (header : BitmapStreamHeader) (body : List ℕ) → Split
  split_refused : (number : ℕ) → Split

-- the body, from what follows the header byte: the last byte of a raw stream is the pad byte
unfoldable pub without_pad : (rle : Bool) → List ℕ → List ℕ
without_pad true rest = rest
without_pad false rest = take (length rest - 1) rest

-- what follows the header byte. 14: a raw stream without a pad byte. `rle` is the flag of the header
unfoldable pub split_rest : BitmapStreamHeader → (rle : Bool) → List ℕ → Split
split_rest header true rest = split header (without_pad true rest)
split_rest header false [] = split_refused 14
split_rest header false (b ∷ rest) = split header (without_pad false (b ∷ rest))

-- a stream. 13: it is empty
unfoldable pub split_stream_of : (stream : List ℕ) → Split
split_stream_of [] = split_refused 13
split_stream_of (byte ∷ rest) = split_rest (header_from_byte_of byte) (header_from_byte_of byte).enable_rle_compression rest

-- a picture, from its split stream. Refusals 13 and 14 come before all others and change nothing. `unpack` unpacks a body
unfoldable pub unpack_split : (unpack : BitmapStreamHeader → List ℕ → PictureOutcome) (work image : List ℕ) → Split → PictureOutcome
unpack_split unpack work image (split header body) = unpack header body
unpack_split unpack work image (split_refused r) = refused_picture work image r

unfoldable pub unpack_stream_by : (unpack : BitmapStreamHeader → List ℕ → PictureOutcome) (work image stream : List ℕ) → PictureOutcome
unpack_stream_by unpack work image stream = unpack_split unpack work image (split_stream_of stream)

-- unpacking a stream to pixels of either form
abbrev pub unpack_stream_to : PixelForm → (width height : ℕ) (stream work image : List ℕ) → PictureOutcome
unpack_stream_to form width height stream work image =
    unpack_stream_by (λ (header : BitmapStreamHeader) (body : List ℕ). unpack_to form header width height body work image) work image stream

-- to R, G and B
abbrev pub unpack_stream_of : (width height : ℕ) (stream work image : List ℕ) → PictureOutcome
unpack_stream_of width height stream work image = unpack_stream_to three_bytes width height stream work image

-- to four-byte pixels with R, G, B and A at these offsets
abbrev pub unpack_pixel_stream : ChannelOffsets → (width height : ℕ) (stream work image : List ℕ) → PictureOutcome
unpack_pixel_stream p width height stream work image = unpack_stream_to (four_bytes p) width height stream work image

-- the minimum size of the work area (FORMAT 2.5), 0 for an empty stream
unfoldable pub stream_work_size_of : PixelForm → (width height : ℕ) (stream : List ℕ) → ℕ
stream_work_size_of form width height [] = 0
stream_work_size_of form width height (byte ∷ rest) = work_size_of form (header_from_byte_of byte) width height

-- ---- packing

-- the destination after the call, and the answer: the number of bytes written, or a refusal
pub record StreamOutcome : Type 0 where
  pub slice : List ℕ
  pub answer : Answer

-- the destination, from the outcome of packing the body into what follows its first byte. The header byte is written, and counted, only if
-- the body is packed
unfoldable pub with_header_byte : BitmapStreamHeader → (first : ℕ) (rest written : List ℕ) → Answer → StreamOutcome
with_header_byte header first rest written (counted n) = record { slice = header_to_byte_of header ∷ overwrite rest written; answer = counted (1 + n) }
with_header_byte header first rest written (refused r) = record { slice = first ∷ overwrite rest written; answer = refused r }

-- refusal 12 of an empty destination, after the checks of the packer
abbrev pub empty_destination : (checked : Answer) → Answer
empty_destination (counted n) = refused 12
empty_destination (refused r) = refused r

-- packing a stream by any packer: the header record that it returns, the answer of its checks, and its outcome in so many bytes of room
unfoldable pub pack_stream : (header : BitmapStreamHeader) (checked : Answer) (pack : ℕ → Outcome) (dst : List ℕ) → StreamOutcome
pack_stream header checked pack [] = record { slice = []; answer = empty_destination checked }
pack_stream header checked pack (first ∷ rest) = with_header_byte header first rest (pack (length rest)).written (pack (length rest)).answer

-- packing the planes of a picture; `alpha` is whether there is an alpha plane
abbrev pub pack_picture_stream : (alpha rle : Bool) (width height : ℕ) (planes : List (List ℕ)) (dst : List ℕ) → StreamOutcome
pack_picture_stream alpha rle width height planes dst =
    pack_stream (header_to_send_of alpha rle) (check_pack width height planes) (λ (room : ℕ). pack_picture rle width height room planes) dst
