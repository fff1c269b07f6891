-- What holds for all streams: one claim for each sentence of document 02, Card 1. proofs/StreamClaims.antt has the proofs. No contract uses these.
use Rattle.std.specs.Prelude.{◌≡◌, Bool, false, List, [], ◌∷◌, ℕ, ◌+◌, ◌-◌, ◌*◌, ◌/◌, ◌%◌, ◌≤◌, ◌<◌, length, take}
use Rattle.rle_format.specs.Answer.{Answer, counted, refused, Outcome, add_count}
use Rattle.rle_format.specs.Slice.{overwrite}
use Rattle.bitmap_format.specs.declared.BitmapStreamHeader.{BitmapStreamHeader}
use Rattle.bitmap_format.specs.HeaderByte.{header_from_byte_of, header_to_byte_of}
use Rattle.bitmap_format.specs.Pixels.{PixelForm}
use Rattle.bitmap_format.specs.Picture.{is_loss_level_invalid_of}
use Rattle.bitmap_format.specs.PackPicture.{pack_picture, header_to_send_of}
use Rattle.bitmap_format.specs.Stream.{split, without_pad, split_stream_of, unpack_stream_to, pack_stream, pack_picture_stream}

-- ---- the header byte

-- every header record that refusal 3 allows is read back from its byte
abbrev pub HeaderReadsBack : Type 0
HeaderReadsBack = (h : BitmapStreamHeader) → is_loss_level_invalid_of h.color_plane_definition ≡ false → header_from_byte_of (header_to_byte_of h) ≡ h

-- if the loss level is 0, bit 3 is ignored; and it is written 0, for every header record
abbrev pub Bit3Ignored : Type 0
Bit3Ignored = (k : ℕ) → header_from_byte_of (16 * k + 8) ≡ header_from_byte_of (16 * k)

abbrev pub Bit3Written0 : Type 0
Bit3Written0 = (h : BitmapStreamHeader) → header_to_byte_of h % 8 ≡ 0 → header_to_byte_of h / 8 % 2 ≡ 0

-- bits 6 and 7 are ignored, and written 0
abbrev pub TopBitsIgnored : Type 0
TopBitsIgnored = (byte k : ℕ) → header_from_byte_of (byte + 64 * k) ≡ header_from_byte_of byte

abbrev pub TopBitsWritten0 : Type 0
TopBitsWritten0 = (h : BitmapStreamHeader) → header_to_byte_of h < 64

-- ---- unpacking

-- no stream is refused with 3, to pixels of either form
abbrev pub NeverRefusal3 : Type 0
NeverRefusal3 = (form : PixelForm) (w h : ℕ) (stream work image : List ℕ) → (unpack_stream_to form w h stream work image).answer ≡ refused 3 → ⊥

-- ---- packing

-- of the outcome of a packer: a count is the number of bytes written, and a raw body has a pad byte
pub record Counts (rle : Bool) (o : Outcome) : Type 0 where
  pub size : (m : ℕ) → o.answer ≡ counted m → length o.written ≡ m
  pub padded : (m : ℕ) → o.answer ≡ counted m → rle ≡ false → 1 ≤ m

-- Of a stream that was packed in n bytes, o being the outcome of the packer of its body: o counts one byte less. The destination has the header
-- byte and then what o wrote, and is otherwise unchanged. And its first n bytes split into the header record and what o wrote, without the pad
-- byte if it is raw
pub record GivesBack (header : BitmapStreamHeader) (o : Outcome) (dst slice : List ℕ) (n : ℕ) : Type 0 where
  pub count : add_count 1 o.answer ≡ counted n
  pub bytes : slice ≡ overwrite dst (header_to_byte_of header ∷ o.written)
  pub header_and_body : split_stream_of (take n slice) ≡ split header (without_pad header.enable_rle_compression o.written)

-- for any packer and any header record that refusal 3 allows
abbrev pub SplitGivesBack : Type 0
SplitGivesBack =
    (header : BitmapStreamHeader) (checked : Answer) (pack : ℕ → Outcome) (dst : List ℕ) (n : ℕ)
    → is_loss_level_invalid_of header.color_plane_definition ≡ false
    → Counts header.enable_rle_compression (pack (length dst - 1))
    → (pack_stream header checked pack dst).answer ≡ counted n
    → GivesBack header (pack (length dst - 1)) dst (pack_stream header checked pack dst).slice n

-- for the packers of pictures, without any condition
abbrev pub PictureGivesBack : Type 0
PictureGivesBack =
    (alpha rle : Bool) (w h : ℕ) (planes : List (List ℕ)) (dst : List ℕ) (n : ℕ)
    → (pack_picture_stream alpha rle w h planes dst).answer ≡ counted n
    → GivesBack (header_to_send_of alpha rle) (pack_picture rle w h (length dst - 1) planes) dst (pack_picture_stream alpha rle w h planes dst).slice n

-- a refusal leaves the first byte; what follows it is as the packer of the body leaves it
abbrev pub RefusalKeepsFirstByte : Type 0
RefusalKeepsFirstByte =
    (alpha rle : Bool) (w h : ℕ) (planes : List (List ℕ)) (first : ℕ) (rest : List ℕ) (r : ℕ)
    → (pack_picture_stream alpha rle w h planes (first ∷ rest)).answer ≡ refused r
    → (pack_picture_stream alpha rle w h planes (first ∷ rest)).slice ≡ first ∷ overwrite rest (pack_picture rle w h (length rest) planes).written

-- an empty destination gets the refusal of the packer of the body: 1, 2, 11, then 12
abbrev pub EmptyAsBody : Type 0
EmptyAsBody =
    (alpha rle : Bool) (w h : ℕ) (p : List ℕ) (planes : List (List ℕ))
    → (pack_picture_stream alpha rle w h (p ∷ planes) []).answer ≡ (pack_picture rle w h 0 (p ∷ planes)).answer
