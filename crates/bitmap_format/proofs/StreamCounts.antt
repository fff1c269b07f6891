-- The answers of streams: an image has a maximum size, what is packed fits into the destination, and how long that must be.
use mathlib.Core.Path.{◌≡◌, refl, ap}
use mathlib.Core.Bool.{Bool, true, false}
use mathlib.Core.List.{List, [], ◌∷◌}
use Prim.Native.Nat.{ℕ, ◌+◌, ◌-◌, ◌*◌, ◌≤◌}
use native.Mathlib.Omega.{arith}
use lib.ListN.{length}
use Rattle.rle_format.specs.Answer.{Answer, counted, refused, add_count}
use Rattle.rle_format.specs.Segment.{segments_bytes}
use Rattle.rle_format.proofs.Answer.{refused_not_counted}
use Rattle.bitmap_format.specs.declared.BitmapStreamHeader.{BitmapStreamHeader}
use Rattle.bitmap_format.specs.HeaderByte.{header_from_byte_of}
use Rattle.bitmap_format.specs.Pixels.{PixelForm}
use Rattle.bitmap_format.specs.Picture.{unpack_to}
use Rattle.bitmap_format.specs.PackPicture.{picture_segments, check_pack, pack_picture, header_to_send_of}
use Rattle.bitmap_format.specs.Stream.{split_rest, split_stream_of, unpack_split, unpack_stream_by, unpack_stream_to, with_header_byte, pack_stream, pack_picture_stream}
use Rattle.bitmap_format.proofs.UnpackPicture.{image_count_max}
use Rattle.bitmap_format.proofs.PackRoom.{pack_picture_within, pack_picture_two_bytes_enough}
use Rattle.bitmap_format.proofs.StreamClaims.{picture_gives_back}

pub stream_image_count_max : (form : PixelForm) (w h : ℕ) (stream work image : List ℕ) (n : ℕ) → (unpack_stream_to form w h stream work image).answer ≡ counted n → n ≤ 268435456
unfolding unpack_stream_by split_stream_of unpack_split split_rest
stream_image_count_max form w h [] work image n e = refused_not_counted e
stream_image_count_max form w h (byte ∷ rest) work image n e = go (header_from_byte_of byte).enable_rle_compression rest e
  where
    go : (rle : Bool) (rest : List ℕ) → (unpack_split (λ (header : BitmapStreamHeader) (body : List ℕ). unpack_to form header w h body work image) work image (split_rest (header_from_byte_of byte) rle rest)).answer ≡ counted n
        → n ≤ 268435456
    go true rest e = image_count_max form (header_from_byte_of byte) w h _ work image n e
    go false [] e = refused_not_counted e
    go false (b ∷ rest) e = image_count_max form (header_from_byte_of byte) w h _ work image n e

pub packed_stream_within : (alpha rle : Bool) (w h : ℕ) (planes : List (List ℕ)) (dst : List ℕ) (n : ℕ) → (pack_picture_stream alpha rle w h planes dst).answer ≡ counted n
    → n ≤ 1 + (length dst - 1)
packed_stream_within alpha rle w h planes dst n e =
    go (pack_picture rle w h (length dst - 1) planes).answer (pack_picture_within rle w h (length dst - 1) planes) (picture_gives_back alpha rle w h planes dst n e).count
  where
    go : (a : Answer) → ((m : ℕ) → a ≡ counted m → m ≤ length dst - 1) → add_count 1 a ≡ counted n → n ≤ 1 + (length dst - 1)
    go (counted m) within c =
        let z : 1 + m ≡ n = cc in
        omega (arith, within m refl)
    go (refused r) within c = refused_not_counted c

-- two bytes a sample and one for the header byte are room enough for RLE
pub stream_two_bytes_enough : (alpha : Bool) (w h n : ℕ) (planes : List (List ℕ)) (dst : List ℕ) → check_pack w h planes ≡ counted n
    → length planes * (2 * (w * h)) + 1 ≤ length dst
    → (pack_picture_stream alpha true w h planes dst).answer ≡ counted (1 + length (segments_bytes (picture_segments w h planes)))
unfolding pack_stream with_header_byte
stream_two_bytes_enough alpha w h n planes [] et enough = absurd (omega arith)
stream_two_bytes_enough alpha w h n planes (first ∷ rest) et enough =
    ap (λ (a : Answer). (with_header_byte (header_to_send_of alpha true) first rest (pack_picture true w h (length rest) planes).written a).answer)
    (pack_picture_two_bytes_enough true w h (length rest) n planes et refl (omega arith))
