-- Packing a picture (FORMAT 7): its planes and their order, the RLE body and the raw body, the refusals in their order, and the answer.
use Rattle.std.specs.Prelude.{ℕ, ◌*◌, Bool, false, ◌||◌, List, [], ◌∷◌, ◌++◌, length, take, ltb, Result, Ok, Err}
use Rattle.rle_format.specs.Choice.{choose}
use Rattle.rle_format.specs.declared.Refusal.{Refusal}
use Rattle.rle_format.specs.Sides.{check_sides_of}
use Rattle.rle_format.specs.Answer.{Answer, counted, refused, Outcome, refuse, number}
use Rattle.rle_format.specs.Segment.{Segment}
use Rattle.rle_format.specs.Pack.{plane_segments, write_segments}
use Rattle.pixel_format.specs.declared.Channel.TheVariants.{R, G, B, A}
use Rattle.pixel_format.specs.Channel.{ChannelOffsets, channel}
use Rattle.bitmap_format.specs.declared.BitmapStreamHeader.{BitmapStreamHeader}
use Rattle.bitmap_format.specs.declared.ColorPlaneDefinition.TheVariants.{Argb}
use Rattle.bitmap_format.specs.declared.Encoded.{Encoded}
use Rattle.bitmap_format.specs.Checks.{Check, check, first_refusal_of}

-- ---- the planes, each as the list of its samples

-- R, G, B (FORMAT 7.2)
abbrev pub three_planes : (r g b : List ℕ) → List (List ℕ)
three_planes r g b = r ∷ g ∷ b ∷ []

-- with alpha: A, R, G, B
abbrev pub four_planes : (r g b a : List ℕ) → List (List ℕ)
four_planes r g b a = a ∷ three_planes r g b

-- the same from a slice of pixels
abbrev pub pixel_planes : ChannelOffsets → (pixels : List ℕ) → List (List ℕ)
pixel_planes p pixels = three_planes (channel p R pixels) (channel p G pixels) (channel p B pixels)

abbrev pub pixel_planes_alpha : ChannelOffsets → (pixels : List ℕ) → List (List ℕ)
pixel_planes_alpha p pixels = four_planes (channel p R pixels) (channel p G pixels) (channel p B pixels) (channel p A pixels)

-- ---- the bodies

-- the RLE body, as segments (FORMAT 7.3)
unfoldable pub picture_segments : (width height : ℕ) (planes : List (List ℕ)) → List Segment
picture_segments width height [] = []
picture_segments width height (p ∷ planes) = plane_segments width height p ++ picture_segments width height planes

-- the first n samples of each plane
unfoldable pub raw_samples : (n : ℕ) (planes : List (List ℕ)) → List ℕ
raw_samples n [] = []
raw_samples n (p ∷ planes) = take n p ++ raw_samples n planes

-- the raw body (FORMAT 7.4). Its length is stated in proofs/PackPicture.antt: length-raw_body
unfoldable pub raw_body : (n : ℕ) (planes : List (List ℕ)) → List ℕ
raw_body n planes = raw_samples n planes ++ 0 ∷ []

-- a body written into `room` bytes if all of it fits, else refusal 12
unfoldable pub write_all_or_nothing : (body : List ℕ) (room : ℕ) → Outcome
write_all_or_nothing body room = choose (ltb room (length body)) (refuse 12) (record { written = body; answer = counted (length body) })

-- ---- a picture

-- the condition of refusal 11: some plane has fewer than n samples
unfoldable pub any_short : (n : ℕ) (planes : List (List ℕ)) → Bool
any_short n [] = false
any_short n (p ∷ planes) = ltb (length p) n || any_short n planes

-- the checks of a packer, after those of the sides. n is the number of samples of a plane
abbrev pub pack_checks : (n : ℕ) (planes : List (List ℕ)) → List Check
pack_checks n planes = check 11 (any_short n planes) ∷ []

-- the answer of all checks: the first refusal, or the number of samples of a plane
unfoldable pub check_pack : (width height : ℕ) (planes : List (List ℕ)) → Answer
check_pack width height planes = check_sides_of refused width height (first_refusal_of (pack_checks (width * height) planes) (counted (width * height)))

-- the body written into `room` bytes, or refusal 12
unfoldable pub pack_body : (rle : Bool) (width height room : ℕ) (planes : List (List ℕ)) → Outcome
pack_body rle width height room planes =
    choose rle (write_segments (picture_segments width height planes) room) (write_all_or_nothing (raw_body (width * height) planes) room)

-- packing a picture into `room` bytes: refusals 1, 2, 11, then 12 (FORMAT 8.2)
unfoldable pub pack_picture : (rle : Bool) (width height room : ℕ) (planes : List (List ℕ)) → Outcome
pack_picture rle width height room planes =
    elim (check_pack width height planes) [
      | refused r ↦ refuse r
      | counted n ↦ pack_body rle width height room planes
    ]

-- ---- the answer

-- the header record that is returned (FORMAT 7.5; document 01: to send): `alpha` is whether there is an alpha plane, `rle` is what was asked for
unfoldable pub header_to_send_of : (alpha rle : Bool) → BitmapStreamHeader
header_to_send_of alpha rle = record {
  enable_rle_compression = rle;
  use_alpha = false;
  color_plane_definition = Argb;
}

-- a number of bytes with the header record, or a refusal (FORMAT 8.4)
pub data EncodedAnswer : Type 0 where
  encoded_count : (bytes : ℕ) (header : BitmapStreamHeader) → EncodedAnswer
  encoded_refusal : (number : ℕ) → EncodedAnswer

-- the header record added to an answer (FORMAT 8.4)
abbrev pub with_header : BitmapStreamHeader → Answer → EncodedAnswer
with_header header (counted n) = encoded_count n header
with_header header (refused r) = encoded_refusal r

-- the same answer without the header record
abbrev pub drop_header : EncodedAnswer → Answer
drop_header (encoded_count n header) = counted n
drop_header (encoded_refusal r) = refused r

-- the answer of packing a picture
abbrev pub encoded_to_answer : Result Encoded Refusal → EncodedAnswer
encoded_to_answer (Ok e) = encoded_count e.bytes e.header
encoded_to_answer (Err r) = encoded_refusal (number r)
