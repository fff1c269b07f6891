-- The claims of specs/StreamClaims.antt.
use mathlib.Core.Path.{◌≡◌, refl, sym, ap, ◌∙◌}
use mathlib.Core.Bool.{Bool, true, false}
use mathlib.Core.List.{List, [], ◌∷◌, ◌++◌}
use Prim.Native.Nat.{ℕ, suc, ◌+◌, ◌-◌, ◌*◌, ◌≤◌}
use native.Mathlib.Omega.{arith}
use lib.ListN.{length, take, drop, length-append}
use lib.Seq.{take-append_seam}
use Rattle.rle_format.specs.Answer.{Answer, counted, refused, Outcome, add_count}
use Rattle.rle_format.specs.Slice.{overwrite}
use Rattle.rle_format.proofs.Answer.{refused_not_counted}
use Rattle.bitmap_format.specs.declared.BitmapStreamHeader.{BitmapStreamHeader}
use Rattle.bitmap_format.specs.HeaderByte.{header_to_byte_of}
use Rattle.bitmap_format.specs.Picture.{is_loss_level_invalid_of}
use Rattle.bitmap_format.specs.PackPicture.{raw_samples, raw_body, check_pack, pack_picture, header_to_send_of}
use Rattle.bitmap_format.specs.Stream.{split, without_pad, split_rest, split_stream_of, with_header_byte, empty_destination, pack_stream}
use Rattle.bitmap_format.specs.StreamClaims.{HeaderReadsBack, Bit3Ignored, Bit3Written0, TopBitsIgnored, TopBitsWritten0, NeverRefusal3, Counts, GivesBack, SplitGivesBack, PictureGivesBack, RefusalKeepsFirstByte, EmptyAsBody}
use Rattle.bitmap_format.proofs.HeaderByte.{header_from_its_byte, header_byte_below_64, bit_3_written_0, top_bits_ignored, bit_3_ignored}
use Rattle.bitmap_format.proofs.Refusal3.{stream_not_3}
use Rattle.bitmap_format.proofs.PackedBody.{body_of, packed_body}
use Rattle.bitmap_format.proofs.EmptyDestination.{no_room}

pub header_reads_back : HeaderReadsBack
header_reads_back = header_from_its_byte

pub bit_3_is_ignored : Bit3Ignored
bit_3_is_ignored = bit_3_ignored

pub bit_3_is_written_0 : Bit3Written0
bit_3_is_written_0 = bit_3_written_0

pub top_bits_are_ignored : TopBitsIgnored
top_bits_are_ignored = top_bits_ignored

pub top_bits_are_written_0 : TopBitsWritten0
top_bits_are_written_0 = header_byte_below_64

pub never_refusal_3 : NeverRefusal3
never_refusal_3 = stream_not_3

-- ---- splitting

pub split_raw : (header : BitmapStreamHeader) (rest : List ℕ) → 1 ≤ length rest → split_rest header false rest ≡ split header (without_pad false rest)
unfolding split_rest
split_raw header [] l = absurd (omega arith)
split_raw header (b ∷ rest) l = refl

split_rest_lem : (header : BitmapStreamHeader) (rle : Bool) (body : List ℕ) → (rle ≡ false → 1 ≤ length body) → split_rest header rle body ≡ split header (without_pad rle body)
unfolding split_rest
split_rest_lem header true body some = refl
split_rest_lem header false body some = split_raw header body (some refl)

split_header : (header : BitmapStreamHeader) (body : List ℕ) → is_loss_level_invalid_of header.color_plane_definition ≡ false
    → split_stream_of (header_to_byte_of header ∷ body) ≡ split_rest header header.enable_rle_compression body
unfolding split_stream_of
split_header header body valid = ap (λ (h : BitmapStreamHeader). split_rest h h.enable_rle_compression body) (header_from_its_byte header valid)

-- ---- packing

empty_not_counted : {X : Type 0} (checked : Answer) (n : ℕ) → empty_destination checked ≡ counted n → X
empty_not_counted (counted m) n e = refused_not_counted e
empty_not_counted (refused r) n e = refused_not_counted e

module _ (header : BitmapStreamHeader) (valid : is_loss_level_invalid_of header.color_plane_definition ≡ false) (first : ℕ) (rest : List ℕ) (o : Outcome) (counts : Counts header.enable_rle_compression o) (n : ℕ) where
  behind_byte : (a : Answer) → o.answer ≡ a → (with_header_byte header first rest o.written a).answer ≡ counted n
      → GivesBack header o (first ∷ rest) (with_header_byte header first rest o.written a).slice n
  unfolding with_header_byte overwrite
  behind_byte (refused r) ea e = refused_not_counted e
  behind_byte (counted m) ea e =
      let body : List ℕ = o.written in
      let byte : ℕ = header_to_byte_of header in
      let en : 1 + m ≡ n = cc in
      let size : length body ≡ m = counts.size m ea in
      let sn : n ≡ suc (length body) = omega arith in
      let front : take n (byte ∷ (body ++ drop (length body) rest)) ≡ byte ∷ body =
      ap (λ (k : ℕ). take k (byte ∷ (body ++ drop (length body) rest))) sn ∙ ap (λ (l : List ℕ). byte ∷ l) (take-append_seam body (drop (length body) rest)) in
      record {
        count = ap (add_count 1) ea ∙ ap counted en;
        bytes = refl;
        header_and_body =
            ap split_stream_of front
            ∙ split_header header body valid
            ∙ split_rest_lem header header.enable_rle_compression body (λ raw. omega (arith, counts.padded m ea raw));
      }

pub split_gives_back : SplitGivesBack
unfolding pack_stream
split_gives_back header checked pack [] n valid counts e = empty_not_counted checked n e
split_gives_back header checked pack (first ∷ rest) n valid counts e =
    let z : length (first ∷ rest) - 1 ≡ length rest = omega arith in
    rw z (behind_byte header valid first rest (pack (length rest)) (rw z at counts) n (pack (length rest)).answer refl e)

body_padded : (rle : Bool) (w h : ℕ) (planes : List (List ℕ)) (m : ℕ) → m ≡ length (body_of rle w h planes) → rle ≡ false → 1 ≤ m
unfolding raw_body
body_padded true w h planes m e raw = let z : ◌≡◌ {A = ℕ} 0 1 = cc in absurd (omega arith)
body_padded false w h planes m e raw = omega (arith, length-append (raw_samples (w * h) planes) (0 ∷ []))

picture_counts : (rle : Bool) (w h room : ℕ) (planes : List (List ℕ)) → Counts rle (pack_picture rle w h room planes)
picture_counts rle w h room planes = record {
  size = λ m e. let b = packed_body rle w h room m planes e in ap length b.whole ∙ sym b.size;
  padded = λ m e raw. body_padded rle w h planes m (packed_body rle w h room m planes e).size raw;
}

pub picture_gives_back : PictureGivesBack
unfolding header_to_send_of is_loss_level_invalid_of
picture_gives_back alpha rle w h planes dst n e =
    split_gives_back (header_to_send_of alpha rle) (check_pack w h planes) (λ (room : ℕ). pack_picture rle w h room planes) dst n refl (picture_counts rle w h (length dst - 1) planes) e

pub refusal_keeps_first_byte : RefusalKeepsFirstByte
unfolding pack_stream with_header_byte
refusal_keeps_first_byte alpha rle w h planes first rest r e = go (pack_picture rle w h (length rest) planes).answer e
  where
    go : (a : Answer) → (with_header_byte (header_to_send_of alpha rle) first rest (pack_picture rle w h (length rest) planes).written a).answer ≡ refused r
        → (with_header_byte (header_to_send_of alpha rle) first rest (pack_picture rle w h (length rest) planes).written a).slice ≡ first ∷ overwrite rest (pack_picture rle w h (length rest) planes).written
    go (counted n) e = refused_not_counted (sym e)
    go (refused q) e = refl

pub empty_as_body : EmptyAsBody
unfolding pack_stream
empty_as_body alpha rle w h p planes = sym (no_room w h p planes rle)
