-- A picture that was packed lies within its destination; and how long that must be.
use mathlib.Core.Path.{◌≡◌, refl, sym, ap, ◌∙◌}
use mathlib.Core.Logic.{⊎_elim}
use mathlib.Core.Bool.{Bool, true, false}
use mathlib.Core.List.{List, [], ◌∷◌}
use Prim.Native.Nat.{ℕ, ◌*◌, ◌≤◌, ◌<◌}
use native.Mathlib.Omega.{arith}
use lib.ListN.{length, length-append}
use Rattle.rle_format.specs.Answer.{Answer, counted, refused, stop}
use Rattle.rle_format.specs.Segment.{Segment, segments_bytes}
use Rattle.rle_format.specs.Pack.{plane_segments, packing}
use Rattle.rle_format.proofs.Answer.{refused_not_counted}
use Rattle.rle_format.proofs.Cases.{le_or_gt}
use Rattle.rle_format.proofs.Outcome.{answer_cong}
use Rattle.rle_format.proofs.Segments.{segments_bytes-append}
use Rattle.rle_format.proofs.Writing.{write_all, write_count_within}
use Rattle.rle_format.proofs.PackingSize.{packing_size_max}
use Rattle.bitmap_format.specs.PackPicture.{picture_segments, raw_body, check_pack, pack_picture}
use Rattle.bitmap_format.proofs.PackPicture.{pack_picture_refused, pack_picture_rle, pack_picture_raw, pack_picture_no_room}

pub pack_picture_within : (rle : Bool) (w h room : ℕ) (planes : List (List ℕ)) (n : ℕ) → (pack_picture rle w h room planes).answer ≡ counted n → n ≤ room
unfolding stop
pack_picture_within rle w h room planes n e = by_checks (check_pack w h planes) refl
  where
    raw : (m : ℕ) → check_pack w h planes ≡ counted m → rle ≡ false → n ≤ room
    raw m et eb =
        ⊎_elim
        (λ (fits : length (raw_body (w * h) planes) ≤ room).
        let all : counted (length (raw_body (w * h) planes)) ≡ counted n = sym (answer_cong (pack_picture_raw rle w h room m planes et eb fits)) ∙ e in
        let size : length (raw_body (w * h) planes) ≡ n = cc in
        omega arith)
        (λ (short : room < length (raw_body (w * h) planes)). refused_not_counted (sym (answer_cong (pack_picture_no_room rle w h room m planes et eb short)) ∙ e))
        (le_or_gt (length (raw_body (w * h) planes)) room)

    body : (m : ℕ) → check_pack w h planes ≡ counted m → (b : Bool) → rle ≡ b → n ≤ room
    body m et true eb = write_count_within (picture_segments w h planes) room n (sym e ∙ answer_cong (pack_picture_rle rle w h room m planes et eb))
    body m et false eb = raw m et eb

    by_checks : (a : Answer) → check_pack w h planes ≡ a → n ≤ room
    by_checks (refused r) et = refused_not_counted (sym (answer_cong (pack_picture_refused w h planes rle room r et)) ∙ e)
    by_checks (counted m) et = body m et rle refl

-- an RLE body has at most two bytes a sample
picture_segments-max : (w h : ℕ) (planes : List (List ℕ)) → length (segments_bytes (picture_segments w h planes)) ≤ length planes * (2 * (w * h))
unfolding picture_segments packing
picture_segments-max w h [] = omega arith
picture_segments-max w h (p ∷ planes) =
    let first : List Segment = plane_segments w h p in
    let rest : List Segment = picture_segments w h planes in
    omega (
      arith,
      ap length (segments_bytes-append first rest),
      length-append (segments_bytes first) (segments_bytes rest),
      packing_size_max w h p,
      picture_segments-max w h planes,
    )

-- so that a destination of that size does not get refusal 12
pub pack_picture_two_bytes_enough : (rle : Bool) (w h room n : ℕ) (planes : List (List ℕ)) → check_pack w h planes ≡ counted n → rle ≡ true
    → length planes * (2 * (w * h)) ≤ room
    → (pack_picture rle w h room planes).answer ≡ counted (length (segments_bytes (picture_segments w h planes)))
pack_picture_two_bytes_enough rle w h room n planes et eb enough =
    answer_cong (pack_picture_rle rle w h room n planes et eb)
    ∙ answer_cong (write_all (picture_segments w h planes) room (omega (arith, picture_segments-max w h planes)))
