-- A packer of pictures without any room: refusals 1, 2 and 11 as always, and else 12, since every body has a byte.
use mathlib.Core.Path.{◌≡◌, refl, sym, ap, ◌∙◌}
use mathlib.Core.Bool.{Bool, true, false}
use mathlib.Core.List.{List, ◌∷◌}
use Prim.Native.Nat.{ℕ, ◌+◌, ◌*◌, ◌/◌, ◌≤◌, ◌<◌}
use native.Mathlib.Nat.{mul-le-mul}
use native.Mathlib.Omega.{arith}
use lib.ListN.{length, length-append}
use Rattle.rle_format.specs.Answer.{Answer, counted, refused, stop}
use Rattle.rle_format.specs.Segment.{Segment, segments_bytes}
use Rattle.rle_format.specs.Pack.{plane_segments, packing}
use Rattle.rle_format.proofs.Outcome.{answer_cong}
use Rattle.rle_format.specs.Sides.{AllowedSides}
use Rattle.rle_format.proofs.Segments.{segments_bytes-append}
use Rattle.rle_format.proofs.Writing.{write_refused}
use Rattle.rle_format.proofs.PackingSize.{packing_size_min}
use Rattle.bitmap_format.specs.PackPicture.{picture_segments, check_pack, pack_picture}
use Rattle.bitmap_format.specs.Stream.{empty_destination}
use Rattle.bitmap_format.proofs.PackPicture.{first_long_enough, length-raw_body, pack_checked, pack_picture_refused, pack_picture_rle, pack_picture_no_room}

some_segments : (w h : ℕ) (p : List ℕ) (planes : List (List ℕ)) → AllowedSides w h → w * h ≤ length p → 0 < length (segments_bytes (picture_segments w h (p ∷ planes)))
unfolding picture_segments packing
some_segments w h p planes s l =
    let some : (n : ℕ) → (n ≡ 0 → ⊥) → 1 ≤ n = λ (n : ℕ) (z : n ≡ 0 → ⊥). omega arith in
    let w1 : 1 ≤ w = some w s.some_width in
    let h1 : 1 ≤ h = some h s.some_height in
    let c1 : 1 ≤ (w + 46) / 47 = omega arith in
    let m : 1 * 1 ≤ h * ((w + 46) / 47) = mul-le-mul h1 c1 in
    let min = packing_size_min w h p l in
    omega (
      arith,
      ap length (segments_bytes-append (plane_segments w h p) (picture_segments w h planes)),
      length-append (segments_bytes (plane_segments w h p)) (segments_bytes (picture_segments w h planes)),
    )

module _ (w h : ℕ) (p : List ℕ) (planes : List (List ℕ)) where
  checked_no_room : (rle : Bool) (n : ℕ) → check_pack w h (p ∷ planes) ≡ counted n → (pack_picture rle w h 0 (p ∷ planes)).answer ≡ refused 12
  unfolding stop
  checked_no_room true n et =
      let t = pack_checked w h (p ∷ planes) n et in
      let ss : List Segment = picture_segments w h (p ∷ planes) in
      answer_cong (pack_picture_rle true w h 0 n (p ∷ planes) et refl)
      ∙ write_refused ss 0 (some_segments w h p planes t.sides (first_long_enough (w * h) p planes t.long))
  checked_no_room false n et =
      let t = pack_checked w h (p ∷ planes) n et in
      answer_cong (pack_picture_no_room false w h 0 n (p ∷ planes) et refl (omega (arith, length-raw_body (w * h) (p ∷ planes) t.long)))

  pub no_room : (rle : Bool) → (pack_picture rle w h 0 (p ∷ planes)).answer ≡ empty_destination (check_pack w h (p ∷ planes))
  unfolding stop
  no_room rle = by_checks (check_pack w h (p ∷ planes)) refl
    where
      by_checks : (a : Answer) → check_pack w h (p ∷ planes) ≡ a → (pack_picture rle w h 0 (p ∷ planes)).answer ≡ empty_destination (check_pack w h (p ∷ planes))
      by_checks (refused r) et = answer_cong (pack_picture_refused w h (p ∷ planes) rle 0 r et) ∙ sym (ap empty_destination et)
      by_checks (counted n) et = checked_no_room rle n et ∙ sym (ap empty_destination et)
