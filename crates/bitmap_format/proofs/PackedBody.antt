-- What a packer of pictures has written if it answers a number of bytes: the complete body.
use mathlib.Core.Path.{◌≡◌, refl, sym, ap, ◌∙◌}
use mathlib.Core.Logic.{⊎_elim}
use mathlib.Core.Bool.{Bool, true, false}
use mathlib.Core.List.{List}
use Prim.Native.Nat.{ℕ, ◌*◌, ◌≤◌, ◌<◌}
use lib.ListN.{length}
use Rattle.rle_format.specs.Answer.{Answer, counted, refused, Outcome, stop}
use Rattle.rle_format.specs.Segment.{segments_bytes}
use Rattle.rle_format.proofs.Answer.{refused_not_counted}
use Rattle.rle_format.proofs.Cases.{le_or_gt}
use Rattle.rle_format.proofs.Outcome.{answer_cong}
use Rattle.rle_format.specs.Sides.{AllowedSides}
use Rattle.rle_format.proofs.Writing.{write_all, write_refused}
use Rattle.bitmap_format.specs.PackPicture.{picture_segments, raw_body, any_short, check_pack, pack_picture}
use Rattle.bitmap_format.proofs.PackPicture.{pack_checked, pack_picture_refused, pack_picture_rle, pack_picture_raw, pack_picture_no_room}

-- the body, RLE or raw
abbrev pub body_of : (rle : Bool) (w h : ℕ) (planes : List (List ℕ)) → List ℕ
body_of true w h planes = segments_bytes (picture_segments w h planes)
body_of false w h planes = raw_body (w * h) planes

pub record PackedBody (rle : Bool) (w h room n : ℕ) (planes : List (List ℕ)) : Type 0 where
  pub sides : AllowedSides w h
  pub long : any_short (w * h) planes ≡ false
  pub size : n ≡ length (body_of rle w h planes)
  pub whole : (pack_picture rle w h room planes).written ≡ body_of rle w h planes

-- the sides and the sources passed the checks, and all of the body fitted
pub packed_body : (rle : Bool) (w h room n : ℕ) (planes : List (List ℕ)) → (pack_picture rle w h room planes).answer ≡ counted n → PackedBody rle w h room n planes
unfolding stop
packed_body rle w h room n planes e = by_checks (check_pack w h planes) refl
  where
    all : (rle : Bool) (m : ℕ) → check_pack w h planes ≡ counted m → (pack_picture rle w h room planes).answer ≡ counted n
        → pack_picture rle w h room planes ≡ record { written = body_of rle w h planes; answer = counted (length (body_of rle w h planes)) } → PackedBody rle w h room n planes
    all rle m et e is =
        let t = pack_checked w h planes m et in
        let same : counted n ≡ counted (length (body_of rle w h planes)) = sym e ∙ answer_cong is in
        record { sides = t.sides; long = t.long; size = cc; whole = ap (λ (o : Outcome). o.written) is }

    body : (rle : Bool) (m : ℕ) → check_pack w h planes ≡ counted m → (pack_picture rle w h room planes).answer ≡ counted n → PackedBody rle w h room n planes
    body true m et e =
        let ss = picture_segments w h planes in
        let is = pack_picture_rle true w h room m planes et refl in
        ⊎_elim
        (λ (fits : length (segments_bytes ss) ≤ room). all true m et e (is ∙ write_all ss room fits))
        (λ (short : room < length (segments_bytes ss)). refused_not_counted (sym (answer_cong is ∙ write_refused ss room short) ∙ e))
        (le_or_gt (length (segments_bytes ss)) room)
    body false m et e =
        ⊎_elim
        (λ (fits : length (raw_body (w * h) planes) ≤ room). all false m et e (pack_picture_raw false w h room m planes et refl fits))
        (λ (short : room < length (raw_body (w * h) planes)). refused_not_counted (sym (answer_cong (pack_picture_no_room false w h room m planes et refl short)) ∙ e))
        (le_or_gt (length (raw_body (w * h) planes)) room)

    by_checks : (a : Answer) → check_pack w h planes ≡ a → PackedBody rle w h room n planes
    by_checks (refused k) et = refused_not_counted (sym (answer_cong (pack_picture_refused w h planes rle room k et)) ∙ e)
    by_checks (counted m) et = body rle m et e
