-- The RLE body, one plane behind the other.
use mathlib.Core.Path.{◌≡◌, refl, sym, ap, ◌∙◌}
use mathlib.Core.Bool.{false}
use mathlib.Core.List.{List, [], ◌∷◌, ◌++◌, map}
use Prim.Native.Nat.{ℕ, ◌+◌, ◌*◌, ◌-◌, ◌≤◌, ◌<◌}
use native.Mathlib.Omega.{arith}
use lib.ListN.{length, drop, get_or, drop_of_length-le}
use Rattle.std.proofs.lemmas.List.{at_drop_more}
use Rattle.std.specs.Prelude.{Result, Ok, Err}
use Rattle.rle_format.specs.declared.Refusal.{Refusal}
use Rattle.rle_format.specs.Answer.{Outcome, to_answer}
use Rattle.rle_format.specs.Slice.{overwrite}
use Rattle.rle_format.specs.Segment.{Segment}
use Rattle.rle_format.specs.Pack.{plane_segments, write_segments, pack_plane}
use Rattle.rle_format.proofs.Outcome.{answer_cong}
use Rattle.rle_format.specs.Sides.{AllowedSides}
use Rattle.rle_format.proofs.PackPlane.{pack_segments}
use Rattle.rle_format.proofs.Slice.{suffix, replace_suffix}
use Rattle.rle_format.proofs.WriteLoop.{Wrote, WriteInvariant, write_next, write_stop, part_refused, part_written, part_within}
use Rattle.pixel_format.specs.declared.samples.Samples.{Samples}
use Rattle.pixel_format.specs.Samples.{samples_in}
use Rattle.bitmap_format.specs.PackPicture.{picture_segments, any_short}
use Rattle.bitmap_format.proofs.PackPicture.{first_long_enough, rest_long_enough}

-- a plane that was packed into the part of d from `at` on: its segments were written there
module _ (w h : ℕ) (s d ys : List ℕ) (at : ℕ) (r : Result ℕ Refusal) (sides : AllowedSides w h) (long : w * h ≤ length s)
    (answered : to_answer r ≡ (pack_plane w h (length (suffix d at)) s).answer) (left : ys ≡ overwrite (suffix d at) (pack_plane w h (length (suffix d at)) s).written) where
  packed : pack_plane w h (length (suffix d at)) s ≡ write_segments (plane_segments w h s) (length (suffix d at))
  packed = pack_segments w h (length (suffix d at)) s sides.some_width sides.some_height sides.wide sides.high long

  segments_answer : to_answer r ≡ (write_segments (plane_segments w h s) (length (suffix d at))).answer
  segments_answer = answered ∙ answer_cong packed

  segments_left : ys ≡ overwrite (suffix d at) (write_segments (plane_segments w h s) (length (suffix d at))).written
  segments_left = left ∙ ap (λ (o : Outcome). overwrite (suffix d at) o.written) packed

  pub plane_refused : (k : Refusal) → r ≡ Err k → Wrote (plane_segments w h s) d (replace_suffix d at ys) at r
  plane_refused = part_refused (plane_segments w h s) d ys at r segments_answer segments_left

  pub plane_written : (n : ℕ) → r ≡ Ok n → Wrote (plane_segments w h s) d (replace_suffix d at ys) at (Ok (at + n))
  plane_written = part_written (plane_segments w h s) d ys at r segments_answer segments_left

  pub plane_within : (n : ℕ) → r ≡ Ok n → n ≤ length d - at
  plane_within = part_within (plane_segments w h s) d ys at r segments_answer segments_left

-- ---- planes one behind the other

planes_first : (w h : ℕ) (p : List ℕ) (planes : List (List ℕ)) → picture_segments w h (p ∷ planes) ≡ plane_segments w h p ++ picture_segments w h planes
unfolding picture_segments
planes_first w h p planes = refl

module _ {whole : List Segment} {d now : List ℕ} {at to : ℕ} (w h : ℕ) (p : List ℕ) (then : List ℕ) (r : Result ℕ Refusal) (wrote : Wrote (plane_segments w h p) now then to r) where
  -- the next plane fits, and others are left
  pub planes_step : (planes : List (List ℕ)) → WriteInvariant whole (picture_segments w h (p ∷ planes)) d now at to → (next : ℕ) → r ≡ Ok next
      → WriteInvariant whole (picture_segments w h planes) d then at next
  planes_step planes head next e = write_next head (plane_segments w h p) (picture_segments w h planes) then r next (planes_first w h p planes) wrote e

  -- it does not
  pub planes_refused : (planes : List (List ℕ)) → WriteInvariant whole (picture_segments w h (p ∷ planes)) d now at to → (k : Refusal) → r ≡ Err k → Wrote whole d then at r
  planes_refused planes head k e = write_stop head (plane_segments w h p) (picture_segments w h planes) then r k (planes_first w h p planes) wrote e

-- ---- the planes of a loop, from plane i on; `samples` are those of plane i

module _ (w h : ℕ) (planes : List Samples) (i : ℕ) (d : Samples) (within : i < length planes) where
  pub segments_split : picture_segments w h (map samples_in (drop i planes))
      ≡ picture_segments w h (samples_in (get_or planes i d) ∷ map samples_in (drop (i + 1) planes))
  segments_split = at_drop_more (λ (rest : List Samples). picture_segments w h (map samples_in rest)) planes i d within

  pub long_enough : any_short (w * h) (map samples_in (drop i planes)) ≡ false → w * h ≤ length (samples_in (get_or planes i d))
  long_enough e =
      first_long_enough (w * h) (samples_in (get_or planes i d)) (map samples_in (drop (i + 1) planes))
      (sym (at_drop_more (λ (rest : List Samples). any_short (w * h) (map samples_in rest)) planes i d within) ∙ e)

pub rest_long_enough_behind : (n : ℕ) (planes : List Samples) (i : ℕ) → i < length planes → any_short n (map samples_in (drop i planes)) ≡ false
    → any_short n (map samples_in (drop (i + 1) planes)) ≡ false
rest_long_enough_behind n [] i l e = absurd (omega (arith, l))
rest_long_enough_behind n (p ∷ ps) i l e =
    rest_long_enough n (samples_in (get_or (p ∷ ps) i p)) (map samples_in (drop (i + 1) (p ∷ ps)))
    (sym (at_drop_more (λ (rest : List Samples). any_short n (map samples_in rest)) (p ∷ ps) i p l) ∙ e)

pub no_segments : (w h : ℕ) (planes : List Samples) (i : ℕ) → length planes ≤ i → picture_segments w h (map samples_in (drop i planes)) ≡ []
unfolding picture_segments
no_segments w h planes i l = ap (λ (rest : List Samples). picture_segments w h (map samples_in rest)) (drop_of_length-le planes {i = i} l)
