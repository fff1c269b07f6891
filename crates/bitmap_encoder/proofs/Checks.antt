-- The checks of a packer: sides, and whether a plane is short.
use mathlib.Core.Path.{◌≡◌, refl, ap, ◌∙◌}
use mathlib.Core.Bool.{true, false}
use mathlib.Core.List.{List, [], ◌∷◌, map}
use Prim.Native.Nat.{ℕ, ◌+◌, ◌*◌, ◌≤◌, ◌<◌}
use native.Mathlib.Omega.{arith}
use lib.ListN.{length, drop, get_or, drop_of_length-le}
use Rattle.std.proofs.lemmas.List.{at_drop_more}
use borrow.Author.Tests.{lt-ltb, le-ltb}
use Rattle.std.specs.Prelude.{Ok, Err}
use Rattle.rle_format.specs.declared.Refusal.{Refusal}
use Rattle.rle_format.specs.declared.valid_sides.ValidSides.{ValidSides}
use Rattle.rle_format.specs.Answer.{counted, refused, number}
use Rattle.rle_format.specs.Sides.{check_sides_of, AllowedSides}
use Rattle.rle_format.specs.CheckedSides.{sides_or_number}
use Rattle.rle_format.proofs.Sides.{check_sides_passes}
use Rattle.rle_format.proofs.CheckedSides.{sides_refused}
use Rattle.pixel_format.specs.declared.samples.Samples.{Samples}
use Rattle.pixel_format.specs.Samples.{samples_in}
use Rattle.bitmap_format.specs.Checks.{check, first_refusal_of}
use Rattle.bitmap_format.specs.PackPicture.{any_short, pack_checks, check_pack}
use Rattle.bitmap_format.proofs.Checks.{check_refuses, check_passes, no_checks}

-- ---- planes one after the other: `count` samples are in plane i

module _ (n : ℕ) (planes : List Samples) (i count : ℕ) (d : Samples) (within : i < length planes) (is : count ≡ length (samples_in (get_or planes i d))) where
  split : any_short n (map samples_in (drop i planes)) ≡ any_short n (samples_in (get_or planes i d) ∷ map samples_in (drop (i + 1) planes))
  split = at_drop_more (λ (rest : List Samples). any_short n (map samples_in rest)) planes i d within

  pub short_at : count < n → any_short n (map samples_in (drop i planes)) ≡ true
  unfolding any_short
  short_at l = split ∙ rw (lt-ltb (length (samples_in (get_or planes i d))) n (omega arith)) refl

  pub short_behind : n ≤ count → any_short n (map samples_in (drop i planes)) ≡ any_short n (map samples_in (drop (i + 1) planes))
  unfolding any_short
  short_behind l = split ∙ rw (le-ltb (length (samples_in (get_or planes i d))) n (omega arith)) refl

pub none_short : (n : ℕ) (planes : List Samples) (i : ℕ) → length planes ≤ i → any_short n (map samples_in (drop i planes)) ≡ false
unfolding any_short
none_short n planes i l = ap (λ (rest : List Samples). any_short n (map samples_in rest)) (drop_of_length-le planes {i = i} l)

-- ---- the answer of the checks

module _ (w h : ℕ) (planes : List (List ℕ)) where
  pub pack_sides_refused : (r : Refusal) → sides_or_number (Err r) ≡ check_sides_of (λ (n : ℕ). Err n) w h (Ok (w, h)) → check_pack w h planes ≡ refused (number r)
  unfolding check_pack
  pack_sides_refused r e = sides_refused w h r e refused (first_refusal_of (pack_checks (w * h) planes) (counted (w * h)))

  module _ (s : ValidSides) (same : (s.width ≡ w) × (s.height ≡ h)) where
    allowed : AllowedSides w h
    allowed = record {
      some_width = λ (z : w ≡ 0). s.allowed.some_width (same.0 ∙ z);
      some_height = λ (z : h ≡ 0). s.allowed.some_height (same.1 ∙ z);
      wide = omega (arith, s.allowed.wide, same.0);
      high = omega (arith, s.allowed.high, same.1);
    }

    pub same_area : s.width * s.height ≡ w * h
    same_area = λ i. same.0 i * same.1 i

    pub pack_short : any_short (w * h) planes ≡ true → check_pack w h planes ≡ refused 11
    unfolding check_pack
    pack_short e = check_sides_passes refused w h _ allowed ∙ check_refuses (check 11 (any_short (w * h) planes)) [] (counted (w * h)) e

    pub pack_passes : any_short (w * h) planes ≡ false → check_pack w h planes ≡ counted (w * h)
    unfolding check_pack
    pack_passes e =
        check_sides_passes refused w h _ allowed ∙ check_passes (check 11 (any_short (w * h) planes)) [] (counted (w * h)) e ∙ no_checks (counted (w * h))
