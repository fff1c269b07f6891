-- A size by the sides, once `ValidSides::new` has checked them: 0 if they are refused.
use mathlib.Core.Path.{◌≡◌, sym, ap, ◌∙◌}
use Prim.Native.Nat.{ℕ}
use Rattle.std.specs.Prelude.{Result, Ok, Err}
use Rattle.rle_format.specs.declared.Refusal.{Refusal}
use Rattle.rle_format.specs.declared.valid_sides.ValidSides.{ValidSides}
use Rattle.rle_format.specs.Sides.{check_sides_of, AllowedSides}
use Rattle.rle_format.specs.CheckedSides.{sides_or_number}
use Rattle.rle_format.proofs.Sides.{check_sides_passes}
use Rattle.rle_format.proofs.CheckedSides.{sides_same, sides_refused}

module _ (w h : ℕ) (r : Result ValidSides Refusal) (checked : sides_or_number r ≡ check_sides_of (λ (n : ℕ). Err n) w h (Ok (w, h))) where
  pub no_size : (k : Refusal) → r ≡ Err k → (size : ℕ) → 0 ≡ check_sides_of (λ (_ : ℕ). 0) w h size
  no_size k e size = sym (sides_refused w h k (ap sides_or_number (sym e) ∙ checked) (λ (_ : ℕ). 0) size)

  pub has_size : (s : ValidSides) → r ≡ Ok s → (size : ℕ → ℕ → ℕ) (n : ℕ) → n ≡ size s.width s.height → n ≡ check_sides_of (λ (_ : ℕ). 0) w h (size w h)
  has_size s e size n en =
      let same = sides_same w h s (ap sides_or_number (sym e) ∙ checked) in
      let allowed : AllowedSides w h = (rw (sym same.0, sym same.1) s.allowed) in
      en ∙ (λ i. size (same.0 i) (same.1 i)) ∙ sym (check_sides_passes (λ (_ : ℕ). 0) w h (size w h) allowed)
