-- What a caller of ValidSides::new learns from its answer.
use mathlib.Core.Path.{◌≡◌, refl, ap}
use mathlib.Core.Bool.{Bool, true, false, ◌||◌}
use Prim.Native.Nat.{ℕ}
use lib.Dec.{ltb, eqb}
use Rattle.std.specs.Prelude.{Result, Ok, Err}
use Rattle.rle_format.specs.Choice.{choose}
use Rattle.rle_format.specs.declared.Refusal.{Refusal}
use Rattle.rle_format.specs.declared.valid_sides.ValidSides.{ValidSides}
use Rattle.rle_format.specs.Answer.{number}
use Rattle.rle_format.specs.Sides.{check_sides_of}
use Rattle.rle_format.specs.CheckedSides.{sides_or_number}

module _ (w h : ℕ) where
  -- sides that pass are those that were given
  module _ (s : ValidSides) (e : sides_or_number (Ok s) ≡ check_sides_of (λ (n : ℕ). Err n) w h (Ok (w, h))) where
    pub sides_same : (s.width ≡ w) × (s.height ≡ h)
    unfolding check_sides_of
    sides_same = go (eqb w 0 || eqb h 0) (ltb 8192 w || ltb 8192 h) e
      where
        go : (a b : Bool) → ◌≡◌ {A = Result (ℕ × ℕ) ℕ} (Ok (s.width, s.height)) (choose a (Err 1) (choose b (Err 2) (Ok (w, h)))) → (s.width ≡ w) × (s.height ≡ h)
        go true b e = absurd cc
        go false true e = absurd cc
        go false false e = let p : ◌≡◌ {A = ℕ × ℕ} (s.width, s.height) (w, h) = cc in (ap (λ (q : ℕ × ℕ). q.0) p, ap (λ (q : ℕ × ℕ). q.1) p)

  -- sides that do not pass are refused by every function alike
  pub sides_refused {ℓ} : (r : Refusal) → sides_or_number (Err r) ≡ check_sides_of (λ (n : ℕ). Err n) w h (Ok (w, h)) → {A : Type ℓ} (refuse : ℕ → A) (inside : A) → check_sides_of refuse w h inside ≡ refuse (number r)
  unfolding check_sides_of
  sides_refused r e refuse inside = go (eqb w 0 || eqb h 0) (ltb 8192 w || ltb 8192 h) e
    where
      go : (a b : Bool) → ◌≡◌ {A = Result (ℕ × ℕ) ℕ} (Err (number r)) (choose a (Err 1) (choose b (Err 2) (Ok (w, h)))) → choose a (refuse 1) (choose b (refuse 2) inside) ≡ refuse (number r)
      go true b e = let z : 1 ≡ number r = cc in ap refuse z
      go false true e = let z : 2 ≡ number r = cc in ap refuse z
      go false false e = absurd cc

  -- and sides that pass, by none
  pub sides_pass {ℓ} : (s : ValidSides) → sides_or_number (Ok s) ≡ check_sides_of (λ (n : ℕ). Err n) w h (Ok (w, h)) → {A : Type ℓ} (refuse : ℕ → A) (inside : A) → check_sides_of refuse w h inside ≡ inside
  unfolding check_sides_of
  sides_pass s e refuse inside = go (eqb w 0 || eqb h 0) (ltb 8192 w || ltb 8192 h) e
    where
      go : (a b : Bool) → ◌≡◌ {A = Result (ℕ × ℕ) ℕ} (Ok (s.width, s.height)) (choose a (Err 1) (choose b (Err 2) (Ok (w, h)))) → choose a (refuse 1) (choose b (refuse 2) inside) ≡ inside
      go true b e = absurd cc
      go false true e = absurd cc
      go false false e = refl
