-- The checks of the sides, one after the other.
use mathlib.Core.Path.{◌≡◌, refl}
use mathlib.Core.Bool.{Bool, true, false, ◌||◌}
use Prim.Native.Nat.{ℕ, ◌≤◌, ◌<◌}
use native.Mathlib.Omega.{arith}
use lib.Dec.{ltb, eqb}
use borrow.Author.Tests.{lt-ltb, le-ltb, eq-eqb, ne_eqb, eqb-false, ltb-false}
use Rattle.rle_format.specs.Choice.{choose}
use Rattle.rle_format.specs.Sides.{check_sides_of, AllowedSides}

module _ {ℓ} {A : Type ℓ} (refuse : ℕ → A) (w h : ℕ) (inside : A) where
  pub zero_width : w ≡ 0 → check_sides_of refuse w h inside ≡ refuse 1
  unfolding check_sides_of
  zero_width e = simp (eq-eqb w 0 e)

  module _ (hw : w ≡ 0 → ⊥) where
    pub zero_height : h ≡ 0 → check_sides_of refuse w h inside ≡ refuse 1
    unfolding check_sides_of
    zero_height e = simp (ne_eqb w 0 hw, eq-eqb h 0 e)

    module _ (hh : h ≡ 0 → ⊥) where
      pub too_wide : 8192 < w → check_sides_of refuse w h inside ≡ refuse 2
      unfolding check_sides_of
      too_wide l = simp (ne_eqb w 0 hw, ne_eqb h 0 hh, lt-ltb 8192 w l)

      module _ (lw : w ≤ 8192) where
        pub too_high : 8192 < h → check_sides_of refuse w h inside ≡ refuse 2
        unfolding check_sides_of
        too_high l = simp (ne_eqb w 0 hw, ne_eqb h 0 hh, le-ltb 8192 w lw, lt-ltb 8192 h l)

        pub sides_allowed : h ≤ 8192 → check_sides_of refuse w h inside ≡ inside
        unfolding check_sides_of
        sides_allowed lh = simp (ne_eqb w 0 hw, ne_eqb h 0 hh, le-ltb 8192 w lw, le-ltb 8192 h lh)

-- the checks as a Bool
abbrev pub are_sides_allowed : (w h : ℕ) → Bool
are_sides_allowed w h = check_sides_of (λ (_ : ℕ). false) w h true

pub allowed_sides : (w h : ℕ) → are_sides_allowed w h ≡ true → AllowedSides w h
unfolding check_sides_of
allowed_sides w h e = go (eqb w 0) (eqb h 0) (ltb 8192 w) (ltb 8192 h) refl refl refl refl e
  where
    go : (a b c d : Bool) → eqb w 0 ≡ a → eqb h 0 ≡ b → ltb 8192 w ≡ c → ltb 8192 h ≡ d → choose (a || b) false (choose (c || d) false true) ≡ true → AllowedSides w h
    go true b c d ea eb ec ed e = let z : ◌≡◌ {A = ℕ} 0 1 = cc in absurd (omega arith)
    go false true c d ea eb ec ed e = let z : ◌≡◌ {A = ℕ} 0 1 = cc in absurd (omega arith)
    go false false true d ea eb ec ed e = let z : ◌≡◌ {A = ℕ} 0 1 = cc in absurd (omega arith)
    go false false false true ea eb ec ed e = let z : ◌≡◌ {A = ℕ} 0 1 = cc in absurd (omega arith)
    go false false false false ea eb ec ed e =
        record { some_width = eqb-false w 0 ea; some_height = eqb-false h 0 eb; wide = ltb-false 8192 w ec; high = ltb-false 8192 h ed }

-- they pass
pub check_sides_passes {ℓ} : {A : Type ℓ} (refuse : ℕ → A) (w h : ℕ) (inside : A) → AllowedSides w h → check_sides_of refuse w h inside ≡ inside
check_sides_passes refuse w h inside p = sides_allowed refuse w h inside p.some_width p.some_height p.wide p.high

-- sides that fail are refused, whatever the result of a refusal is
pub check_sides_refuses {ℓ} : {A : Type ℓ} (refusal : A) (w h : ℕ) (inside : A) → are_sides_allowed w h ≡ false → check_sides_of (λ (_ : ℕ). refusal) w h inside ≡ refusal
unfolding check_sides_of
check_sides_refuses refusal w h inside e = go (eqb w 0 || eqb h 0) (ltb 8192 w || ltb 8192 h) e
  where
    go : (s t : Bool) → choose s false (choose t false true) ≡ false → choose s refusal (choose t refusal inside) ≡ refusal
    go true t e = refl
    go false true e = refl
    go false false e = let z : ◌≡◌ {A = ℕ} 0 1 = cc in absurd (omega arith)
