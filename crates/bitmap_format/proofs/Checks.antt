-- The checks before a picture, one after the other, and what they leave.
use Prim.Native.Nat.{ℕ}
use mathlib.Core.Bool.{Bool, true, false, ◌||◌}
use mathlib.Core.Path.{◌≡◌, refl, ap}
use mathlib.Core.List.{List, [], ◌∷◌}
use lib.Dec.{ltb, eqb}
use Rattle.rle_format.specs.Choice.{choose}
use Rattle.rle_format.specs.Sides.{check_sides_of}
use Rattle.rle_format.specs.Answer.{Answer, counted, refused}
use Rattle.rle_format.proofs.Answer.{refused_not_counted}
use Rattle.rle_format.proofs.Sides.{are_sides_allowed}
use Rattle.bitmap_format.specs.Checks.{Check, first_refusal_of}

-- ---- a check that refuses, and one that passes

module _ (t : Check) (checks : List Check) (passed : Answer) where
  pub check_refuses : t.given ≡ true → first_refusal_of (t ∷ checks) passed ≡ refused t.number
  unfolding first_refusal_of
  check_refuses e = ap (λ (given : Bool). choose given (refused t.number) (first_refusal_of checks passed)) e

  pub check_passes : t.given ≡ false → first_refusal_of (t ∷ checks) passed ≡ first_refusal_of checks passed
  unfolding first_refusal_of
  check_passes e = rw e

pub no_checks : (passed : Answer) → first_refusal_of [] passed ≡ passed
unfolding first_refusal_of
no_checks passed = refl

-- ---- what holds where all passed

pub sides_passed : (w h n : ℕ) (answer : Answer) → check_sides_of refused w h answer ≡ counted n → (are_sides_allowed w h ≡ true) × (answer ≡ counted n)
unfolding check_sides_of
sides_passed w h n answer e = go (eqb w 0 || eqb h 0) (ltb 8192 w || ltb 8192 h) refl refl e
  where
    go : (s t : Bool) → (eqb w 0 || eqb h 0) ≡ s → (ltb 8192 w || ltb 8192 h) ≡ t → choose s (refused 1) (choose t (refused 2) answer) ≡ counted n
        → (choose (eqb w 0 || eqb h 0) false (choose (ltb 8192 w || ltb 8192 h) false true) ≡ true) × (answer ≡ counted n)
    go true t es et e = refused_not_counted e
    go false true es et e = refused_not_counted e
    go false false es et e = (rw (es, et) refl, e)

pub check_passed : (t : Check) (checks : List Check) (answer : Answer) (n : ℕ) → first_refusal_of (t ∷ checks) answer ≡ counted n → (t.given ≡ false) × (first_refusal_of checks answer ≡ counted n)
unfolding first_refusal_of
check_passed t checks answer n e = go t.given refl e
  where
    go : (b : Bool) → t.given ≡ b → choose b (refused t.number) (first_refusal_of checks answer) ≡ counted n → (t.given ≡ false) × (first_refusal_of checks answer ≡ counted n)
    go true eb e = refused_not_counted e
    go false eb e = (eb, e)
