-- Refusals 1 and 2, which every function checks first (FORMAT 8.1).
use Rattle.std.specs.Prelude.{◌≡◌, ℕ, ◌≤◌, ◌||◌, ltb, eqb}
use Rattle.rle_format.specs.Choice.{choose}

-- `refuse` makes the result from the number of the refusal; `inside` is the result if both checks pass
unfoldable pub check_sides_of {ℓ} : {A : Type ℓ} (refuse : ℕ → A) (width height : ℕ) (inside : A) → A
check_sides_of refuse width height inside =
    choose (eqb width 0 || eqb height 0)
    (refuse 1)
    (choose (ltb 8192 width || ltb 8192 height) (refuse 2) inside)

-- sides that pass both checks. Only contracts of inner functions use this; it is what `check_sides_of` lets through (proofs/Sides.antt:
-- allowed_sides, check_sides_passes)
pub record AllowedSides (width height : ℕ) : Type 0 where
  pub some_width : width ≡ 0 → ⊥
  pub some_height : height ≡ 0 → ⊥
  pub wide : width ≤ 8192
  pub high : height ≤ 8192
