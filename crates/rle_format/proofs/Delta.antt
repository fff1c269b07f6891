-- The delta code is undone over all pairs of bytes; and laws of the columns of two rows.
use mathlib.Core.Path.{◌≡◌, refl, ap}
use mathlib.Core.Bool.{Bool, true, false}
use mathlib.Core.List.{List, [], ◌∷◌}
use Prim.Native.Nat.{ℕ, zero, suc, ◌+◌, ◌-◌, ◌*◌, ◌/◌, ◌%◌, ◌≤◌, ◌<◌}
use native.Mathlib.Omega.{arith}
use borrow.Author.Tests.{ltb-true, ltb-false, lt-ltb, le-ltb, eq-eqb, ne_eqb}
use lib.Dec.{ltb}
use lib.ListN.{length, get_or}
use Rattle.rle_format.specs.Choice.{choose}
use Rattle.rle_format.specs.Delta.{difference, delta_code, difference_from_code, undo_delta, zip_with}

-- d comes back from its code
difference_from_code_code : (d : ℕ) → d < 256 → difference_from_code (choose (ltb d 128) (2 * d) (2 * (255 - d) + 1)) ≡ d
unfolding difference_from_code
difference_from_code_code d h = go (ltb d 128) refl
  where
    go : (t : Bool) → ltb d 128 ≡ t → difference_from_code (choose t (2 * d) (2 * (255 - d) + 1)) ≡ d
    go true e = let l : d < 128 = ltb-true d 128 e in simp (eq-eqb (2 * d % 2) 0 (omega arith)) (omega arith)
    go false e =
        let l : 128 ≤ d = ltb-false d 128 e in
        simp (ne_eqb ((2 * (255 - d) + 1) % 2) 0 (omega arith)) (omega arith)

-- the round trip, over all pairs of bytes
pub undo_delta-delta_code : (above value : ℕ) → above < 256 → value < 256 → undo_delta above (delta_code above value) ≡ value
unfolding undo_delta delta_code difference
undo_delta-delta_code above value ha hv = rw (difference_from_code_code ((value + 256 - above) % 256) (omega arith)) (omega arith)

-- the difference, by the wrapping subtraction: what is added to the sample above to get the sample
difference_unique : (above value d : ℕ) → above < 256 → d < 256 → (d + above) % 256 ≡ value → difference above value ≡ d
unfolding difference
difference_unique above value d h k e = omega arith

-- and its code
pub delta_code_small : (above value d : ℕ) → above < 256 → d < 256 → (d + above) % 256 ≡ value → d < 128 → 2 * d ≡ delta_code above value
unfolding delta_code
delta_code_small above value d h k e l = rw (difference_unique above value d h k e, lt-ltb d 128 l)

pub delta_code_large : (above value d : ℕ) → above < 256 → d < 256 → (d + above) % 256 ≡ value → 128 ≤ d → 2 * (255 - d) + 1 ≡ delta_code above value
unfolding delta_code
delta_code_large above value d h k e l = rw (difference_unique above value d h k e, le-ltb d 128 l)

-- of an odd code c, 255 − (c − 1)/2 is 255 − c/2: the form that the compiler vectorises
pub difference_from_code_odd : (code : ℕ) → (code % 2 ≡ 0 → ⊥) → 255 - code / 2 ≡ difference_from_code code
unfolding difference_from_code
difference_from_code_odd code h = simp (ne_eqb (code % 2) 0 h) (omega arith)

pub difference_from_code_even : (code : ℕ) → code % 2 ≡ 0 → code / 2 ≡ difference_from_code code
unfolding difference_from_code
difference_from_code_even code h = simp (eq-eqb (code % 2) 0 h)

-- ---- two rows, column by column

pub length_zip_with : (f : ℕ → ℕ → ℕ) (xs ys : List ℕ) → length xs ≡ length ys → length (zip_with f xs ys) ≡ length ys
length_zip_with f [] [] e = refl
length_zip_with f [] (y ∷ ys) e = absurd (omega arith)
length_zip_with f (x ∷ xs) [] e = refl
length_zip_with f (x ∷ xs) (y ∷ ys) e = ap suc (length_zip_with f xs ys (omega arith))

pub get_or_zip_with : (f : ℕ → ℕ → ℕ) (xs ys : List ℕ) (i : ℕ) → i < length xs → i < length ys → get_or (zip_with f xs ys) i 0 ≡ f (get_or xs i 0) (get_or ys i 0)
get_or_zip_with f [] ys i h k = absurd (omega arith)
get_or_zip_with f (x ∷ xs) [] i h k = absurd (omega arith)
get_or_zip_with f (x ∷ xs) (y ∷ ys) zero h k = refl
get_or_zip_with f (x ∷ xs) (y ∷ ys) (suc i) h k = get_or_zip_with f xs ys i (omega arith) (omega arith)
