-- The rows of a plane's samples: their length, their coded values, and that these give the samples back.
use mathlib.Core.Path.{◌≡◌, refl, sym, ap₂, ◌∙◌}
use mathlib.Core.List.{List, [], ◌∷◌}
use mathlib.Core.Option.{Option, none, some}
use Prim.Native.Nat.{ℕ, zero, suc, ◌+◌, ◌*◌, ◌≤◌, ◌<◌}
use native.Mathlib.Nat.{suc-mul}
use native.Mathlib.Omega.{arith}
use lib.ListN.{length, take, drop, get_or}
use lib.Seq.{get_or-drop}
use Rattle.rle_format.specs.Delta.{delta_code, undo_delta, zip_with, restore_row_of}
use Rattle.rle_format.specs.Pack.{row_at, codes_at}
use Rattle.rle_format.proofs.Delta.{undo_delta-delta_code}
use Rattle.rle_format.proofs.RowAt.{length_row_at}

-- the row above row r, if there is one
abbrev pub above_at : (width : ℕ) (samples : List ℕ) (r : ℕ) → Option (List ℕ)
above_at width samples zero = none
above_at width samples (suc r) = some (row_at width samples r)

zip_with_restores : (above row : List ℕ) → length above ≡ length row → ((i : ℕ) → get_or above i 0 < 256) → ((i : ℕ) → get_or row i 0 < 256)
    → zip_with undo_delta above (zip_with delta_code above row) ≡ row
zip_with_restores [] [] e h k = refl
zip_with_restores [] (y ∷ ys) e h k = absurd (omega arith)
zip_with_restores (x ∷ xs) [] e h k = refl
zip_with_restores (x ∷ xs) (y ∷ ys) e h k =
    ap₂ {C = List ℕ} (λ v vs. v ∷ vs) (undo_delta-delta_code x y (h 0) (k 0)) (zip_with_restores xs ys (omega arith) (λ i. h (suc i)) (λ i. k (suc i)))

take_bytes : (n : ℕ) (l : List ℕ) → ((i : ℕ) → get_or l i 0 < 256) → (i : ℕ) → get_or (take n l) i 0 < 256
take_bytes zero l h i = omega arith
take_bytes (suc n) [] h i = omega arith
take_bytes (suc n) (x ∷ xs) h zero = h 0
take_bytes (suc n) (x ∷ xs) h (suc i) = take_bytes n xs (λ j. h (suc j)) i

module _ (width : ℕ) (samples : List ℕ) where
  module _ (are_bytes : (i : ℕ) → get_or samples i 0 < 256) where
    row_at_bytes : (r i : ℕ) → get_or (row_at width samples r) i 0 < 256
    unfolding row_at
    row_at_bytes r = take_bytes width (drop (r * width) samples) (λ i. rw (get_or-drop (r * width) samples i 0) (are_bytes (r * width + i)))

    -- the coded values of a row, undone by the row above, are its samples
    pub restore_codes : (r : ℕ) → suc r * width ≤ length samples → restore_row_of (above_at width samples r) (codes_at width samples r) ≡ row_at width samples r
    unfolding codes_at
    restore_codes zero h = refl
    restore_codes (suc r) h =
        let upper = length_row_at width samples r (omega (arith, suc-mul (suc r) width)) in
        zip_with_restores (row_at width samples r) (row_at width samples (suc r)) (upper ∙ sym (length_row_at width samples (suc r) h)) (row_at_bytes r) (row_at_bytes (suc r))
