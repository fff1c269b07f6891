-- A row of a plane depends only on the samples up to its end. A row, and its coded values, have the length of the width.
use mathlib.Core.Path.{◌≡◌, sym, ap, ◌∙◌}
use mathlib.Core.List.{List, ◌++◌}
use Prim.Native.Nat.{ℕ, zero, suc, ◌+◌, ◌*◌, ◌≤◌}
use native.Mathlib.Nat.{suc-mul}
use native.Mathlib.Omega.{arith}
use lib.ListN.{length, take, drop, length-take, length-drop}
use lib.Seq.{take-append-le, take-take, length-take-le}
use Rattle.rle_format.specs.Delta.{delta_code}
use Rattle.rle_format.specs.Pack.{row_at, codes_at}
use Rattle.rle_format.proofs.Slice.{take-drop_swap}
use Rattle.rle_format.proofs.Delta.{length_zip_with}

-- a row within the first n samples is the same in every list that begins with these
pub row_at_prefix : (width r n : ℕ) (samples rest : List ℕ) → suc r * width ≤ n → n ≤ length samples → row_at width (take n samples ++ rest) r ≡ row_at width samples r
unfolding row_at
row_at_prefix width r n samples rest h k =
    let one_more = suc-mul r width in
    take-drop_swap (take n samples ++ rest) (r * width) width
    ∙ ap (drop (r * width))
    (take-append-le (r * width + width) (take n samples) rest (omega (arith, length-take-le n samples k)) ∙ take-take (r * width + width) n samples (omega arith))
    ∙ sym (take-drop_swap samples (r * width) width)

module _ (width : ℕ) (samples : List ℕ) where
  pub length_row_at : (r : ℕ) → suc r * width ≤ length samples → length (row_at width samples r) ≡ width
  unfolding row_at
  length_row_at r h = simp (length-take, length-drop) (omega (arith, suc-mul r width))

  pub length-codes_at : (r : ℕ) → suc r * width ≤ length samples → length (codes_at width samples r) ≡ width
  unfolding codes_at
  length-codes_at zero h = length_row_at zero h
  length-codes_at (suc r) h =
      let upper = length_row_at r (omega (arith, suc-mul (suc r) width)) in
      let lower = length_row_at (suc r) h in
      length_zip_with delta_code (row_at width samples r) (row_at width samples (suc r)) (upper ∙ sym lower) ∙ lower
