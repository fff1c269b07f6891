-- The chroma samples found by counting are those of `chroma_index`, for every pixel; and what the loops need of it: where the chroma row of a row
-- starts, and the chroma column of a column, each from the one before.
use Prim.Native.Nat.{ℕ, zero, suc, ◌+◌, ◌-◌, ◌*◌, ◌/◌, ◌%◌, ◌<◌}
use mathlib.Core.Bool.{Bool, true, false}
use mathlib.Core.Path.{◌≡◌, refl, sym, ap, ◌∙◌}
use native.Mathlib.Nat.{zero-mul, suc-mul, mul-zero, mul-one}
use native.Mathlib.Numerals.{add-one}
use native.Mathlib.Omega.{arith}
use lib.Dec.{eqb}
use borrow.Author.Tests.{eqb-true, eqb-false, ne_eqb, lt-ltb, le-ltb}
use Rattle.rle_format.specs.Choice.{choose}
use Rattle.bitmap_format.specs.Planes.{chroma_side_of}
use Rattle.bitmap_format.specs.Image.{chroma_index}
use Rattle.bitmap_format.specs.Counting.{CountedPixel, sample_index, counter_step, next_in_row, next_row, next_pixel, counted_pixel, pixel_by_index, ChromaIndexByCounting, IsChromaStart, IsChromaColumn}
use Rattle.bitmap_format.proofs.PixelAt.{in_plane, place_below}

-- ---- one counter

-- the counter of row or column 0
counter_first : (s : Bool) (step : ℕ) → chroma_index s 0 * step ≡ 0
unfolding chroma_index
counter_first true step = zero-mul step
counter_first false step = zero-mul step

-- and of the next
counter_next : (s : Bool) (step n : ℕ) → chroma_index s n * step + counter_step s step n ≡ chroma_index s (n + 1) * step
unfolding chroma_index counter_step
counter_next false step n = sym (suc-mul n step) ∙ ap (λ (k : ℕ). k * step) (sym (add-one n))
counter_next true step n = go (eqb (n % 2) 0) refl
  where
    go : (t : Bool) → eqb (n % 2) 0 ≡ t → n / 2 * step + choose t 0 step ≡ (n + 1) / 2 * step
    go true et =
        let even = eqb-true (n % 2) 0 et in
        let same : n / 2 ≡ (n + 1) / 2 = omega arith in
        let none : n / 2 * step + 0 ≡ n / 2 * step = omega arith in
        none ∙ ap (λ (k : ℕ). k * step) same
    go false et =
        let odd = eqb-false (n % 2) 0 et in
        let more : suc (n / 2) ≡ (n + 1) / 2 = omega arith in
        sym (suc-mul (n / 2) step) ∙ ap (λ (k : ℕ). k * step) more

-- the same with a step of 1
column_counter_next : (s : Bool) (n : ℕ) → chroma_index s n + counter_step s 1 n ≡ chroma_index s (n + 1)
column_counter_next s n =
    ap (λ (k : ℕ). k + counter_step s 1 n) (sym (mul-one (chroma_index s n))) ∙ counter_next s 1 n ∙ mul-one (chroma_index s (n + 1))

-- ---- the step of a counter, by the tests of the code

pub step_full : (step n : ℕ) → counter_step false step n ≡ step
unfolding counter_step
step_full step n = refl

pub step_even : (step n : ℕ) → n % 2 ≡ 0 → counter_step true step n ≡ 0
unfolding counter_step
step_even step n e = rw e

pub step_odd : (s : Bool) (step n : ℕ) → (n % 2 ≡ 0 → ⊥) → counter_step s step n ≡ step
unfolding counter_step
step_odd false step n h = refl
step_odd true step n h = rw (ne_eqb (n % 2) 0 h)

-- `even` is the step behind an even number
pub step_by_parity : (s : Bool) (step n even : ℕ) → even ≡ choose s 0 step → counter_step s step n ≡ choose (eqb (n % 2) 0) even step
unfolding counter_step
step_by_parity true step n even e = ap (λ (k : ℕ). choose (eqb (n % 2) 0) k step) (sym e)
step_by_parity false step n even e = go (eqb (n % 2) 0)
  where
    go : (t : Bool) → step ≡ choose t even step
    go true = sym e
    go false = refl

-- ---- every pixel, in the order of the image

first_index : (s : Bool) → chroma_index s 0 ≡ 0
unfolding chroma_index
first_index true = refl
first_index false = refl

module _ (s : Bool) (width : ℕ) where
  in_row : (row column : ℕ) → column + 1 < width → next_pixel s width (pixel_by_index s width row column) ≡ pixel_by_index s width row (column + 1)
  unfolding next_pixel next_in_row
  in_row row column h =
      ap (λ (t : Bool). choose t (next_in_row s (pixel_by_index s width row column)) (next_row s width (pixel_by_index s width row column))) (lt-ltb (column + 1) width h)
      ∙ (λ i. record { row = row; column = column + 1; chroma_start = chroma_index s row * chroma_side_of s width; chroma_column = column_counter_next s column i })

  to_next_row : (row column : ℕ) → column + 1 ≡ width → next_pixel s width (pixel_by_index s width row column) ≡ pixel_by_index s width (row + 1) 0
  unfolding next_pixel next_row
  to_next_row row column e =
      ap (λ (t : Bool). choose t (next_in_row s (pixel_by_index s width row column)) (next_row s width (pixel_by_index s width row column))) (le-ltb (column + 1) width (omega arith))
      ∙ (λ i. record { row = row + 1; column = 0; chroma_start = counter_next s (chroma_side_of s width) row i; chroma_column = sym (first_index s) i })

  first_counted : counted_pixel s width 0 ≡ pixel_by_index s width 0 0
  unfolding counted_pixel
  first_counted = λ i. record { row = 0; column = 0; chroma_start = sym (counter_first s (chroma_side_of s width)) i; chroma_column = sym (first_index s) i }

  next_counted : (n m : ℕ) → m ≡ suc n → counted_pixel s width m ≡ next_pixel s width (counted_pixel s width n)
  unfolding counted_pixel
  next_counted n m e = ap (counted_pixel s width) e

  -- from the first pixel of a row on
  along : (row column : ℕ) → counted_pixel s width (row * width) ≡ pixel_by_index s width row 0 → column < width → counted_pixel s width (row * width + column) ≡ pixel_by_index s width row column
  along row zero first h = let n : row * width + 0 ≡ row * width = omega arith in ap (counted_pixel s width) n ∙ first
  along row (suc column) first h =
      let n : row * width + suc column ≡ suc (row * width + column) = omega arith in
      next_counted (row * width + column) (row * width + suc column) n
      ∙ ap (next_pixel s width) (along row column first (omega arith))
      ∙ in_row row column (omega arith)
      ∙ ap (pixel_by_index s width row) (add-one column)

  row_counted : (row : ℕ) → 0 < width → counted_pixel s width (row * width) ≡ pixel_by_index s width row 0
  row_counted zero h = ap (counted_pixel s width) (zero-mul width) ∙ first_counted
  row_counted (suc row) h =
      let n : suc row * width ≡ suc (row * width + (width - 1)) = omega (arith, suc-mul row width) in
      next_counted (row * width + (width - 1)) (suc row * width) n
      ∙ ap (next_pixel s width) (along row (width - 1) (row_counted row h) (omega arith))
      ∙ to_next_row row (width - 1) (omega arith)
      ∙ ap (λ (k : ℕ). pixel_by_index s width k 0) (add-one row)

  pixel_counted : (row column : ℕ) → column < width → counted_pixel s width (row * width + column) ≡ pixel_by_index s width row column
  pixel_counted row column h = along row column (row_counted row (omega arith)) h

pub chroma_index_by_counting : ChromaIndexByCounting
chroma_index_by_counting s width height row column below-height below-width =
    let here = pixel_counted s width row column below-width in
    let at : sample_index (counted_pixel s width (row * width + column)) ≡ chroma_index s row * chroma_side_of s width + chroma_index s column = ap sample_index here in
    record {
      pixel = here;
      index = at;
      within = rw at (in_plane (chroma_index s row) (chroma_index s column) (chroma_side_of s width) (chroma_side_of s height) (place_below s row height below-height) (place_below s column width below-width));
    }

-- ---- the counter of the loops over rows

-- without a width there is one start for all rows
no_width : (s : Bool) (row : ℕ) → (counted_pixel s 0 0).chroma_start ≡ chroma_index s row * chroma_side_of s 0
unfolding counted_pixel chroma_side_of
no_width true row = sym (mul-zero (chroma_index true row))
no_width false row = sym (mul-zero (chroma_index false row))

start_counted : (s : Bool) (width row : ℕ) → (counted_pixel s width (row * width)).chroma_start ≡ chroma_index s row * chroma_side_of s width
start_counted s zero row = ap (λ (n : ℕ). (counted_pixel s 0 n).chroma_start) (mul-zero row) ∙ no_width s row
start_counted s (suc w) row =
    let first : row * suc w ≡ row * suc w + 0 = omega arith in
    ap (λ (n : ℕ). (counted_pixel s (suc w) n).chroma_start) first
    ∙ ap (λ (p : CountedPixel). p.chroma_start) (chroma_index_by_counting s (suc w) (suc row) row 0 (omega arith) (omega arith)).pixel

pub start_is : (s : Bool) (width offset row counter : ℕ) → IsChromaStart s width offset row counter → counter ≡ offset + chroma_index s row * chroma_side_of s width
start_is s width offset row counter e = sym e ∙ ap (λ (k : ℕ). offset + k) (start_counted s width row)

pub start_first : (s : Bool) (width offset : ℕ) → IsChromaStart s width offset 0 offset
start_first s width offset =
    let none = start_counted s width 0 ∙ counter_first s (chroma_side_of s width) in
    omega (arith, none)

pub start_next : (s : Bool) (width offset row counter : ℕ) → IsChromaStart s width offset row counter
    → IsChromaStart s width offset (row + 1) (counter + counter_step s (chroma_side_of s width) row)
start_next s width offset row counter e =
    let next : (counted_pixel s width (row * width)).chroma_start + counter_step s (chroma_side_of s width) row ≡ (counted_pixel s width ((row + 1) * width)).chroma_start =
    ap (λ (k : ℕ). k + counter_step s (chroma_side_of s width) row) (start_counted s width row)
    ∙ counter_next s (chroma_side_of s width) row
    ∙ sym (start_counted s width (row + 1))
    in
    omega (arith, next, e)

-- ---- the counter of the loops over columns

column_counted : (s : Bool) (column : ℕ) → IsChromaColumn s column (chroma_index s column)
column_counted s column width row h =
    ap (λ (p : CountedPixel). p.chroma_column) (chroma_index_by_counting s width (suc row) row column (omega arith) h).pixel

pub column_is : (s : Bool) (column counter : ℕ) → IsChromaColumn s column counter → counter ≡ chroma_index s column
column_is s column counter e = sym (e (suc column) 0 (omega arith)) ∙ column_counted s column (suc column) 0 (omega arith)

pub column_first : (s : Bool) → IsChromaColumn s 0 0
column_first s width row h = column_counted s 0 width row h ∙ first_index s

pub column_next : (s : Bool) (column counter : ℕ) → IsChromaColumn s column counter → IsChromaColumn s (column + 1) (counter + counter_step s 1 column)
column_next s column counter e width row h =
    column_counted s (column + 1) width row h
    ∙ sym (column_counter_next s column)
    ∙ ap (λ (k : ℕ). k + counter_step s 1 column) (sym (column_is s column counter e))
