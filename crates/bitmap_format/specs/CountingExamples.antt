-- Examples of chroma samples found by counting, worked out by hand: one constant list, what the definitions compute for each, and what is expected.
-- proofs/Examples.antt has the one proof.
use Rattle.std.specs.Prelude.{ℕ, Bool, true, false, List, [], ◌∷◌, length}
use Rattle.bitmap_format.specs.Image.{concat_up_to}
use Rattle.bitmap_format.specs.Counting.{sample_index, counted_pixel}

-- a picture, and the index of the chroma samples of each of its first pixels
pub record Example : Type 0 where
  pub subsampling : Bool
  pub width : ℕ
  pub indices : List ℕ

abbrev pub example : (subsampling : Bool) (width : ℕ) (indices : List ℕ) → Example
example s width indices = record { subsampling = s; width = width; indices = indices }

-- what the definitions compute
abbrev pub computed : Example → List ℕ
computed e = concat_up_to (length e.indices) (λ (n : ℕ). sample_index (counted_pixel e.subsampling e.width n) ∷ [])

-- what is expected
abbrev pub expected : Example → List ℕ
expected e = e.indices

-- Three rows each. Subsampled: one, two, three and four columns wide. Not subsampled: one and three
abbrev pub examples : List Example
examples =
    example true 1 (0 ∷ 0 ∷ 1 ∷ [])
    ∷ example true 2 (0 ∷ 0 ∷ 0 ∷ 0 ∷ 1 ∷ 1 ∷ [])
    ∷ example true 3 (0 ∷ 0 ∷ 1 ∷ 0 ∷ 0 ∷ 1 ∷ 2 ∷ 2 ∷ 3 ∷ [])
    ∷ example true 4 (0 ∷ 0 ∷ 1 ∷ 1 ∷ 0 ∷ 0 ∷ 1 ∷ 1 ∷ 2 ∷ 2 ∷ 3 ∷ 3 ∷ [])
    ∷ example false 1 (0 ∷ 1 ∷ 2 ∷ [])
    ∷ example false 3 (0 ∷ 1 ∷ 2 ∷ 3 ∷ 4 ∷ 5 ∷ 6 ∷ 7 ∷ 8 ∷ [])
    ∷ []
