-- Examples of what is complete within the first m bytes of a packing, worked out by hand: one constant list, what the definitions compute
-- for each, and what is expected. proofs/Examples.antt has the one proof.
use Rattle.std.specs.Prelude.{ℕ, List, [], ◌∷◌, ◌++◌, map, replicate}
use Rattle.rle_round_trip.specs.Prefix.{covered_in_row}

-- a row of the plane of example 14 (FORMAT 10), and the number of its complete values for each m from 0 to 8
pub record Example : Type 0 where
  pub row : ℕ
  pub covered : List ℕ

-- a row of 9, a row of 10. The packing is `1F 09 10 09 1F 02 10 02`: in each row a segment of 16 values, and one of 1 value
abbrev pub samples : List ℕ
samples = replicate 17 9 ++ replicate 17 10

-- what the definitions compute
abbrev pub computed : Example → List ℕ
computed e = map (covered_in_row 17 samples e.row) (0 ∷ 1 ∷ 2 ∷ 3 ∷ 4 ∷ 5 ∷ 6 ∷ 7 ∷ 8 ∷ [])

-- what is expected
abbrev pub expected : Example → List ℕ
expected e = e.covered

abbrev pub examples : List Example
examples =
    record { row = 0; covered = 0 ∷ 0 ∷ 16 ∷ 16 ∷ 17 ∷ 17 ∷ 17 ∷ 17 ∷ 17 ∷ [] }
    ∷ record { row = 1; covered = 0 ∷ 0 ∷ 0 ∷ 0 ∷ 0 ∷ 0 ∷ 16 ∷ 16 ∷ 17 ∷ [] }
    ∷ []
