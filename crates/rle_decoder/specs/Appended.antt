-- The array of a row's codes after values were appended to it. Only contracts of inner functions use this.
use Rattle.std.specs.Prelude.{◌≡◌, ℕ, ◌+◌, List, ◌++◌, length, take}

-- the array codes₀ became codes: its first n values are as before, and vs follow them. The array is longer than the row, and what it has
-- behind vs is not determined
abbrev pub Appended : (codes₀ codes : List ℕ) (n : ℕ) (vs : List ℕ) → Type 0
Appended codes₀ codes n vs = take (n + length vs) codes ≡ take n codes₀ ++ vs
