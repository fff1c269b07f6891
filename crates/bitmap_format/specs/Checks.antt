-- Checks of arguments, in the order of FORMAT 8.2: the first that holds is the refusal.
use Rattle.std.specs.Prelude.{ℕ, Bool, List, [], ◌∷◌}
use Rattle.rle_format.specs.Choice.{choose}
use Rattle.rle_format.specs.Answer.{Answer, refused}

-- the number of a refusal, and whether its condition holds
pub record Check : Type 0 where
  pub number : ℕ
  pub given : Bool

-- a check from its parts
abbrev pub check : (number : ℕ) (given : Bool) → Check
check n g = record { number = n; given = g }

-- the first refusal whose condition holds; `passed` is the answer if there is none
unfoldable pub first_refusal_of : (checks : List Check) (passed : Answer) → Answer
first_refusal_of [] passed = passed
first_refusal_of (t ∷ checks) passed = choose t.given (refused t.number) (first_refusal_of checks passed)
