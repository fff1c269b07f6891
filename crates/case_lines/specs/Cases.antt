-- The lines of a text, and which of them is the next case.
use Rattle.std.specs.Prelude.{ℕ, ◌+◌, Bool, cond, eqb, List, [], ◌∷◌, Option, Some, None}
use Rattle.std.specs.List.{starts_with}

-- lines, the first with one more byte in front of it
abbrev pub in_front : (byte : ℕ) → (lines : List (List ℕ)) → List (List ℕ)
in_front b [] = (b ∷ []) ∷ []
in_front b (l ∷ ls) = (b ∷ l) ∷ ls

-- the lines of a text, each with its newline, which the last one may lack
abbrev pub lines_of : (text : List ℕ) → List (List ℕ)
lines_of [] = []
lines_of (b ∷ bs) = cond (eqb b 10) ((b ∷ []) ∷ lines_of bs) (in_front b (lines_of bs))

-- a line that begins with '#'
abbrev pub is_comment : (line : List ℕ) → Bool
is_comment line = starts_with eqb line (35 ∷ [])

-- the first line that is no comment: how many comments come before it, after some that were passed, then the line, and the lines after it
abbrev pub case_after : (comments : ℕ) → (lines : List (List ℕ)) → Option (ℕ × (List ℕ × List (List ℕ)))
case_after comments [] = None
case_after comments (l ∷ ls) = cond (is_comment l) (case_after (comments + 1) ls) (Some (comments, (l, ls)))
