-- What the functions that read a field return: how many bytes were written to the caller's slice, and the index after the field, which is where
-- the rest of the line begins. Both are 0 for a malformed field.
use Rattle.std.specs.Prelude.{ℕ, ◌-◌, ◌≡◌, List, length, drop, Option, Some, None}
use Rattle.std.specs.Borrow.{Bor}
use Rattle.case_lines.specs.declared.report.Answer.{Answer}

-- a part of a line that begins somewhere in the line and goes to its end
abbrev pub IsRest : (line rest : List ℕ) → Type 0
IsRest line rest = rest ≡ drop (length line - length rest) line

abbrev pub next_of_number : (line : List ℕ) → Option (ℕ × Bor (List ℕ)) → ℕ
next_of_number line (Some (value, rest)) = length line - length rest.now
next_of_number line None = 0

abbrev pub next_of_answer : (line : List ℕ) → Option (Answer × Bor (List ℕ)) → ℕ
next_of_answer line (Some (value, rest)) = length line - length rest.now
next_of_answer line None = 0

abbrev pub count_of : Option (ℕ × Bor (List ℕ)) → ℕ
count_of (Some (count, rest)) = count
count_of None = 0

abbrev pub next_of_bytes : (line : List ℕ) → Option (ℕ × Bor (List ℕ)) → ℕ
next_of_bytes line (Some (count, rest)) = length line - length rest.now
next_of_bytes line None = 0
