-- What a line says, field by field: the value of the field at its start and what follows the byte that ends the field, or nothing for a malformed
-- field.
use Rattle.std.specs.Prelude.{ℕ, ◌+◌, ◌-◌, ◌*◌, ◌^◌, zero, suc, Bool, ◌||◌, ◌&&◌, cond, eqb, leb, ltb, List, [], ◌∷◌, ◌++◌, take, drop, position, Option, Some, None, option_map, option_and_then}
use Rattle.std.specs.Borrow.{Bor}
use Rattle.case_lines.specs.declared.report.Answer.{Answer}
use Rattle.case_lines.specs.declared.report.Answer.TheVariants.{Count, Refused}

-- what a function returned, with the bytes that its reference shows
abbrev pub to_read : {A : Type 0} → Option (A × Bor (List ℕ)) → Option (A × List ℕ)
to_read read = option_map (λ r. (r.0, r.1.now)) read

-- a space or a newline
abbrev pub ends_field : (byte : ℕ) → Bool
ends_field byte = eqb byte 32 || eqb byte 10

-- the bytes of a field
abbrev pub field_at : (line : List ℕ) → Option (List ℕ × List ℕ)
field_at line = option_map (λ end. (take end line, drop (end + 1) line)) (position ends_field line)

-- a field that was read, as what its value means
abbrev pub as_meant : {A B : Type 0} → (A → Option B) → Option (A × List ℕ) → Option (B × List ℕ)
as_meant meaning read = option_and_then (λ r. option_map (λ m. (m, r.1)) (meaning r.0)) read

-- a number with one more digit; none for another byte, or from 2 ^ 64 on
abbrev pub with_digit_of : (number digit : ℕ) → Option ℕ
with_digit_of number digit = cond (leb 48 digit && leb digit 57 && ltb (number * 10 + (digit - 48)) (2 ^ 64)) (Some (number * 10 + (digit - 48))) None

-- the number that digits make after a number
abbrev pub decimal_from : (number : ℕ) → (digits : List ℕ) → Option ℕ
decimal_from number [] = Some number
decimal_from number (d ∷ ds) = option_and_then (λ n. decimal_from n ds) (with_digit_of number d)

-- the number that a field of digits is
abbrev pub decimal_in : (digits : List ℕ) → Option ℕ
decimal_in [] = None
decimal_in (d ∷ ds) = decimal_from 0 (d ∷ ds)

abbrev pub number_at : (line : List ℕ) → Option (ℕ × List ℕ)
number_at line = as_meant decimal_in (field_at line)

-- the next n numbers, after numbers that were read
abbrev pub numbers_from : (numbers : List ℕ) → (n : ℕ) → (line : List ℕ) → Option (List ℕ × List ℕ)
numbers_from numbers zero line = Some (numbers, line)
numbers_from numbers (suc n) line = option_and_then (λ r. numbers_from (numbers ++ r.0 ∷ []) n r.1) (number_at line)

-- the answer that a field is: a minus sign is that of a refusal
abbrev pub answer_in : (field : List ℕ) → Option Answer
answer_in [] = None
answer_in (b ∷ bs) = cond (eqb b 45) (option_map Refused (decimal_in bs)) (option_map Count (decimal_in (b ∷ bs)))
