-- What checking the sides returns, as numbers (FORMAT 8.1).
use Rattle.std.specs.Prelude.{ℕ, Result, Ok, Err}
use Rattle.rle_format.specs.declared.Refusal.{Refusal}
use Rattle.rle_format.specs.declared.valid_sides.ValidSides.{ValidSides}
use Rattle.rle_format.specs.Answer.{number}

-- the sides, or the number of the refusal
abbrev pub sides_or_number : Result ValidSides Refusal → Result (ℕ × ℕ) ℕ
sides_or_number (Ok s) = Ok (s.width, s.height)
sides_or_number (Err r) = Err (number r)
