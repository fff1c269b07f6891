-- Answers as a C function returns them.
use Rattle.std.specs.Prelude.{ℤ, pos, neg_ℤ}
use Rattle.rle_format.specs.Answer.{Answer, counted, refused}

-- a number of bytes as it is; a refusal as its negated number (FORMAT 8.4)
abbrev pub c_number : Answer → ℤ
c_number (counted n) = pos n
c_number (refused r) = neg_ℤ (pos r)
