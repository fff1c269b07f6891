-- What is compared after the call of a case, and the result.
use Rattle.std.specs.Prelude.{ℕ, ◌+◌, ◌≤◌, ◌≡◌, Bool, true, false, ◌&&◌, cond, List, eqb, length, take, drop, replicate, Result, Ok, Err}
use Rattle.rle_format.specs.Answer.{number}
use Rattle.rle_format.specs.declared.Refusal.{Refusal}
use Rattle.case_lines.specs.declared.guarded.Comparison.{Comparison}
use Rattle.case_lines.specs.declared.report.Answer.{Answer}
use Rattle.case_lines.specs.declared.report.Answer.TheVariants.{Count, Refused}
use Rattle.case_lines.specs.declared.report.LineResult.{LineResult}
use Rattle.case_lines.specs.declared.report.LineResult.TheVariants.{Equal, Different}

-- a test that answers true exactly where a claim holds
abbrev pub Tests : Bool → Type 0 → Type 0
Tests answer claim = (answer ≡ true → claim) × (claim → answer ≡ true)

-- the guard bytes on one side of a slice
abbrev pub guard : List ℕ
guard = replicate 16 0xC7

-- an array with guard bytes, a slice of n bytes and guard bytes
abbrev pub HasRoom : List ℕ → ℕ → Type 0
HasRoom array n = n + 32 ≤ length array

-- what a comparison says of the slice and of the guard bytes around it
pub record Compared (array expected : List ℕ) (comparison : Comparison) : Type 0 where
  pub bytes : Tests comparison.bytes_equal (HasRoom array (length expected) × (take (length expected) (drop 16 array) ≡ expected))
  pub guards : Tests comparison.guards_unchanged (HasRoom array (length expected) × ((take 16 array ≡ guard) × (take 16 (drop (16 + length expected) array) ≡ guard)))

-- the answer of a call that returns a number of bytes or is refused
abbrev pub answer_of : Result ℕ Refusal → Answer
answer_of (Ok count) = Count count
answer_of (Err refusal) = Refused (number refusal)

abbrev pub is_same_answer_of : (expected got : Answer) → Bool
is_same_answer_of (Count expected) (Count got) = eqb got expected
is_same_answer_of (Refused expected) (Refused got) = eqb got expected
is_same_answer_of (Count expected) (Refused got) = false
is_same_answer_of (Refused expected) (Count got) = false

-- the result of a case: equal where the answer and everything else that can be observed is as expected
abbrev pub case_result_of : (expected got : Answer) (header_equal bytes_equal guards_unchanged : Bool) → LineResult
case_result_of expected got header_equal bytes_equal guards_unchanged =
    cond (is_same_answer_of expected got && header_equal && bytes_equal && guards_unchanged)
    Equal
    (Different (record {
      expected = expected;
      got = got;
      header_equal = header_equal;
      slices = record { bytes_equal = bytes_equal; guards_unchanged = guards_unchanged };
    }))
