-- Examples of what contracts say of a field and of a case, worked out by hand: one constant list, what the definitions compute for each, and
-- what is expected. proofs/Examples.antt has the one proof.
use Rattle.std.specs.Prelude.{ℕ, Bool, true, false, List, [], ◌∷◌, Option, Some, None, Result, Ok, Err, replicate}
use Rattle.std.specs.Borrow.{Bor}
use Rattle.rle_format.specs.declared.Refusal.{Refusal}
use Rattle.rle_format.specs.declared.Refusal.TheVariants.{ZeroSize, ReadCompressedData}
use Rattle.pixel_format.specs.declared.PixelLayout.{PixelLayout}
use Rattle.pixel_format.specs.declared.PixelLayout.TheVariants.{BgrA, RgbA, ARgb, ABgr}
use Rattle.case_lines.specs.declared.report.Answer.{Answer}
use Rattle.case_lines.specs.declared.report.Answer.TheVariants.{Count, Refused}
use Rattle.case_lines.specs.declared.report.LineResult.{LineResult}
use Rattle.case_lines.specs.declared.report.LineResult.TheVariants.{Equal, Different}
use Rattle.case_lines.specs.Cases.{lines_of, case_after}
use Rattle.case_lines.specs.Counts.{count_of, next_of_number, next_of_answer, next_of_bytes}
use Rattle.case_lines.specs.Fields.{to_read, field_at, as_meant, number_at, numbers_from, answer_in}
use Rattle.case_lines.specs.Layouts.{layout_of, flag_of}
use Rattle.case_lines.specs.Results.{guard, answer_of, case_result_of}

pub data Example : Type 0 where
  -- a text, and its lines, and the next case of it: how many comments come before it, its line, and the lines after it
  has_lines : (text : List ℕ) → List (List ℕ) → Example
  has_case : (text : List ℕ) → Option (ℕ × (List ℕ × List (List ℕ))) → Example
  -- fields of a line of ten bytes, each with what is left of the line, and the numbers that contracts speak of
  number_read : Option (ℕ × Bor (List ℕ)) → (next : ℕ) → Example
  answer_read : Option (Answer × Bor (List ℕ)) → (next : ℕ) → Example
  bytes_read : Option (ℕ × Bor (List ℕ)) → (count next : ℕ) → Example
  -- a line, and its first field, the number in it, the next two numbers, the answer or the flag in it, with what is left of the line
  has_field : (line : List ℕ) → Option (List ℕ × List ℕ) → Example
  has_number : (line : List ℕ) → Option (ℕ × List ℕ) → Example
  has_numbers : (line : List ℕ) → Option (List ℕ × List ℕ) → Example
  has_answer : (line : List ℕ) → Option (Answer × List ℕ) → Example
  has_flag : (line : List ℕ) → Option (Bool × List ℕ) → Example
  -- what a function returned, and what that is without its reference
  shows : Option (ℕ × Bor (List ℕ)) → Option (ℕ × List ℕ) → Example
  -- a number, and the layout that it means
  layout_read : (number : ℕ) → Option PixelLayout → Example
  -- a number, and the flag that it means
  flag_read : (number : ℕ) → Option Bool → Example
  -- guard bytes
  guards : List ℕ → Example
  -- what a call returned, and its answer
  answers : Result ℕ Refusal → Answer → Example
  -- two answers, what else was compared, and the result
  compares : (expected got : Answer) (header_equal bytes_equal guards_unchanged : Bool) → LineResult → Example

-- lines, a case, numbers, what a line has, a layout, a flag, an answer or a result
pub data Meaning : Type 0 where
  lines : List (List ℕ) → Meaning
  case_meant : Option (ℕ × (List ℕ × List (List ℕ))) → Meaning
  field : Option (List ℕ × List ℕ) → Meaning
  number_meant : Option (ℕ × List ℕ) → Meaning
  answer_meant : Option (Answer × List ℕ) → Meaning
  flag_left : Option (Bool × List ℕ) → Meaning
  numbers : List ℕ → Meaning
  layout_meant : Option PixelLayout → Meaning
  flag_meant : Option Bool → Meaning
  answer : Answer → Meaning
  result : LineResult → Meaning

-- a line of ten bytes
abbrev pub line : List ℕ
line = replicate 10 0x20

-- the last n bytes of the line
abbrev pub left : (n : ℕ) → Bor (List ℕ)
left n = record { ref_ptr = (0, 0); now = replicate n 0x20 }

-- what the definitions compute
abbrev pub computed : Example → Meaning
computed (has_lines bs ls) = lines (lines_of bs)
computed (has_case bs c) = case_meant (case_after 0 (lines_of bs))
computed (number_read n next) = numbers (next_of_number line n ∷ [])
computed (answer_read a next) = numbers (next_of_answer line a ∷ [])
computed (bytes_read b count next) = numbers (count_of b ∷ next_of_bytes line b ∷ [])
computed (has_field bs f) = field (field_at bs)
computed (has_number bs n) = number_meant (number_at bs)
computed (has_numbers bs ns) = field (numbers_from [] 2 bs)
computed (has_answer bs a) = answer_meant (as_meant answer_in (field_at bs))
computed (has_flag bs f) = flag_left (as_meant flag_of (number_at bs))
computed (shows returned r) = number_meant (to_read returned)
computed (layout_read n l) = layout_meant (layout_of n)
computed (flag_read n f) = flag_meant (flag_of n)
computed (guards bs) = numbers guard
computed (answers r a) = answer (answer_of r)
computed (compares e g header bs gs r) = result (case_result_of e g header bs gs)

-- what is expected
abbrev pub expected : Example → Meaning
expected (has_lines bs ls) = lines ls
expected (has_case bs c) = case_meant c
expected (number_read n next) = numbers (next ∷ [])
expected (answer_read a next) = numbers (next ∷ [])
expected (bytes_read b count next) = numbers (count ∷ next ∷ [])
expected (has_field bs f) = field f
expected (has_number bs n) = number_meant n
expected (has_numbers bs ns) = field ns
expected (has_answer bs a) = answer_meant a
expected (has_flag bs f) = flag_left f
expected (shows returned r) = number_meant r
expected (layout_read n l) = layout_meant l
expected (flag_read n f) = flag_meant f
expected (guards bs) = numbers bs
expected (answers r a) = answer a
expected (compares e g header bs gs r) = result r

-- a case with one difference
abbrev pub different : (expected got : Answer) (header_equal bytes_equal guards_unchanged : Bool) → LineResult
different e g header bs gs = Different (record { expected = e; got = g; header_equal = header; slices = record { bytes_equal = bs; guards_unchanged = gs } })

-- an empty text, a line with a newline and one without, two lines, an empty line before one; a case after no comment, after two, an empty line, one
-- without a newline, and texts without one; fields that were read, and malformed ones; fields that end with a space, with a newline, and with nothing; the largest number, and one more; the four layouts, and two numbers that mean none; the two flags, and two numbers that mean none; the
-- guard bytes; a count and two refusals; a case with everything as expected, and five with one difference each
abbrev pub examples : List Example
examples =
    has_lines [] []
    ∷ has_lines (49 ∷ 10 ∷ []) ((49 ∷ 10 ∷ []) ∷ [])
    ∷ has_lines (49 ∷ 50 ∷ []) ((49 ∷ 50 ∷ []) ∷ [])
    ∷ has_lines (49 ∷ 10 ∷ 50 ∷ 51 ∷ 10 ∷ []) ((49 ∷ 10 ∷ []) ∷ (50 ∷ 51 ∷ 10 ∷ []) ∷ [])
    ∷ has_lines (10 ∷ 49 ∷ []) ((10 ∷ []) ∷ (49 ∷ []) ∷ [])
    ∷ has_case (49 ∷ 10 ∷ 50 ∷ 10 ∷ 51 ∷ []) (Some (0, (49 ∷ 10 ∷ [], (50 ∷ 10 ∷ []) ∷ (51 ∷ []) ∷ [])))
    ∷ has_case (35 ∷ 49 ∷ 10 ∷ 35 ∷ 10 ∷ 50 ∷ 10 ∷ 35 ∷ 10 ∷ []) (Some (2, (50 ∷ 10 ∷ [], (35 ∷ 10 ∷ []) ∷ [])))
    ∷ has_case (10 ∷ 49 ∷ 10 ∷ []) (Some (0, (10 ∷ [], (49 ∷ 10 ∷ []) ∷ [])))
    ∷ has_case (35 ∷ 10 ∷ 49 ∷ 35 ∷ []) (Some (1, (49 ∷ 35 ∷ [], [])))
    ∷ has_case [] None
    ∷ has_case (35 ∷ 49 ∷ 10 ∷ 35 ∷ []) None
    ∷ number_read (Some (3, left 3)) 7
    ∷ number_read None 0
    ∷ answer_read (Some (Count 3, left 3)) 7
    ∷ answer_read None 0
    ∷ bytes_read (Some (3, left 3)) 3 7
    ∷ bytes_read None 0 0
    ∷ has_field (49 ∷ 50 ∷ 32 ∷ 51 ∷ 10 ∷ []) (Some (49 ∷ 50 ∷ [], 51 ∷ 10 ∷ []))
    ∷ has_field (10 ∷ []) (Some ([], []))
    ∷ has_field (49 ∷ 50 ∷ []) None
    ∷ has_number (49 ∷ 50 ∷ 32 ∷ 51 ∷ 10 ∷ []) (Some (12, 51 ∷ 10 ∷ []))
    ∷ has_number (10 ∷ []) None
    ∷ has_number (49 ∷ 65 ∷ 10 ∷ []) None
    ∷ has_number (45 ∷ 49 ∷ 10 ∷ []) None
    ∷ has_number (49 ∷ 56 ∷ 52 ∷ 52 ∷ 54 ∷ 55 ∷ 52 ∷ 52 ∷ 48 ∷ 55 ∷ 51 ∷ 55 ∷ 48 ∷ 57 ∷ 53 ∷ 53 ∷ 49 ∷ 54 ∷ 49 ∷ 53 ∷ 10 ∷ []) (Some (18446744073709551615, []))
    ∷ has_number (49 ∷ 56 ∷ 52 ∷ 52 ∷ 54 ∷ 55 ∷ 52 ∷ 52 ∷ 48 ∷ 55 ∷ 51 ∷ 55 ∷ 48 ∷ 57 ∷ 53 ∷ 53 ∷ 49 ∷ 54 ∷ 49 ∷ 54 ∷ 10 ∷ []) None
    ∷ has_numbers (49 ∷ 32 ∷ 50 ∷ 32 ∷ 51 ∷ 10 ∷ []) (Some (1 ∷ 2 ∷ [], 51 ∷ 10 ∷ []))
    ∷ has_numbers (49 ∷ 10 ∷ []) None
    ∷ has_answer (49 ∷ 50 ∷ 10 ∷ []) (Some (Count 12, []))
    ∷ has_answer (45 ∷ 49 ∷ 50 ∷ 10 ∷ []) (Some (Refused 12, []))
    ∷ has_answer (45 ∷ 48 ∷ 10 ∷ []) (Some (Refused 0, []))
    ∷ has_answer (45 ∷ 10 ∷ []) None
    ∷ has_flag (49 ∷ 32 ∷ 48 ∷ 10 ∷ []) (Some (true, 48 ∷ 10 ∷ []))
    ∷ has_flag (50 ∷ 10 ∷ []) None
    ∷ shows (Some (3, left 3)) (Some (3, replicate 3 0x20))
    ∷ shows None None
    ∷ layout_read 0 (Some BgrA)
    ∷ layout_read 1 (Some RgbA)
    ∷ layout_read 2 (Some ARgb)
    ∷ layout_read 3 (Some ABgr)
    ∷ layout_read 4 None
    ∷ layout_read 256 None
    ∷ flag_read 0 (Some false)
    ∷ flag_read 1 (Some true)
    ∷ flag_read 2 None
    ∷ flag_read 256 None
    ∷ guards (0xC7 ∷ 0xC7 ∷ 0xC7 ∷ 0xC7 ∷ 0xC7 ∷ 0xC7 ∷ 0xC7 ∷ 0xC7 ∷ 0xC7 ∷ 0xC7 ∷ 0xC7 ∷ 0xC7 ∷ 0xC7 ∷ 0xC7 ∷ 0xC7 ∷ 0xC7 ∷ [])
    ∷ answers (Ok 7) (Count 7)
    ∷ answers (Err ZeroSize) (Refused 1)
    ∷ answers (Err ReadCompressedData) (Refused 7)
    ∷ compares (Refused 7) (Refused 7) true true true Equal
    ∷ compares (Refused 7) (Refused 8) true true true (different (Refused 7) (Refused 8) true true true)
    ∷ compares (Count 7) (Refused 7) true true true (different (Count 7) (Refused 7) true true true)
    ∷ compares (Count 7) (Count 7) false true true (different (Count 7) (Count 7) false true true)
    ∷ compares (Count 7) (Count 7) true false true (different (Count 7) (Count 7) true false true)
    ∷ compares (Count 7) (Count 7) true true false (different (Count 7) (Count 7) true true false)
    ∷ []
