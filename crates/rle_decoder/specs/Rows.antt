-- A row as the decoder's inner functions read it, and the row above. Only contracts of inner functions use these.
use Rattle.std.specs.Prelude.{ℕ, zero, suc, ◌-◌, List, take, drop, Result, Ok, Err}
use Rattle.std.proofs.Math.Option.{Option, none, some}
use Rattle.rle_format.specs.Answer.{Answer, counted, refused, number, Outcome, prepend}
use Rattle.rle_format.specs.Unpack.{read_row, row_outcome}
use Rattle.rle_decoder.specs.declared.row_so_far.StoppedRow.{StoppedRow}

-- a row read from index `from` of the body on, as its coded values
abbrev pub coded_row : (body : List ℕ) (from width : ℕ) → Outcome
coded_row body from width = row_outcome (read_row width width 0 (drop from body))

-- the same row, of which the bytes from index `from` to index `at` were read: they gave the first `column` values of the array codes and the
-- last byte `last`
abbrev pub row_continued : (body codes : List ℕ) (from width at column last : ℕ) → Outcome
row_continued body codes from width at column last =
    prepend (take column codes) (at - from) (row_outcome (read_row (width - column) (width - column) last (drop at body)))

-- what the code returns for a row: the number of bytes that it takes, or its refusal
abbrev pub row_to_answer : Result ℕ StoppedRow → Answer
row_to_answer (Ok n) = counted n
row_to_answer (Err stop) = refused (number stop.reason)

-- and the number of coded values that it has then: all, or those before the refusal
abbrev pub coded_values : (width : ℕ) → Result ℕ StoppedRow → ℕ
coded_values width (Ok n) = width
coded_values width (Err stop) = stop.column

-- the row above the one that begins at index `start` of a plane; the first row has none
abbrev pub row_above : (plane : List ℕ) (start width : ℕ) → Option (List ℕ)
row_above plane zero width = none
row_above plane (suc k) width = some (drop (suc k - width) (take (suc k) plane))
