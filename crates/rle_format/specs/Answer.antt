-- Answers and outcomes of calls, with refusals by number (FORMAT 8), and the conversion of the code's results to them.
use Rattle.std.specs.Prelude.{ℕ, ◌+◌, List, [], ◌++◌, Result, Ok, Err}
use Rattle.rle_format.specs.declared.Refusal.{Refusal}
use Rattle.rle_format.specs.declared.Refusal.TheVariants.{ZeroSize, TooLarge, LossLevel, InvalidUncompressedDataSize, ShortWork, ShortImage, ReadCompressedData, InvalidSegmentHeader, SegmentDoNotFitScanline, ShortPlane, NotEnoughBytes, BufferTooSmall, EmptyStream, MissingPad}

-- a number of bytes, or the number of a refusal (FORMAT 8.4)
pub data Answer : Type 0 where
  counted : ℕ → Answer
  refused : (number : ℕ) → Answer

-- what a call does: the bytes that it writes, from the start of its slice, and its answer
pub record Outcome : Type 0 where
  pub written : List ℕ
  pub answer : Answer

-- the outcome of a call that writes nothing and answers a
unfoldable pub stop : Answer → Outcome
stop a = record { written = []; answer = a }

-- refuses before anything is written
abbrev pub refuse : (number : ℕ) → Outcome
refuse r = stop (refused r)

-- adds n to a number of bytes; a refusal stays as it is
abbrev pub add_count : ℕ → Answer → Answer
add_count n (counted k) = counted (n + k)
add_count n (refused r) = refused r

-- the outcome of a call that first writes vs and counts n bytes, and then does o
unfoldable pub prepend : List ℕ → ℕ → Outcome → Outcome
prepend vs n o = record { written = vs ++ o.written; answer = add_count n o.answer }

-- the number of a refusal (FORMAT 8.1)
abbrev pub number : Refusal → ℕ
number ZeroSize = 1
number TooLarge = 2
number LossLevel = 3
number InvalidUncompressedDataSize = 4
number ShortWork = 5
number ShortImage = 6
number ReadCompressedData = 7
number InvalidSegmentHeader = 8
number SegmentDoNotFitScanline = 9
number ShortPlane = 10
number NotEnoughBytes = 11
number BufferTooSmall = 12
number EmptyStream = 13
number MissingPad = 14

-- what the code returns, a number of bytes or a refusal, as an answer
abbrev pub to_answer : Result ℕ Refusal → Answer
to_answer (Ok n) = counted n
to_answer (Err r) = refused (number r)
