-- Examples of planes, worked out by hand: one constant list, what the definitions compute for each, and what is expected.
-- proofs/Examples.antt has the one proof.
use native.Mathlib.Omega.{arith}
use Rattle.std.specs.Prelude.{ℕ, zero, suc, List, [], ◌∷◌, ◌++◌, map, length, replicate, Result, Ok, Err}
use Rattle.rle_format.specs.declared.Refusal.{Refusal}
use Rattle.rle_format.specs.declared.Refusal.TheVariants.{ZeroSize, TooLarge, LossLevel, InvalidUncompressedDataSize, ShortWork, ShortImage, ReadCompressedData, InvalidSegmentHeader, SegmentDoNotFitScanline, ShortPlane, NotEnoughBytes, BufferTooSmall, EmptyStream, MissingPad}
use Rattle.rle_format.specs.declared.valid_sides.ValidSides.{ValidSides}
use Rattle.rle_format.specs.CheckedSides.{sides_or_number}
use Rattle.rle_format.specs.Answer.{Answer, counted, refused, Outcome, number, to_answer}
use Rattle.rle_format.specs.Slice.{overwrite, write_at}
use Rattle.rle_format.specs.Unpack.{unpack_plane}
use Rattle.rle_format.specs.Pack.{packing, pack_plane}

-- a slice after a call, and its answer
pub record After : Type 0 where
  pub slice : List ℕ
  pub answer : Answer

pub data Example : Type 0 where
  -- samples and their packing, packed and unpacked
  packs_and_unpacks : (width height : ℕ) (samples bytes : List ℕ) → Example
  -- a body, the destination after it is unpacked, and the answer
  unpacks : (width height : ℕ) (body slice : List ℕ) → Answer → Example
  -- samples, the destination after they are packed, and the answer
  packs : (width height : ℕ) (samples slice : List ℕ) → Answer → Example
  -- a slice, an index, values written from there on, and the slice afterwards
  writes : (before : List ℕ) (at : ℕ) (values after : List ℕ) → Example
  -- refusals, and their numbers
  numbers : List Refusal → List ℕ → Example
  -- what the code returns, and the same as a number of bytes or of a refusal
  returns : Result ℕ Refusal → Answer → Example
  -- what checking sides returns, and the same as the two sides, or as the number of a refusal
  checks : Result ValidSides Refusal → Result (ℕ × ℕ) ℕ → Example

-- an outcome applied to a slice of `room` bytes, all of them `EE` before the call
abbrev pub into_filled_slice : (room : ℕ) → Outcome → After
into_filled_slice room o = record { slice = overwrite (replicate room 0xEE) o.written; answer = o.answer }

-- numbers without a call
abbrev pub values : List ℕ → After
values ns = record { slice = ns; answer = counted (length ns) }

-- an answer without a slice
abbrev pub only_answer : Answer → After
only_answer a = record { slice = []; answer = a }

-- sides, or the number of their refusal
abbrev pub only_sides : Result (ℕ × ℕ) ℕ → After
only_sides (Ok s) = values (s.0 ∷ s.1 ∷ [])
only_sides (Err n) = only_answer (refused n)

-- sides that pass the checks
abbrev pub sides_3_2 : ValidSides
sides_3_2 = record { width = 3; height = 2; allowed = record { some_width = λ e. omega (arith, e); some_height = λ e. omega (arith, e); wide = omega arith; high = omega arith } }

-- what the definitions compute; a destination has the length that it has afterwards
abbrev pub computed : Example → List After
computed (packs_and_unpacks w h samples bytes) =
    into_filled_slice (length bytes) (pack_plane w h (length bytes) samples)
    ∷ into_filled_slice (length samples) (unpack_plane w h (length samples) bytes)
    ∷ values (packing w h samples)
    ∷ []
computed (unpacks w h body slice a) = into_filled_slice (length slice) (unpack_plane w h (length slice) body) ∷ []
computed (packs w h samples slice a) = into_filled_slice (length slice) (pack_plane w h (length slice) samples) ∷ []
computed (writes before at vs after) = values (write_at before at vs) ∷ []
computed (numbers refusals ns) = values (map number refusals) ∷ []
computed (returns r a) = only_answer (to_answer r) ∷ []
computed (checks r a) = only_sides (sides_or_number r) ∷ []

-- what is expected
abbrev pub expected : Example → List After
expected (packs_and_unpacks w h samples bytes) =
    values bytes ∷ record { slice = samples; answer = counted (length bytes) } ∷ values bytes ∷ []
expected (unpacks w h body slice a) = record { slice = slice; answer = a } ∷ []
expected (packs w h samples slice a) = record { slice = slice; answer = a } ∷ []
expected (writes before at vs after) = values after ∷ []
expected (numbers refusals ns) = values ns ∷ []
expected (returns r a) = only_answer a ∷ []
expected (checks r a) = only_sides a ∷ []

-- those of FORMAT 10, with their numbers. 15 to 17 are of pictures (bitmap_format)
abbrev pub worked_examples : List Example
worked_examples =
    packs_and_unpacks 1 1 (0x05 ∷ []) (0x10 ∷ 0x05 ∷ [])  -- 1
    ∷ packs_and_unpacks 4 1 (replicate 4 7) (0x13 ∷ 0x07 ∷ [])  -- 2
    ∷ packs_and_unpacks 3 1 (replicate 3 7) (0x30 ∷ 0x07 ∷ 0x07 ∷ 0x07 ∷ [])  -- 3
    ∷ packs_and_unpacks 16 1 (replicate 16 9) (0x1F ∷ 0x09 ∷ [])  -- 4
    ∷ packs_and_unpacks 17 1 (replicate 17 9) (0x1F ∷ 0x09 ∷ 0x10 ∷ 0x09 ∷ [])  -- 5
    ∷ packs_and_unpacks 20 1 (replicate 20 9) (0x1F ∷ 0x09 ∷ 0x13 ∷ 0x09 ∷ [])  -- 6
    ∷ packs_and_unpacks 32 1 (replicate 32 9) (0x1F ∷ 0x09 ∷ 0x01 ∷ [])  -- 7
    ∷ packs_and_unpacks 63 1 (replicate 63 9) (0x1F ∷ 0x09 ∷ 0xF2 ∷ [])  -- 8
    ∷ packs_and_unpacks 64 1 (replicate 64 9) (0x1F ∷ 0x09 ∷ 0xF2 ∷ 0x10 ∷ 0x09 ∷ [])  -- 9
    ∷ packs_and_unpacks 1 2 (10 ∷ 9 ∷ []) (0x10 ∷ 0x0A ∷ 0x10 ∷ 0x01 ∷ [])  -- 10
    ∷ packs_and_unpacks 1 2 (10 ∷ 138 ∷ []) (0x10 ∷ 0x0A ∷ 0x10 ∷ 0xFF ∷ [])  -- 11
    ∷ unpacks 3 1 (0x03 ∷ []) (replicate 3 0) (counted 1)  -- 12
    ∷ unpacks 3 1 (0x04 ∷ []) (replicate 3 0xEE) (refused 9)
    ∷ unpacks 3 1 (0x00 ∷ []) (replicate 3 0xEE) (refused 8)
    ∷ unpacks 3 1 [] (replicate 3 0xEE) (refused 7)
    ∷ unpacks 3 1 (0x50 ∷ 0x01 ∷ []) (replicate 3 0xEE) (refused 7)
    ∷ unpacks 18 1 (0x21 ∷ []) (replicate 18 0) (counted 1)  -- 13
    ∷ packs_and_unpacks 17 2 (replicate 17 9 ++ replicate 17 10) (0x1F ∷ 0x09 ∷ 0x10 ∷ 0x09 ∷ 0x1F ∷ 0x02 ∷ 0x10 ∷ 0x02 ∷ [])  -- 14
    ∷ unpacks 17 2 (0x1F ∷ 0x09 ∷ 0x10 ∷ 0x09 ∷ 0x1F ∷ 0x02 ∷ []) (replicate 17 9 ++ replicate 16 2 ++ (0xEE ∷ [])) (refused 7)
    ∷ []

-- n values: first, first + 1 and so on
abbrev pub count_from : (first n : ℕ) → List ℕ
count_from first zero = []
count_from first (suc n) = first ∷ count_from (suc first) n

-- Segments of a row. A run of 3 ends a segment, one of 2 does not; 16 raw bytes and a run are split into 15, and 1 with the run; 30 raw bytes
-- into 15 and 15. Equal values are split into 1 and 15, then 47 while there are as many, then the rest: 2, 15, 31, 32, 46, and 47, 47, 3. A
-- segment without its last raw byte is refused
abbrev pub row_examples : List Example
row_examples =
    packs_and_unpacks 9 1 (1 ∷ 2 ∷ 2 ∷ 2 ∷ 2 ∷ 3 ∷ 3 ∷ 3 ∷ 4 ∷ []) (0x23 ∷ 1 ∷ 2 ∷ 0x40 ∷ 3 ∷ 3 ∷ 3 ∷ 4 ∷ [])
    ∷ packs_and_unpacks 20 1 (count_from 1 16 ++ replicate 4 16) (0xF0 ∷ count_from 1 15 ++ 0x14 ∷ 16 ∷ [])
    ∷ packs_and_unpacks 30 1 (count_from 1 30) (0xF0 ∷ count_from 1 15 ++ 0xF0 ∷ count_from 16 15)
    ∷ packs_and_unpacks 18 1 (replicate 18 9) (0x1F ∷ 9 ∷ 0x20 ∷ 9 ∷ 9 ∷ [])
    ∷ packs_and_unpacks 31 1 (replicate 31 9) (0x1F ∷ 9 ∷ 0x1E ∷ 9 ∷ [])
    ∷ packs_and_unpacks 47 1 (replicate 47 9) (0x1F ∷ 9 ∷ 0xF1 ∷ [])
    ∷ packs_and_unpacks 48 1 (replicate 48 9) (0x1F ∷ 9 ∷ 0x02 ∷ [])
    ∷ packs_and_unpacks 62 1 (replicate 62 9) (0x1F ∷ 9 ∷ 0xE2 ∷ [])
    ∷ packs_and_unpacks 113 1 (replicate 113 9) (0x1F ∷ 9 ∷ 0xF2 ∷ 0xF2 ∷ 0x30 ∷ 9 ∷ 9 ∷ 9 ∷ [])
    ∷ unpacks 3 1 (0x30 ∷ 1 ∷ 2 ∷ []) (replicate 3 0xEE) (refused 7)
    ∷ []

-- Rows of a plane. The differences of the first are −1, 1, 100 (44 is 200 + 100 − 256), then 3, −1, 127. The codes of the second, whose row 1
-- opens with a run of 0, are 0, 0, 0, 2, then 2, 1, 255, 0; the byte behind the 13 that it needs is not read. A row refused with 9 or 8 has the
-- coded values of its earlier segments, two and one
abbrev pub plane_examples : List Example
plane_examples =
    packs_and_unpacks 3 3 (10 ∷ 20 ∷ 200 ∷ 9 ∷ 21 ∷ 44 ∷ 12 ∷ 20 ∷ 171 ∷ []) (0x30 ∷ 10 ∷ 20 ∷ 200 ∷ 0x30 ∷ 1 ∷ 2 ∷ 200 ∷ 0x30 ∷ 6 ∷ 1 ∷ 254 ∷ [])
    ∷ unpacks 4 3 (0x40 ∷ 5 ∷ 6 ∷ 7 ∷ 8 ∷ 0x03 ∷ 0x10 ∷ 2 ∷ 0x40 ∷ 2 ∷ 1 ∷ 255 ∷ 0 ∷ 0x55 ∷ []) (5 ∷ 6 ∷ 7 ∷ 8 ∷ 5 ∷ 6 ∷ 7 ∷ 9 ∷ 6 ∷ 5 ∷ 135 ∷ 9 ∷ 0xEE ∷ []) (counted 13)
    ∷ unpacks 3 2 (0x30 ∷ 1 ∷ 2 ∷ 3 ∷ 0x10 ∷ 2 ∷ 0x10 ∷ 4 ∷ 0x03 ∷ []) (1 ∷ 2 ∷ 3 ∷ 2 ∷ 4 ∷ 0xEE ∷ []) (refused 9)
    ∷ unpacks 3 2 (0x30 ∷ 1 ∷ 2 ∷ 3 ∷ 0x10 ∷ 2 ∷ 0x00 ∷ []) (1 ∷ 2 ∷ 3 ∷ 2 ∷ 0xEE ∷ 0xEE ∷ []) (refused 8)
    ∷ packs 1 1 (5 ∷ 6 ∷ []) (0x10 ∷ 5 ∷ 0xEE ∷ []) (counted 2)
    ∷ packs 64 1 (replicate 64 9) (0x1F ∷ 0x09 ∷ 0xF2 ∷ 0xEE ∷ []) (refused 12)
    ∷ []

-- Refusals (FORMAT 8.2): where the conditions of several hold, the answer is the one that is checked first
abbrev pub refusal_examples : List Example
refusal_examples =
    unpacks 0 9000 [] [] (refused 1)
    ∷ unpacks 9000 0 [] [] (refused 1)
    ∷ unpacks 8193 1 [] [] (refused 2)
    ∷ unpacks 1 8193 [] [] (refused 2)
    ∷ unpacks 8192 8192 [] [] (refused 10)
    ∷ unpacks 3 1 [] (0xEE ∷ 0xEE ∷ []) (refused 10)
    ∷ packs 0 9000 [] [] (refused 1)
    ∷ packs 8193 1 [] [] (refused 2)
    ∷ packs 1 8193 [] [] (refused 2)
    ∷ packs 8192 8192 [] [] (refused 11)
    ∷ packs 3 1 (7 ∷ 7 ∷ []) [] (refused 11)
    ∷ packs 3 1 (7 ∷ 7 ∷ 7 ∷ []) (0xEE ∷ 0xEE ∷ 0xEE ∷ []) (refused 12)
    ∷ []

-- A write at an index; the numbers of the refusals; answers of the code
abbrev pub conversion_examples : List Example
conversion_examples =
    writes (1 ∷ 2 ∷ 3 ∷ 4 ∷ []) 1 (8 ∷ 9 ∷ []) (1 ∷ 8 ∷ 9 ∷ 4 ∷ [])
    ∷ numbers (ZeroSize ∷ TooLarge ∷ LossLevel ∷ InvalidUncompressedDataSize ∷ ShortWork ∷ ShortImage ∷ ReadCompressedData ∷ InvalidSegmentHeader ∷ SegmentDoNotFitScanline ∷ ShortPlane ∷ NotEnoughBytes ∷ BufferTooSmall ∷ EmptyStream ∷ MissingPad ∷ []) (count_from 1 14)
    ∷ returns (Ok 5) (counted 5)
    ∷ returns (Err ShortPlane) (refused 10)
    ∷ returns (Ok 6) (counted 6)
    ∷ returns (Err BufferTooSmall) (refused 12)
    ∷ checks (Ok sides_3_2) (Ok (3, 2))
    ∷ checks (Err TooLarge) (Err 2)
    ∷ []

abbrev pub examples : List Example
examples = worked_examples ++ row_examples ++ plane_examples ++ refusal_examples ++ conversion_examples
