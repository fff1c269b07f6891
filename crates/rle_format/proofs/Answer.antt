-- The numbers of the refusals are different, so that a contract `to_answer r ≡ a` determines r; and each fits a byte.
use mathlib.Core.Path.{◌≡◌, refl, sym, ap, ◌∙◌}
use Prim.Native.Nat.{ℕ, ◌≤◌}
use Rattle.std.specs.Prelude.{Result, Ok, Err}
use native.Mathlib.Omega.{arith}
use lib.Dec.{eqb}
use Rattle.rle_format.specs.Choice.{choose}
use Rattle.rle_format.specs.declared.Refusal.{Refusal}
use Rattle.rle_format.specs.declared.Refusal.TheVariants.{ZeroSize, TooLarge, LossLevel, InvalidUncompressedDataSize, ShortWork, ShortImage, ReadCompressedData, InvalidSegmentHeader, SegmentDoNotFitScanline, ShortPlane, NotEnoughBytes, BufferTooSmall, EmptyStream, MissingPad}
use Rattle.rle_format.specs.Answer.{Answer, counted, refused, number, to_answer}

-- a count is no refusal
pub refused_not_counted : {r n : ℕ} {X : Type 0} → refused r ≡ counted n → X
refused_not_counted e = let z : ◌≡◌ {A = ℕ} 0 1 = cc in absurd (omega arith)

-- the refusal that has a number
abbrev refusal_with_number : ℕ → Refusal
refusal_with_number n =
    choose (eqb n 1) ZeroSize
    (choose (eqb n 2) TooLarge
    (choose (eqb n 3) LossLevel
    (choose (eqb n 4) InvalidUncompressedDataSize
    (choose (eqb n 5) ShortWork
    (choose (eqb n 6) ShortImage
    (choose (eqb n 7) ReadCompressedData
    (choose (eqb n 8) InvalidSegmentHeader
    (choose (eqb n 9) SegmentDoNotFitScanline
    (choose (eqb n 10) ShortPlane
    (choose (eqb n 11) NotEnoughBytes
    (choose (eqb n 12) BufferTooSmall
    (choose (eqb n 13) EmptyStream
    MissingPad))))))))))))

refusal_with_number_number : (r : Refusal) → refusal_with_number (number r) ≡ r
refusal_with_number_number ZeroSize = refl
refusal_with_number_number TooLarge = refl
refusal_with_number_number LossLevel = refl
refusal_with_number_number InvalidUncompressedDataSize = refl
refusal_with_number_number ShortWork = refl
refusal_with_number_number ShortImage = refl
refusal_with_number_number ReadCompressedData = refl
refusal_with_number_number InvalidSegmentHeader = refl
refusal_with_number_number SegmentDoNotFitScanline = refl
refusal_with_number_number ShortPlane = refl
refusal_with_number_number NotEnoughBytes = refl
refusal_with_number_number BufferTooSmall = refl
refusal_with_number_number EmptyStream = refl
refusal_with_number_number MissingPad = refl

pub number_max : (r : Refusal) → number r ≤ 255
number_max ZeroSize = omega arith
number_max TooLarge = omega arith
number_max LossLevel = omega arith
number_max InvalidUncompressedDataSize = omega arith
number_max ShortWork = omega arith
number_max ShortImage = omega arith
number_max ReadCompressedData = omega arith
number_max InvalidSegmentHeader = omega arith
number_max SegmentDoNotFitScanline = omega arith
number_max ShortPlane = omega arith
number_max NotEnoughBytes = omega arith
number_max BufferTooSmall = omega arith
number_max EmptyStream = omega arith
number_max MissingPad = omega arith

pub number_injective : (r s : Refusal) → number r ≡ number s → r ≡ s
number_injective r s e = sym (refusal_with_number_number r) ∙ ap refusal_with_number e ∙ refusal_with_number_number s

abbrev from_answer : Answer → Result ℕ Refusal
from_answer (counted n) = Ok n
from_answer (refused k) = Err (refusal_with_number k)

from_answer-to_answer : (r : Result ℕ Refusal) → from_answer (to_answer r) ≡ r
from_answer-to_answer (Ok n) = refl
from_answer-to_answer (Err r) = ap (λ (k : Refusal). Err k) (refusal_with_number_number r)

pub to_answer_injective : (r s : Result ℕ Refusal) → to_answer r ≡ to_answer s → r ≡ s
to_answer_injective r s e = sym (from_answer-to_answer r) ∙ ap from_answer e ∙ from_answer-to_answer s
