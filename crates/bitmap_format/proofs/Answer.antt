-- The numbers are different, so that a contract `encoded_to_answer e ≡ s` determines e; and the answer of a refusal that `?` passes up.
use mathlib.Core.Path.{◌≡◌, sym, ap}
use Prim.Native.Nat.{ℕ}
use native.Mathlib.Omega.{arith}
use Rattle.std.specs.Prelude.{Result, Ok, Err}
use Rattle.std.specs.Result.{IsErrAnd}
use Rattle.rle_format.specs.declared.Refusal.{Refusal}
use Rattle.rle_format.specs.Answer.{refused, number, to_answer}
use Rattle.rle_format.proofs.Answer.{number_injective}
use Rattle.bitmap_format.specs.declared.BitmapStreamHeader.{BitmapStreamHeader}
use Rattle.bitmap_format.specs.declared.Encoded.{Encoded}
use Rattle.bitmap_format.specs.PackPicture.{encoded_count, encoded_refusal, encoded_to_answer}

-- a refusal is no count
refusal_not_count : {r n : ℕ} {h : BitmapStreamHeader} {X : Type 0} → encoded_refusal r ≡ encoded_count n h → X
refusal_not_count e = let z : ◌≡◌ {A = ℕ} 0 1 = cc in absurd (omega arith)

pub encoded_to_answer_injective : (d e : Result Encoded Refusal) → encoded_to_answer d ≡ encoded_to_answer e → d ≡ e
encoded_to_answer_injective (Ok d) (Ok e) p = let q : d.bytes ≡ e.bytes = cc in let r : d.header ≡ e.header = cc in λ i. Ok (record { bytes = q i; header = r i })
encoded_to_answer_injective (Ok d) (Err s) p = refusal_not_count (sym p)
encoded_to_answer_injective (Err r) (Ok e) p = refusal_not_count p
encoded_to_answer_injective (Err r) (Err s) p = let q : number r ≡ number s = cc in ap (λ (k : Refusal). Err k) (number_injective r s q)

pub passed_up : (r : Result ℕ Refusal) (k : Refusal) → IsErrAnd r (λ (q : Refusal). q ≡ k) → to_answer r ≡ refused (number k)
passed_up (Ok n) k e = absurd e
passed_up (Err q) k e = ap (λ (q : Refusal). refused (number q)) e
