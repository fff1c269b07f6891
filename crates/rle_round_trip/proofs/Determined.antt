-- The prefix theorem determines the destination and the answer, for every m from 0 to n.
use mathlib.Core.Path.{◌≡◌, sym, ◌∙◌}
use mathlib.Core.List.{List}
use mathlib.Core.Logic.{⊎_elim}
use Prim.Native.Nat.{ℕ, ◌≤◌, ◌<◌}
use native.Mathlib.Omega.{arith}
use lib.ListN.{length}
use Rattle.rle_format.specs.Answer.{Answer}
use Rattle.rle_format.specs.Pack.{packing}
use Rattle.rle_format.proofs.Cases.{le_or_gt}
use Rattle.rle_round_trip.specs.Prefix.{PrefixResult}

pub prefix_determined : (width height : ℕ) (samples dst : List ℕ) (m : ℕ) (left other : List ℕ) (a b : Answer) → m ≤ length (packing width height samples)
    → PrefixResult width height samples dst m left a → PrefixResult width height samples dst m other b → (left ≡ other) × (a ≡ b)
prefix_determined width height samples dst m left other a b most p q =
    ⊎_elim
    (λ (h : length (packing width height samples) ≤ m).
    let e : m ≡ length (packing width height samples) = omega arith in
    ((p.all e).2 ∙ sym (q.all e).2, (p.all e).1 ∙ sym (q.all e).1))
    (λ (h : m < length (packing width height samples)).
    let r = (p.part h).1 in
    (p.next r.0 r.1 r.2 ∙ sym (q.next r.0 r.1 r.2), (p.part h).0 ∙ sym (q.part h).0))
    (le_or_gt (length (packing width height samples)) m)
