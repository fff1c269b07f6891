-- Outcomes one after the other, and how much they read and write.
use mathlib.Core.Path.{◌≡◌, refl, sym, ap, ◌∙◌}
use mathlib.Core.List.{List, [], ◌++◌, append_assoc}
use Prim.Native.Nat.{ℕ, ◌+◌, ◌-◌, ◌*◌, ◌≤◌}
use native.Mathlib.Nat.{zero-add, add_assoc}
use native.Mathlib.Omega.{arith}
use lib.ListN.{length, drop, length-append, length-drop}
use Rattle.rle_format.specs.Answer.{Answer, counted, refused, Outcome, stop, prepend}
use Rattle.rle_format.specs.Slice.{overwrite}
use Rattle.rle_format.proofs.Slice.{overwrite_nil}

pub prepend_nil : (o : Outcome) → prepend [] 0 o ≡ o
unfolding prepend
prepend_nil o = go o.written o.answer
  where
    go : (vs : List ℕ) (a : Answer) → prepend [] 0 (record { written = vs; answer = a }) ≡ record { written = vs; answer = a }
    go vs (counted m) = λ i. record { written = vs; answer = counted (zero-add m i) }
    go vs (refused r) = refl

pub prepend_prepend : (vs ws : List ℕ) (n m : ℕ) (o : Outcome) → prepend vs n (prepend ws m o) ≡ prepend (vs ++ ws) (n + m) o
unfolding prepend
prepend_prepend vs ws n m o = go o.written o.answer
  where
    go : (xs : List ℕ) (a : Answer) → prepend vs n (prepend ws m (record { written = xs; answer = a })) ≡ prepend (vs ++ ws) (n + m) (record { written = xs; answer = a })
    go xs (counted k) = λ i. record { written = sym (append_assoc vs ws xs) i; answer = counted (sym (add_assoc n m k) i) }
    go xs (refused r) = λ i. record { written = sym (append_assoc vs ws xs) i; answer = refused r }

-- two equal outcomes have equal parts
pub answer_cong : {o p : Outcome} → o ≡ p → o.answer ≡ p.answer
answer_cong e = ap (λ (o : Outcome). o.answer) e

pub slice_cong : {o p : Outcome} (d : List ℕ) → o ≡ p → overwrite d o.written ≡ overwrite d p.written
slice_cong d e = ap (λ (o : Outcome). overwrite d o.written) e

-- a call that stops at once leaves its slice as it was
pub stop_writes_nothing : (d : List ℕ) (o : Outcome) (a : Answer) → o ≡ stop a → (a ≡ o.answer) × (d ≡ overwrite d o.written)
unfolding stop
stop_writes_nothing d o a e = (sym (answer_cong e), sym (slice_cong d e ∙ overwrite_nil d))

-- ---- how much reading rows reads and writes

-- rows that were read have written `area` values, from at most two bytes each; a refused row
-- leaves no more than that, and its number is 7, 8 or 9
abbrev pub Bounded : (area : ℕ) (body written : List ℕ) → Answer → Type 0
Bounded area body written (counted n) = (length written ≡ area) × ((n ≤ length body) × (n ≤ 2 * area))
Bounded area body written (refused r) = (length written ≤ area) × ((7 ≤ r) × (r ≤ 9))

pub prepend_bounded : (area n : ℕ) (body vs : List ℕ) (o : Outcome) → length vs ≤ area → n ≤ length body → n ≤ 2 * length vs
    → Bounded (area - length vs) (drop n body) o.written o.answer → Bounded area body (prepend vs n o).written (prepend vs n o).answer
unfolding prepend
prepend_bounded area n body vs o h l t b = go o.answer b
  where
    long : length (vs ++ o.written) ≡ length vs + length o.written
    long = length-append vs o.written

    go : (a : Answer) → Bounded (area - length vs) (drop n body) o.written a → Bounded area body (vs ++ o.written) (prepend vs n (record { written = o.written; answer = a })).answer
    go (counted k) b = (omega (arith, long), (omega (arith, length-drop n body), omega arith))
    go (refused r) b = (omega (arith, long), b.1)
