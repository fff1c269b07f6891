-- The array of a row's codes after a write that may have gone further. Assumes nothing.
use Rattle.std.proofs.Common.{◌≡◌, ℕ, ◌+◌, ◌-◌, ◌≤◌, List, [], ◌++◌, length, take, drop, replicate, sym, ap, ◌∙◌, append_assoc, append-nil, add-zero, arith, length-append, length-drop, take-append-drop, length-take-le, take-take}
use lib.ListN.{length-replicate, replicate-append-replicate}
use Rattle.rle_format.specs.Slice.{write_at}
use Rattle.rle_format.proofs.Slice.{length-write_at, take-write_at, take-write_at_before, write_at-write_at}
use Rattle.rle_decoder.specs.Appended.{Appended}

-- nothing was written
pub appended_none : (d : List ℕ) (n : ℕ) → Appended d d n []
appended_none d n = ap (λ (k : ℕ). take k d) (add-zero n) ∙ sym (append-nil (take n d))

-- of a write, the first values alone
appended_first : (d₀ d : List ℕ) (n : ℕ) (xs ys : List ℕ) → d ≡ write_at d₀ n (xs ++ ys) → n + length xs ≤ length d₀ → Appended d₀ d n xs
appended_first d₀ d n xs ys e room =
    let wide = length-write_at d₀ n xs room in
    let split : d ≡ write_at (write_at d₀ n xs) (n + length xs) ys = e ∙ sym (write_at-write_at d₀ n xs room ys) in
    ap (take (n + length xs)) split ∙ take-write_at_before (write_at d₀ n xs) (n + length xs) ys (omega arith) ∙ take-write_at d₀ n xs room

-- all of a write
pub appended_all : (d₀ d : List ℕ) (n : ℕ) (vs : List ℕ) → d ≡ write_at d₀ n vs → n + length vs ≤ length d₀ → Appended d₀ d n vs
appended_all d₀ d n vs e room = ap (take (n + length vs)) e ∙ take-write_at d₀ n vs room

-- the first k values of a write
appended_take : (d₀ d : List ℕ) (n k : ℕ) (ws : List ℕ) → d ≡ write_at d₀ n ws → n + k ≤ length d₀ → k ≤ length ws → Appended d₀ d n (take k ws)
appended_take d₀ d n k ws e room h =
    let l = length-take-le k ws h in
    appended_first d₀ d n (take k ws) (drop k ws) (e ∙ ap (write_at d₀ n) (sym (take-append-drop k ws))) (omega arith)

-- sixteen bytes were copied, of which k are meant
pub appended_copy : (d₀ d s : List ℕ) (n from k : ℕ) → from + 16 ≤ length s → n + 16 ≤ length d₀ → k ≤ 16 → d ≡ write_at d₀ n (take 16 (drop from s))
    → Appended d₀ d n (take k (drop from s))
appended_copy d₀ d s n from k there room few e =
    let rest = length-drop from s in
    let m = length-take-le 16 (drop from s) (omega arith) in
    rw (take-take k 16 (drop from s) few) at (appended_take d₀ d n k (take 16 (drop from s)) e (omega arith) (omega arith))

-- a value was written m times, of which k are meant
pub appended_fill : (d₀ d : List ℕ) (n m k v : ℕ) → n + m ≤ length d₀ → k ≤ m → d ≡ write_at d₀ n (replicate m v) → Appended d₀ d n (replicate k v)
appended_fill d₀ d n m k v room few e =
    let l = length-replicate k v in
    let sum : m ≡ k + (m - k) = omega arith in
    let both : replicate m v ≡ replicate k v ++ replicate (m - k) v = ap (λ (j : ℕ). replicate j v) sum ∙ sym (replicate-append-replicate k (m - k) v) in
    appended_first d₀ d n (replicate k v) (replicate (m - k) v) (e ∙ ap (write_at d₀ n) both) (omega arith)

-- more, right behind
pub appended_then : (d₀ d e : List ℕ) (n : ℕ) (xs ys : List ℕ) → Appended d₀ d n xs → Appended d e (n + length xs) ys → Appended d₀ e n (xs ++ ys)
appended_then d₀ d e n xs ys h₁ h₂ =
    let both = length-append xs ys in
    let k : n + length (xs ++ ys) ≡ n + length xs + length ys = omega arith in
    ap (λ (m : ℕ). take m e) k ∙ h₂ ∙ ap (λ (l : List ℕ). l ++ ys) h₁ ∙ append_assoc (take n d₀) xs ys
