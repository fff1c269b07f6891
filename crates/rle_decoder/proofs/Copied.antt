-- A part of a slice after a copy into it, as a write. Assumes nothing.
use Rattle.std.proofs.Common.{◌≡◌, ℕ, List, ◌++◌, length, take, drop, sym, ap, ◌∙◌, drop-drop}
use borrow.Rule.Slice.PartMut.{put_mid}
use Rattle.rle_format.specs.Slice.{write_at}

-- the part of d from index a on, k values long, became vs
pub copied_write_at : (d now vs : List ℕ) (a k : ℕ) → now ≡ vs → length vs ≡ k → put_mid a k d now ≡ write_at d a vs
unfolding write_at
copied_write_at d now vs a k e n =
    ap (λ (l : List ℕ). take a d ++ (l ++ drop k (drop a d))) e
    ∙ ap (λ (l : List ℕ). take a d ++ (vs ++ l)) (ap (λ (j : ℕ). drop j (drop a d)) (sym n) ∙ drop-drop (length vs) a d)
