-- A slice whose values are replaced from the first on, one in each iteration of a loop.
use Rattle.std.proofs.Common.{◌≡◌, ℕ, suc, ◌+◌, ◌<◌, List, [], ◌∷◌, ◌++◌, length, get_or, take, drop, set, sym, ap, ◌∙◌, add-zero, add-one, arith, length-set, get_or-drop, take_all, take-suc, drop-drop, take-suc-set, drop-set-lt}

-- the first i values of `now` are those of `new`, and the others still those of `old`
pub record Replaced (old new now : List ℕ) (i : ℕ) : Type 0 where
  pub len : length now ≡ length old
  pub first : take i now ≡ take i new
  pub rest : drop i now ≡ drop i old

module _ {old new now : List ℕ} {i : ℕ} (h : Replaced old new now i) where
  -- the value that is to be replaced next
  pub replaced_next : get_or now i 0 ≡ get_or old i 0
  replaced_next =
      let here : (l : List ℕ) → get_or (drop i l) 0 0 ≡ get_or l i 0 = λ l. get_or-drop i l 0 0 ∙ ap (λ (k : ℕ). get_or l k 0) (add-zero i) in
      sym (here now) ∙ ap (λ (l : List ℕ). get_or l 0 0) h.rest ∙ here old

  pub replaced_step : (v : ℕ) → i < length now → i < length new → v ≡ get_or new i 0 → Replaced old new (set now i v) (i + 1)
  replaced_step v k l is =
      let o : i + 1 ≡ suc i = add-one i in
      record {
        len = simp length-set h.len;
        first = rw o (take-suc-set now i v k ∙ (λ j. h.first j ++ is j ∷ []) ∙ sym (take-suc new i 0 l));
        rest = drop-set-lt (i + 1) now i v (omega arith) ∙ sym (drop-drop 1 i now) ∙ ap (drop 1) h.rest ∙ drop-drop 1 i old;
      }

  pub replaced_end : i ≡ length now → length new ≡ length now → now ≡ new
  replaced_end all same = sym (take_all i now (omega arith)) ∙ h.first ∙ take_all i new (omega arith)
