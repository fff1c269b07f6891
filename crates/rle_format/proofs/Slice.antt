-- Laws of the slice after a write, `overwrite` and `write_at`, and of parts of a slice that are passed to a call.
use Prim.Native.Nat.{ℕ, zero, suc, ◌+◌, ◌-◌, ◌≤◌, ◌<◌}
use mathlib.Core.Path.{◌≡◌, refl, sym, ap, ◌∙◌}
use mathlib.Core.List.{List, [], ◌∷◌, ◌++◌, append_assoc, append-nil}
use native.Mathlib.Nat.{add-zero, zero-add, suc-add, add_assoc}
use native.Mathlib.Numerals.{add-one}
use native.Mathlib.Omega.{arith}
use lib.ListN.{length, take, drop, set, get_or, length-append, length-take, length-drop, take-append-drop, get_or-append, drop_of_length-le}
use lib.Seq.{set_split, take_at, drop_at, drop-drop, take-suc, length-take-le, get_or-drop, get_or-take, take_all, take-nil, take-add, drop-append-add}
use Rattle.rle_format.specs.Slice.{overwrite, write_at}

pub write_at_nil : (d : List ℕ) (at : ℕ) → write_at d at [] ≡ d
unfolding write_at
write_at_nil d at = ap (λ (k : ℕ). take at d ++ drop k d) (add-zero at) ∙ take-append-drop at d

pub overwrite_nil : (d : List ℕ) → overwrite d [] ≡ d
unfolding overwrite
overwrite_nil d = refl

-- all bytes overwritten
pub overwrite_all : (d vs : List ℕ) → length d ≤ length vs → overwrite d vs ≡ vs
unfolding overwrite
overwrite_all d vs h = ap (λ (l : List ℕ). vs ++ l) (drop_of_length-le d {i = length vs} h) ∙ append-nil vs

module _ (d : List ℕ) (at : ℕ) (vs : List ℕ) (fits : at + length vs ≤ length d) where
  length_front : length (take at d ++ vs) ≡ at + length vs
  length_front = simp (length-append, length-take) (omega arith)

  pub length-write_at : length (write_at d at vs) ≡ length d
  unfolding write_at
  length-write_at = simp (length-append, length-take, length-drop) (omega arith)

  pub take-write_at : take (at + length vs) (write_at d at vs) ≡ take at d ++ vs
  unfolding write_at
  take-write_at = rw (← append_assoc (take at d) vs (drop (at + length vs) d)) (take_at (take at d ++ vs) (drop (at + length vs) d) (at + length vs) length_front)

  pub drop-write_at : drop (at + length vs) (write_at d at vs) ≡ drop (at + length vs) d
  unfolding write_at
  drop-write_at = rw (← append_assoc (take at d) vs (drop (at + length vs) d)) (drop_at (take at d ++ vs) (drop (at + length vs) d) (at + length vs) length_front)

  -- vs, and then ws right after them
  pub write_at-write_at : (ws : List ℕ) → write_at (write_at d at vs) (at + length vs) ws ≡ write_at d at (vs ++ ws)
  unfolding write_at
  write_at-write_at ws =
      let suffix : drop (at + length vs + length ws) (write_at d at vs) ≡ drop (at + length (vs ++ ws)) d =
      sym (drop-drop (length ws) (at + length vs) (write_at d at vs))
      ∙ ap (drop (length ws)) drop-write_at
      ∙ drop-drop (length ws) (at + length vs) d
      ∙ rw (length-append, add_assoc) in
      (λ i. take-write_at i ++ (ws ++ suffix i))
      ∙ append_assoc (take at d) vs (ws ++ drop (at + length (vs ++ ws)) d)
      ∙ ap (λ (l : List ℕ). take at d ++ l) (sym (append_assoc vs ws (drop (at + length (vs ++ ws)) d)))

-- a store is such a write
pub set-write_at : (d : List ℕ) (at v : ℕ) → at < length d → set d at v ≡ write_at d at (v ∷ [])
unfolding write_at
set-write_at d at v h = set_split d at v h ∙ ap (λ (k : ℕ). take at d ++ (v ∷ drop k d)) (sym (add-one at))

-- a store right after what was written
pub write_at_snoc : (d : List ℕ) (at : ℕ) (vs : List ℕ) (v : ℕ) → at + length vs < length d
    → set (write_at d at vs) (at + length vs) v ≡ write_at d at (vs ++ (v ∷ []))
write_at_snoc d at vs v h =
    let fits : at + length vs ≤ length d = omega arith in
    let room : at + length vs < length (write_at d at vs) = rw (length-write_at d at vs fits) h in
    set-write_at (write_at d at vs) (at + length vs) v room ∙ write_at-write_at d at vs fits (v ∷ [])

-- ---- what was copied, and an iteration of the loop that fills

-- all of s copied to the start, with what was behind it
pub copied_overwrite : (d s now : List ℕ) → now ≡ take (length s) s ++ drop (length s) d → now ≡ overwrite d s
unfolding overwrite
copied_overwrite d s now e = e ∙ ap (λ (l : List ℕ). l ++ drop (length s) d) (take_all (length s) s (omega arith))

-- ---- reads of what a write left

-- before the index that was written
pub get_or-write_at_before : (d : List ℕ) (at i : ℕ) (vs : List ℕ) → i < at → at ≤ length d → get_or (write_at d at vs) i 0 ≡ get_or d i 0
unfolding write_at
get_or-write_at_before d at i vs h l =
    get_or-append (take at d) (vs ++ drop (at + length vs) d) 0 i (simp length-take (omega arith)) ∙ get_or-take at d i 0 h

-- ---- a part passed as `&mut d[a..]`: the callee gets `suffix d a`, leaves ys, and d is then `replace_suffix d a ys`

abbrev pub suffix : List ℕ → ℕ → List ℕ
suffix d a = take (length d - a) (drop a d)

abbrev pub replace_suffix : List ℕ → ℕ → List ℕ → List ℕ
replace_suffix d a ys = take a d ++ (ys ++ drop (length d - a) (drop a d))

pub suffix_drop : (d : List ℕ) (a : ℕ) → suffix d a ≡ drop a d
suffix_drop d a = take_all (length d - a) (drop a d) (simp length-drop (omega arith))

pub replace_suffix-append : (d ys : List ℕ) (a : ℕ) → replace_suffix d a ys ≡ take a d ++ ys
replace_suffix-append d ys a =
    let short : length (drop a d) ≤ length d - a = simp length-drop (omega arith) in
    let none : drop (length d - a) (drop a d) ≡ [] = drop_of_length-le (drop a d) short in
    ap (λ (l : List ℕ). take a d ++ (ys ++ l)) none ∙ ap (λ (l : List ℕ). take a d ++ l) (append-nil ys)

pub suffix_room : (d : List ℕ) (a n : ℕ) → a + n ≤ length d → n ≤ length (suffix d a)
suffix_room d a n h = simp (length-take, length-drop) (omega arith)

-- d keeps its length, if the part does
pub length-replace_suffix : (d ys : List ℕ) (a : ℕ) → length ys ≡ length (suffix d a) → length (replace_suffix d a ys) ≡ length d
length-replace_suffix d ys a e =
    let n : length (suffix d a) ≡ length d - a = ap length (suffix_drop d a) ∙ length-drop a d in
    simp (length-append, length-take, length-drop) (omega arith)

-- what the callee wrote to the start of its part, as a write to d
pub suffix_overwrite : (d ys vs : List ℕ) (a : ℕ) → ys ≡ overwrite (suffix d a) vs → replace_suffix d a ys ≡ write_at d a vs
unfolding write_at overwrite
suffix_overwrite d ys vs a e =
    replace_suffix-append d ys a
    ∙ ap (λ (l : List ℕ). take a d ++ l) (e ∙ ap (λ (l : List ℕ). vs ++ drop (length vs) l) (suffix_drop d a) ∙ ap (λ (l : List ℕ). vs ++ l) (drop-drop (length vs) a d))

-- what it wrote from its index k on
pub suffix_write_at : (d ys vs : List ℕ) (a k : ℕ) → ys ≡ write_at (suffix d a) k vs → replace_suffix d a ys ≡ write_at d (a + k) vs
unfolding write_at
suffix_write_at d ys vs a k e =
    replace_suffix-append d ys a
    ∙ ap (λ (l : List ℕ). take a d ++ l) (e ∙ ap (λ (l : List ℕ). take k l ++ (vs ++ drop (k + length vs) l)) (suffix_drop d a))
    ∙ sym (append_assoc (take a d) (take k (drop a d)) (vs ++ drop (k + length vs) (drop a d)))
    ∙ (λ i. sym (take-add a k d) i ++ (vs ++ (drop-drop (k + length vs) a d ∙ ap (λ (n : ℕ). drop n d) (sym (add_assoc a k (length vs)))) i))

-- a part with an end, `&mut d[a..b]`, whose callee wrote all of it
pub part_overwrite : (d ys vs : List ℕ) (a b : ℕ) → a ≤ b → b ≤ length d → length vs ≡ b - a → ys ≡ overwrite (take (b - a) (drop a d)) vs
    → take a d ++ (ys ++ drop (b - a) (drop a d)) ≡ write_at d a vs
unfolding write_at
part_overwrite d ys vs a b h k n e =
    let left = length-drop a d in
    let part = length-take-le (b - a) (drop a d) (omega arith) in
    let all : ys ≡ vs = e ∙ overwrite_all (take (b - a) (drop a d)) vs (omega arith) in
    let place : b - a ≡ length vs = sym n in
    ap (λ (l : List ℕ). take a d ++ (l ++ drop (b - a) (drop a d))) all
    ∙ ap (λ (l : List ℕ). take a d ++ (vs ++ l)) (ap (λ (k : ℕ). drop k (drop a d)) place ∙ drop-drop (length vs) a d)

-- ---- more of writes

pub take-write_at_before : (d : List ℕ) (at : ℕ) (vs : List ℕ) → at ≤ length d → take at (write_at d at vs) ≡ take at d
unfolding write_at
take-write_at_before d at vs h = take_at (take at d) (vs ++ drop (at + length vs) d) at (simp length-take (omega arith))

pub take-drop_swap : (l : List ℕ) (a w : ℕ) → take w (drop a l) ≡ drop a (take (a + w) l)
take-drop_swap l zero w = ap (λ (k : ℕ). take k l) (sym (zero-add w))
take-drop_swap [] (suc a) w = take-nil w ∙ sym (ap (drop (suc a)) (take-nil (suc a + w)))
take-drop_swap (x ∷ l) (suc a) w = take-drop_swap l a w ∙ sym (ap (λ (k : ℕ). drop (suc a) (take k (x ∷ l))) (suc-add a w))

-- a write of a slice that has changed only before it
pub write_at_overwrite : (d₀ d : List ℕ) (at : ℕ) (vs : List ℕ) → at ≤ length d → drop at d ≡ drop at d₀ → write_at d at vs ≡ overwrite d₀ (take at d ++ vs)
unfolding write_at overwrite
write_at_overwrite d₀ d at vs h e =
    let n : length (take at d ++ vs) ≡ at + length vs = simp (length-append, length-take) (omega arith) in
    let back : drop (at + length vs) d ≡ drop (length (take at d ++ vs)) d₀ =
    sym (drop-drop (length vs) at d) ∙ ap (drop (length vs)) e ∙ drop-drop (length vs) at d₀ ∙ rw n in
    ap (λ (l : List ℕ). take at d ++ (vs ++ l)) back ∙ sym (append_assoc (take at d) vs (drop (length (take at d ++ vs)) d₀))

-- a write right after the start that was written
pub overwrite_append : (d xs ys : List ℕ) (n : ℕ) → length xs ≡ n → write_at (overwrite d xs) n ys ≡ overwrite d (xs ++ ys)
unfolding overwrite write_at
overwrite_append d xs ys n l =
    let front : take n (xs ++ drop (length xs) d) ≡ xs = take_at xs (drop (length xs) d) n l in
    let back : drop (n + length ys) (xs ++ drop (length xs) d) ≡ drop (length (xs ++ ys)) d =
    ap (λ (k : ℕ). drop (k + length ys) (xs ++ drop (length xs) d)) (sym l)
    ∙ drop-append-add xs (drop (length xs) d) (length ys)
    ∙ drop-drop (length ys) (length xs) d
    ∙ ap (λ (k : ℕ). drop k d) (sym (length-append xs ys)) in
    (λ i. front i ++ (ys ++ back i)) ∙ sym (append_assoc xs ys (drop (length (xs ++ ys)) d))

-- a write from index 0 on
pub write_at_0 : (d vs : List ℕ) → write_at d 0 vs ≡ overwrite d vs
unfolding overwrite write_at
write_at_0 d vs = ap (λ (k : ℕ). vs ++ drop k d) (zero-add (length vs))

-- ---- bytes copied one by one, from index `from` of a list

-- one more byte, behind those that were copied to index `at` on
pub copy_step : (d now s : List ℕ) (from at i to v : ℕ) → now ≡ write_at d at (take i (drop from s)) → to ≡ at + i → from + i < length s → at + i < length d
    → v ≡ get_or s (from + i) 0 → set now to v ≡ write_at d at (take (i + 1) (drop from s))
copy_step d now s from at i to v e p h k is =
    let left = length-drop from s in
    let n : length (take i (drop from s)) ≡ i = length-take-le i (drop from s) (omega arith) in
    let place : to ≡ at + length (take i (drop from s)) = omega arith in
    (λ j. set (e j) (place j) v)
    ∙ write_at_snoc d at (take i (drop from s)) v (omega arith)
    ∙ ap (λ (x : ℕ). write_at d at (take i (drop from s) ++ x ∷ [])) (is ∙ sym (get_or-drop from s i 0))
    ∙ ap (write_at d at) (sym (take-suc (drop from s) i 0 (omega arith)))
    ∙ ap (λ (m : ℕ). write_at d at (take m (drop from s))) (sym (add-one i))

-- four to index `at` on, which were all read before the first was written
pub write_four : (d s : List ℕ) (from at v₀ v₁ v₂ v₃ : ℕ) → from + 4 ≤ length s → at + 4 ≤ length d
    → v₀ ≡ get_or s from 0 → v₁ ≡ get_or s (from + 1) 0 → v₂ ≡ get_or s (from + 2) 0 → v₃ ≡ get_or s (from + 3) 0
    → set (set (set (set d at v₀) (at + 1) v₁) (at + 2) v₂) (at + 3) v₃ ≡ write_at d at (take 4 (drop from s))
write_four d s from at v₀ v₁ v₂ v₃ h k e₀ e₁ e₂ e₃ =
    let first : v₀ ≡ get_or s (from + 0) 0 = e₀ ∙ ap (λ (n : ℕ). get_or s n 0) (sym (add-zero from)) in
    let one = copy_step d d s from at 0 at v₀ (sym (write_at_nil d at)) (omega arith) (omega arith) (omega arith) first in
    let two = copy_step d _ s from at 1 (at + 1) v₁ one refl (omega arith) (omega arith) e₁ in
    let three = copy_step d _ s from at 2 (at + 2) v₂ two refl (omega arith) (omega arith) e₂ in
    copy_step d _ s from at 3 (at + 3) v₃ three refl (omega arith) (omega arith) e₃
