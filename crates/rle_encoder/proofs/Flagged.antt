-- How a row is divided, by its flags from index `start` on. The values of the row are the first of a longer array.
use Rattle.std.proofs.Common.{◌≡◌, ℕ, zero, suc, ◌+◌, ◌-◌, ◌<◌, ◌≤◌, min, List, ◌++◌, length, get_or, take, drop, sym, ap, ◌∙◌, ⊎_elim, arith, length-take-le, get_or-take}
use Rattle.rle_format.specs.Pack.{split_segments, row_segments}
use Rattle.rle_format.proofs.Cases.{le_or_gt}
use Rattle.rle_encoder.specs.RunFlags.{Flagged, AllAre}
use Rattle.rle_encoder.proofs.Flags.{four_set, four_clear}
use Rattle.rle_encoder.proofs.Cut.{Four, cut, uncut}

module _ (codes flags : List ℕ) (width : ℕ) (long : width ≤ length codes) (start : ℕ) (known : Flagged codes flags start width) where
  value : ℕ → ℕ
  value j = get_or codes j 0

  size : length (take width codes) ≡ width
  size = length-take-le width codes long

  in_row : (j : ℕ) → j < width → get_or (take width codes) j 0 ≡ get_or codes j 0
  in_row j h = get_or-take width codes j 0 h

  -- what a flag says that is set, and one that is clear
  set_says : (j : ℕ) → start ≤ j → j < width → get_or flags j 0 ≡ 1
      → (get_or codes (j + 1) 0 ≡ get_or codes j 0) × (get_or codes (j + 2) 0 ≡ get_or codes j 0) × (get_or codes (j + 3) 0 ≡ get_or codes j 0)
  set_says j f h e = four_set (get_or codes j 0) (get_or codes (j + 1) 0) (get_or codes (j + 2) 0) (get_or codes (j + 3) 0) (sym (known j f h) ∙ e)

  clear_says : (j : ℕ) → start ≤ j → j < width → get_or flags j 0 ≡ 0 → get_or codes (j + 1) 0 ≡ get_or codes j 0 → get_or codes (j + 2) 0 ≡ get_or codes j 0 → get_or codes (j + 3) 0 ≡ get_or codes j 0 → ⊥
  clear_says j f h e = four_clear (get_or codes j 0) (get_or codes (j + 1) 0) (get_or codes (j + 2) 0) (get_or codes (j + 3) 0) (sym (known j f h) ∙ e)

  no_four : (j : ℕ) → start ≤ j → get_or flags j 0 ≡ 0 → Four (take width codes) j → ⊥
  no_four j from e f =
      let far : j + 3 < width = omega (arith, size, f.0) in
      clear_says j from (omega arith) e
      (sym (in_row (j + 1) (omega arith)) ∙ f.1 ∙ in_row j (omega arith))
      (sym (in_row (j + 2) (omega arith)) ∙ f.2 ∙ in_row j (omega arith))
      (sym (in_row (j + 3) far) ∙ f.3 ∙ in_row j (omega arith))

  -- no flag is set up to the last three indices: the rest of the row is raw
  pub row_raw : (p : ℕ) → start < width → AllAre 0 flags start p → width ≤ p + 3
      → row_segments (drop start (take width codes)) ≡ split_segments (drop start (take width codes)) 0
  row_raw p h clear near =
      uncut (take width codes) start
      (λ j from f. ⊎_elim (λ (k : p ≤ j). absurd (omega (arith, size, f.0))) (λ (k : j < p). no_four j from (clear j from k) f) (le_or_gt p j))
      (omega (arith, size))

  module _ (p e : ℕ) (order : start ≤ p) (far : p + 3 < width) (clear : AllAre 0 flags start p) (first : get_or flags p 0 ≡ 1)
      (behind : p ≤ e) (most : e ≤ width + 7) (set : AllAre 1 flags p e) (last : e < width → get_or flags e 0 ≡ 0) where
    -- the run has one value at least
    pub some : p < e
    some =
        ⊎_elim
        (λ (k : e ≤ p). let same : e ≡ p = omega arith in let z : ◌≡◌ {A = ℕ} 0 1 = sym (last (omega arith)) ∙ ap (λ (j : ℕ). get_or flags j 0) same ∙ first in absurd (omega arith))
        (λ (k : p < e). k)
        (le_or_gt e p)

    -- while flags are set the value is repeated, up to the end of the row
    stays : (k : ℕ) → p + k ≤ e → p + k ≤ width → get_or codes (p + k) 0 ≡ get_or codes p 0
    stays zero h w = let z : p + 0 ≡ p = omega arith in ap (λ (j : ℕ). get_or codes j 0) z
    stays (suc k) h w =
        let z : p + suc k ≡ p + k + 1 = omega arith in
        ap (λ (j : ℕ). get_or codes j 0) z ∙ (set_says (p + k) (omega arith) (omega arith) (set (p + k) (omega arith) (omega arith))).0 ∙ stays k (omega arith) (omega arith)

    stays_at : (j : ℕ) → p ≤ j → j ≤ e → j ≤ width → get_or codes j 0 ≡ get_or codes p 0
    stays_at j h k w = let z : p + (j - p) ≡ j = omega arith in ap (λ (i : ℕ). get_or codes i 0) (sym z) ∙ stays (j - p) (omega arith) (omega arith)

    -- and for three values behind the last flag
    reaches : (j : ℕ) → p ≤ j → j < e + 3 → j < width → get_or codes j 0 ≡ get_or codes p 0
    reaches j h k w =
        ⊎_elim
        (λ (l : j ≤ e). stays_at j h l (omega arith))
        (λ (l : e < j).
        let says = set_says (e - 1) (omega (arith, some)) (omega (arith, some)) (set (e - 1) (omega (arith, some)) (omega (arith, some))) in
        let was : get_or codes (e - 1) 0 ≡ get_or codes p 0 = stays_at (e - 1) (omega (arith, some)) (omega arith) (omega arith) in
        ⊎_elim
        (λ (m : j ≤ e + 1). let z : j ≡ e - 1 + 2 = omega (arith, some) in ap (λ (i : ℕ). get_or codes i 0) z ∙ says.1 ∙ was)
        (λ (m : e + 1 < j). let z : j ≡ e - 1 + 3 = omega (arith, some) in ap (λ (i : ℕ). get_or codes i 0) z ∙ says.2 ∙ was)
        (le_or_gt j (e + 1)))
        (le_or_gt j e)

    -- the run from p on ends three values behind its last flag, or at the end of the row
    pub row_cut : (q : ℕ) → q ≡ min (e + 3) width
        → row_segments (drop start (take width codes)) ≡ split_segments (take (p + 1 - start) (drop start (take width codes))) (q - p - 1) ++ row_segments (drop q (take width codes))
    row_cut q is =
        let says = set_says p order (omega arith) first in
        cut (take width codes) start p (
          omega (arith, size),
          in_row (p + 1) (omega arith) ∙ says.0 ∙ sym (in_row p (omega arith)),
          in_row (p + 2) (omega arith) ∙ says.1 ∙ sym (in_row p (omega arith)),
          in_row (p + 3) far ∙ says.2 ∙ sym (in_row p (omega arith)),
        ) (λ j from k. no_four j from (clear j from k)) q (omega (arith, some)) (omega (arith, size))
        (λ j h k. in_row j (omega arith) ∙ reaches j h (omega arith) (omega arith) ∙ sym (in_row p (omega arith)))
        (λ k. over (omega (arith, size)) (omega (arith, size))) order
      where
        over : q ≡ e + 3 → q < width → get_or (take width codes) q 0 ≡ get_or (take width codes) p 0 → ⊥
        over place inside same =
            let here : get_or codes e 0 ≡ get_or codes p 0 = stays_at e behind (omega arith) (omega arith) in
            let third : get_or codes (e + 3) 0 ≡ get_or codes p 0 = ap (λ (i : ℕ). get_or codes i 0) (sym place) ∙ sym (in_row q inside) ∙ same ∙ in_row p (omega arith) in
            clear_says e (omega arith) (omega arith) (last (omega arith))
            (reaches (e + 1) (omega arith) (omega arith) (omega arith) ∙ sym here)
            (reaches (e + 2) (omega arith) (omega arith) (omega arith) ∙ sym here)
            (third ∙ sym here)
