-- The first line of a text, and what is left of it. Assumes nothing.
use Rattle.std.proofs.Common.{◌≡◌, ℕ, zero, suc, ◌+◌, ◌-◌, ◌<◌, ◌≤◌, true, false, eqb, List, [], ◌∷◌, ◌++◌, length, take, drop, get_or, Some, None, length-append, refl, sym, ap, ◌∙◌, arith}
use Rattle.std.specs.List.{position, position_or_len}
use Rattle.std.proofs.lemmas.Grind.{common_steps}
use Rattle.std.proofs.lemmas.List.Sums.{fails_before_first}
use Rattle.std.proofs.lemmas.List.Quantifiers.{position-Some}
use Rattle.std.proofs.Math.Seq.{drop-append_seam}
use Rattle.case_lines.specs.Counts.{IsRest}
use Rattle.case_lines.specs.Cases.{in_front, lines_of, is_comment, case_after}

-- a line that ends at the newline at n
ends_at : (text : List ℕ) (n : ℕ) → n < length text → eqb (get_or text n 0) 10 ≡ true → ((k : ℕ) → k < n → eqb (get_or text k 0) 10 ≡ false)
    → lines_of text ≡ take (suc n) text ∷ lines_of (drop (suc n) text)
ends_at [] n here newline none = absurd (omega arith)
ends_at (b ∷ bs) zero here newline none = rw newline refl
ends_at (b ∷ bs) (suc n) here newline none = rw (none 0 (omega arith)) (ap (in_front b) (ends_at bs n (omega arith) newline (λ k l. none (suc k) (omega arith))))

-- a text without a newline is one line
ends_nowhere : (text : List ℕ) → 0 < length text → ((k : ℕ) → k < length text → eqb (get_or text k 0) 10 ≡ false) → lines_of text ≡ text ∷ []
ends_nowhere [] some none = absurd (omega arith)
ends_nowhere (b ∷ []) some none = rw (none 0 (omega arith)) refl
ends_nowhere (b ∷ c ∷ cs) some none = rw (none 0 (omega arith)) (ap (in_front b) (ends_nowhere (c ∷ cs) (omega arith) (λ k l. none (suc k) (omega arith))))

pub first_line : (text : List ℕ) (n : ℕ) → position (λ byte. eqb byte 10) text ≡ Some n → lines_of text ≡ take (n + 1) text ∷ lines_of (drop (n + 1) text)
first_line text n found =
    let at = position-Some (λ byte. eqb byte 10) text n 0 found in
    let next : n + 1 ≡ suc n = omega arith in
    rw next (ends_at text n at.0 at.1 at.2)

pub last_line : (text : List ℕ) → 0 < length text → position (λ byte. eqb byte 10) text ≡ None → lines_of text ≡ text ∷ []
last_line text some found =
    let none : length text ≤ position_or_len (λ byte. eqb byte 10) text = grind (arith, common_steps) in
    ends_nowhere text some (λ k l. fails_before_first (λ byte. eqb byte 10) text k 0 (omega arith))

pub case_here : (n : ℕ) (text line rest : List ℕ) → lines_of text ≡ line ∷ lines_of rest → is_comment line ≡ false → case_after n (lines_of text) ≡ Some (n, (line, lines_of rest))
case_here n text line rest split here = rw (split, here) refl

pub case_later : (n : ℕ) (text line rest : List ℕ) → lines_of text ≡ line ∷ lines_of rest → is_comment line ≡ true → case_after n (lines_of text) ≡ case_after (n + 1) (lines_of rest)
case_later n text line rest split comment = rw (split, comment) refl

-- what stands behind a part is a rest
pub rest_behind : (text line rest : List ℕ) → text ≡ line ++ rest → IsRest text rest
rest_behind text line rest parts =
    let long : length text ≡ length line + length rest = ap length parts ∙ length-append line rest in
    let before : length text - length rest ≡ length line = omega arith in
    rw before (rw parts (sym (drop-append_seam line rest)))
