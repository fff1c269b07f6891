-- What `next_numbers` does of a line. Assumes nothing.
use Rattle.std.proofs.Common.{◌≡◌, ℕ, ◌+◌, ◌-◌, ◌<◌, suc, List, [], ◌∷◌, ◌++◌, length, take, drop, set, Some, length-drop, arith, ap, ◌∙◌}
use Rattle.std.proofs.lemmas.List.{take_more_set, drop-drop}
use Rattle.case_lines.specs.Counts.{IsRest}
use Rattle.case_lines.specs.Fields.{numbers_from, number_at}

-- one more number was read
pub numbers_step : (items : List ℕ) (i n v : ℕ) (line rest : List ℕ) → i < n → length items ≡ n → number_at line ≡ Some (v, rest)
    → numbers_from (take (i + 1) (set items i v)) (n - (i + 1)) rest ≡ numbers_from (take i items) (n - i) line
numbers_step items i n v line rest here len read =
    let k : n - i ≡ suc (n - (i + 1)) = omega arith in
    let t : take (i + 1) (set items i v) ≡ take i items ++ v ∷ [] = take_more_set items i v (omega arith) in
    rw k (rw read (ap (λ l. numbers_from l (n - (i + 1)) rest) t))

-- what is left of a rest of a line is a rest of the line
pub rest_of_rest : (line middle rest : List ℕ) → IsRest line middle → IsRest middle rest → IsRest line rest
rest_of_rest line middle rest e f =
    let m : length middle ≡ length line - (length line - length middle) = ap length e ∙ length-drop (length line - length middle) line in
    let r : length rest ≡ length middle - (length middle - length rest) = ap length f ∙ length-drop (length middle - length rest) middle in
    let n : (length line - length middle) + (length middle - length rest) ≡ length line - length rest = omega arith in
    f ∙ ap (drop (length middle - length rest)) e ∙ drop-drop (length middle - length rest) (length line - length middle) line ∙ ap (λ k. drop k line) n
