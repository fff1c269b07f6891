-- What the tests of `compare_slice` say of the array. Assumes nothing.
use Rattle.std.proofs.Common.{◌≡◌, ℕ, ◌+◌, Bool, true, List, length, take, drop, sym, ap, ◌∙◌}
use Rattle.std.proofs.lemmas.List.{drop-drop}
use Rattle.case_lines.specs.declared.guarded.Comparison.{Comparison}
use Rattle.case_lines.specs.Results.{Tests, HasRoom, Compared, guard}

-- the array has room for the parts that it was split into, and the guard bytes before the slice are unchanged
pub compared : (array expected before rest slice last : List ℕ) (comparison : Comparison) (unchanged : Bool)
    → HasRoom array (length expected) → before ≡ take 16 array → rest ≡ drop 16 array → slice ≡ take (length expected) rest → last ≡ drop (length expected) rest
    → Tests comparison.bytes_equal (slice ≡ expected)
    → unchanged ≡ true → Tests unchanged (before ≡ guard) → Tests comparison.guards_unchanged (take 16 last ≡ guard)
    → Compared array expected comparison
compared array expected before rest slice last comparison unchanged room b r s l bytes passed first second =
    let e : slice ≡ take (length expected) (drop 16 array) = s ∙ ap (take (length expected)) r in
    let f : take 16 last ≡ take 16 (drop (16 + length expected) array) = ap (take 16) (l ∙ ap (drop (length expected)) r ∙ drop-drop (length expected) 16 array) in
    record {
      bytes = (λ h. (room, sym e ∙ bytes.0 h), λ h. bytes.1 (e ∙ h.1));
      guards = (λ h. (room, (sym b ∙ first.0 passed, sym f ∙ second.0 h)), λ h. second.1 (f ∙ h.1.1));
    }
