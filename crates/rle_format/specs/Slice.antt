-- A slice after a call (FORMAT 1.6): one of these two, or made of them, so that each byte is either given or unchanged.
use Rattle.std.specs.Prelude.{ℕ, ◌+◌, List, ◌++◌, length, take, drop}

-- the slice d with its first bytes replaced by vs
unfoldable pub overwrite : List ℕ → List ℕ → List ℕ
overwrite d vs = vs ++ drop (length vs) d

-- the slice d with its bytes from index `at` on replaced by vs
unfoldable pub write_at : List ℕ → ℕ → List ℕ → List ℕ
write_at d at vs = take at d ++ (vs ++ drop (at + length vs) d)
