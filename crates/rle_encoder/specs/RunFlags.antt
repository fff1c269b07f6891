-- The flags of a row: 1 where a coded value and the next three are equal, so that a run begins or goes on there. Only contracts of inner
-- functions use this.
use Rattle.std.specs.Prelude.{◌≡◌, ℕ, ◌+◌, ◌*◌, ◌<◌, ◌≤◌, ◌&&◌, List, [], ◌∷◌, ◌==◌, slice_index}
use Rattle.rle_format.specs.Choice.{choose}

-- 1 if the four are equal, else 0
unfoldable pub four_equal_of : (a b c d : ℕ) → ℕ
four_equal_of a b c d = choose (a == b && a == c && a == d) 1 0

-- the flag of the value at index j
abbrev pub flag_at : (codes : List ℕ) (j : ℕ) → ℕ
flag_at codes j = four_equal_of (slice_index codes j) (slice_index codes (j + 1)) (slice_index codes (j + 2)) (slice_index codes (j + 3))

-- the flags from one index up to another are those of the values
abbrev pub Flagged : (codes flags : List ℕ) (from to : ℕ) → Type 0
Flagged codes flags from to = (j : ℕ) → from ≤ j → j < to → slice_index flags j ≡ flag_at codes j

-- the flags from one index up to another are 0 or 1
abbrev pub Bits : (flags : List ℕ) (from to : ℕ) → Type 0
Bits flags from to = (j : ℕ) → from ≤ j → j < to → slice_index flags j ≤ 1

-- the flags from one index up to another are all v
abbrev pub AllAre : (v : ℕ) (flags : List ℕ) (from to : ℕ) → Type 0
AllAre v flags from to = (j : ℕ) → from ≤ j → j < to → slice_index flags j ≡ v

-- bytes as one number, the first byte lowest
abbrev pub word_of : List ℕ → ℕ
word_of [] = 0
word_of (x ∷ xs) = x + 256 * word_of xs

-- the eight flags from an index on
abbrev pub eight_at : (flags : List ℕ) (at : ℕ) → List ℕ
eight_at flags at =
    slice_index flags at
    ∷ slice_index flags (at + 1)
    ∷ slice_index flags (at + 2)
    ∷ slice_index flags (at + 3)
    ∷ slice_index flags (at + 4)
    ∷ slice_index flags (at + 5)
    ∷ slice_index flags (at + 6)
    ∷ slice_index flags (at + 7)
    ∷ []

-- these eight flags as one word
unfoldable pub flag_word : (flags : List ℕ) (at : ℕ) → ℕ
flag_word flags at = word_of (eight_at flags at)

-- a word that has a 1 for each of these eight that is not v, where v is 0 or 1
abbrev pub OthersWord : (v : ℕ) (flags : List ℕ) (at w : ℕ) → Type 0
OthersWord v flags at w = (v ≡ 0 → w ≡ flag_word flags at) × (v ≡ 1 → w + flag_word flags at ≡ 0x0101010101010101)
