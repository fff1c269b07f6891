-- Segments written into an array with room for them and 16 bytes more. Only contracts of inner functions use this.
use Rattle.std.specs.Prelude.{◌≡◌, ℕ, ◌+◌, ◌≤◌, List, ◌++◌, length, take, slice_index}
use Rattle.rle_format.specs.Segment.{Segment, segments_bytes}

-- an array that was d₀ is now d: from an index on nothing changed
abbrev pub SameFrom : (d₀ d : List ℕ) (from : ℕ) → Type 0
SameFrom d₀ d from = (j : ℕ) → from ≤ j → slice_index d j ≡ slice_index d₀ j

-- the segments were written from index `at` on, and r is the index behind them. Of the 16 bytes behind them nothing is said
abbrev pub Put : List Segment → (d₀ d : List ℕ) (at r : ℕ) → Type 0
Put ss d₀ d at r = (r ≡ at + length (segments_bytes ss)) × (take r d ≡ take at d₀ ++ segments_bytes ss) × SameFrom d₀ d (r + 16)
