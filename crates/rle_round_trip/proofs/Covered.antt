-- The number of values of the segments that are complete within the first m bytes.
use mathlib.Core.Path.{◌≡◌, ap}
use mathlib.Core.Bool.{Bool}
use mathlib.Core.List.{List, ◌∷◌}
use Prim.Native.Nat.{ℕ, ◌+◌, ◌-◌, ◌≤◌, ◌<◌}
use borrow.Author.Tests.{le-leb, lt-leb}
use Rattle.rle_format.specs.Choice.{choose}
use Rattle.rle_format.specs.Segment.{Segment, segment_size, value_count}
use Rattle.rle_round_trip.specs.Prefix.{covered_values}

module _ (s : Segment) (ss : List Segment) (m : ℕ) where
  pub covered_values_step : segment_size s ≤ m → covered_values (s ∷ ss) m ≡ value_count s + covered_values ss (m - segment_size s)
  unfolding covered_values
  covered_values_step h = ap (λ (t : Bool). choose t (value_count s + covered_values ss (m - segment_size s)) 0) (le-leb (segment_size s) m h)

  pub covered_values_0 : m < segment_size s → covered_values (s ∷ ss) m ≡ 0
  unfolding covered_values
  covered_values_0 h = ap (λ (t : Bool). choose t (value_count s + covered_values ss (m - segment_size s)) 0) (lt-leb (segment_size s) m h)
