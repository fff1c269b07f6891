-- The packing of the rows from the first on, one row more at a time.
use mathlib.Core.Path.{◌≡◌, refl, ap, ◌∙◌}
use mathlib.Core.Logic.{⊎_elim}
use mathlib.Core.List.{List, [], ◌++◌}
use Prim.Native.Nat.{ℕ, zero, suc, ◌+◌, ◌≤◌, ◌<◌}
use native.Mathlib.Omega.{arith}
use lib.ListN.{length, take, length-append}
use lib.Seq.{take-append-le}
use Rattle.rle_format.specs.Segment.{segments_bytes}
use Rattle.rle_format.specs.Pack.{row_segments, codes_at, plane_segments, packing}
use Rattle.rle_format.proofs.Cases.{le_or_gt}
use Rattle.rle_round_trip.specs.Prefix.{FirstIncompleteRow}
use Rattle.rle_format.proofs.Segments.{segments_bytes-append}

-- the bytes of row r alone
unfoldable pub row_packing : (width : ℕ) (samples : List ℕ) (r : ℕ) → List ℕ
row_packing width samples r = segments_bytes (row_segments (codes_at width samples r))

module _ (width : ℕ) (samples : List ℕ) where
  pub packing_0 : packing width 0 samples ≡ []
  unfolding packing plane_segments
  packing_0 = refl

  pub packing_step : (k : ℕ) → packing width (suc k) samples ≡ packing width k samples ++ row_packing width samples k
  unfolding packing plane_segments row_packing
  packing_step k = segments_bytes-append (plane_segments width k samples) (row_segments (codes_at width samples k))

  pub length_packing_step : (k : ℕ) → length (packing width (suc k) samples) ≡ length (packing width k samples) + length (row_packing width samples k)
  length_packing_step k = ap length (packing_step k) ∙ length-append (packing width k samples) (row_packing width samples k)

  -- more rows have at least as many bytes
  pub packing_monotone : (k height : ℕ) → k ≤ height → length (packing width k samples) ≤ length (packing width height samples)
  packing_monotone k zero h = let e : k ≡ 0 = omega arith in rw e (omega arith)
  packing_monotone k (suc height) h =
      ⊎_elim
      (λ (l : k ≤ height). omega (arith, packing_monotone k height l, length_packing_step height))
      (λ (l : height < k). let e : k ≡ suc height = omega arith in rw e (omega arith))
      (le_or_gt k height)

  -- and they begin with the same bytes
  pub packing_same_prefix : (m k height : ℕ) → k ≤ height → m ≤ length (packing width k samples) → take m (packing width height samples) ≡ take m (packing width k samples)
  packing_same_prefix m k zero h l = let e : k ≡ 0 = omega arith in rw e
  packing_same_prefix m k (suc height) h l =
      ⊎_elim
      (λ (below : k ≤ height).
      rw (packing_step height)
      (take-append-le m (packing width height samples) (row_packing width samples height) (omega (arith, packing_monotone k height below))
      ∙ packing_same_prefix m k height below l))
      (λ (at-end : height < k). let e : k ≡ suc height = omega arith in rw e)
      (le_or_gt k height)

  -- if m is less than all, there is a first incomplete row
  pub incomplete_row_exists : (m height : ℕ) → m < length (packing width height samples) → (r : ℕ) × (r < height) × FirstIncompleteRow width samples m r
  incomplete_row_exists m zero h = absurd (omega (arith, ap length packing_0))
  incomplete_row_exists m (suc height) h =
      ⊎_elim
      (λ (l : length (packing width height samples) ≤ m). (height, omega arith, (l, h)))
      (λ (l : m < length (packing width height samples)). let it = incomplete_row_exists m height l in (it.0, omega arith, it.2))
      (le_or_gt (length (packing width height samples)) m)
