-- The rows of a plane when the first m bytes of its packing are unpacked: all of them, or the complete rows and a part of the next.
use mathlib.Core.Path.{◌≡◌, refl, sym, ap, ◌∙◌}
use mathlib.Core.List.{List, ◌++◌, append-nil}
use mathlib.Core.Option.{none}
use Prim.Native.Nat.{ℕ, suc, ◌+◌, ◌*◌, ◌-◌, ◌≤◌, ◌<◌}
use native.Mathlib.Nat.{add-zero, mul_comm, mul-le-mul_right}
use native.Mathlib.Omega.{arith}
use lib.ListN.{length, take}
use lib.Seq.{take_all}
use Rattle.rle_format.specs.Answer.{counted, refused, stop, prepend}
use Rattle.rle_format.specs.Pack.{codes_at, packing}
use Rattle.rle_format.specs.Unpack.{unpack_rows}
use Rattle.rle_format.proofs.Plane.{rows_zero}
use Rattle.rle_round_trip.specs.Prefix.{ValidPlane, PackingPrefix, FirstIncompleteRow, covered_in_row}
use Rattle.rle_round_trip.proofs.Row.{take_beyond}
use Rattle.rle_round_trip.proofs.Samples.{above_at}
use Rattle.rle_round_trip.proofs.Packing.{row_packing, packing_step, length_packing_step, packing_monotone, packing_same_prefix}
use Rattle.rle_round_trip.proofs.Rows.{codes_truncated, rows_then_rest}

-- the first k rows have all their samples
pub rows_within : (width height : ℕ) (samples : List ℕ) → ValidPlane width height samples → (k : ℕ) → k ≤ height → k * width ≤ length samples
rows_within width height samples plane k h = let l : k * width ≤ height * width = mul-le-mul_right width h in omega (arith, mul_comm width height, plane.enough)

module _ (width height m : ℕ) (samples body : List ℕ) (plane : ValidPlane width height samples) (taken : PackingPrefix width height samples m body) where
  pub unpack_complete : m ≡ length (packing width height samples) → unpack_rows width height none body ≡ record { written = take (width * height) samples; answer = counted m }
  unfolding stop prepend
  unpack_complete e =
      let all : body ≡ packing width height samples ++ taken.following =
      taken.is ∙ ap (λ (l : List ℕ). l ++ taken.following) (take_all m (packing width height samples) (omega arith))
      in
      rw (all, mul_comm width height, e)
      (ap (λ (h : ℕ). unpack_rows width h none (packing width height samples ++ taken.following)) (sym (add-zero height))
      ∙ rows_then_rest width samples plane.are_bytes height 0 taken.following (rows_within width height samples plane height (omega arith))
      ∙ rw (rows_zero width (above_at width samples height) taken.following, append-nil (take (height * width) samples), add-zero))

  module _ (r : ℕ) (below : r < height) (next : FirstIncompleteRow width samples m r) where
    body_truncated : body ≡ packing width r samples ++ take (m - length (packing width r samples)) (row_packing width samples r)
    body_truncated =
        taken.is
        ∙ rw (
          taken.none_if_less (omega (arith, packing_monotone width samples (suc r) height below)),
          append-nil (take m (packing width height samples)),
          packing_same_prefix width samples m (suc r) height below (omega arith),
          packing_step width samples r,
        )
        (take_beyond (packing width r samples) (row_packing width samples r) (length (packing width r samples)) m refl next.0)

    pub unpack_truncated : unpack_rows width height none body
        ≡ record { written = take (r * width) samples ++ take (covered_in_row width samples r m) (codes_at width samples r); answer = refused 7 }
    unfolding prepend covered_in_row
    unpack_truncated =
        let rest : List ℕ = take (m - length (packing width r samples)) (row_packing width samples r) in
        let split : height ≡ r + suc (height - suc r) = omega arith in
        let less : m - length (packing width r samples) < length (row_packing width samples r) = omega (arith, length_packing_step width samples r) in
        rw body_truncated
        (ap (λ (h : ℕ). unpack_rows width h none (packing width r samples ++ rest)) split
        ∙ rows_then_rest width samples plane.are_bytes r (suc (height - suc r)) rest (rows_within width height samples plane r (omega arith))
        ∙ rw (codes_truncated width samples r (rows_within width height samples plane (suc r) below) (height - suc r) (m - length (packing width r samples)) (above_at width samples r) less))
