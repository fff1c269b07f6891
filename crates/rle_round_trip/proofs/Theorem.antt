-- The prefix theorem holds for every plane, every m and every destination.
use mathlib.Core.Path.{◌≡◌, ◌∙◌}
use mathlib.Core.Logic.{⊎_elim}
use mathlib.Core.List.{List, [], ◌++◌, append_assoc, append-nil}
use mathlib.Core.Option.{none}
use Prim.Native.Nat.{ℕ, suc, ◌*◌, ◌≤◌, ◌<◌}
use native.Mathlib.Nat.{mul_comm, mul-le-mul_right}
use native.Mathlib.Omega.{arith}
use lib.ListN.{length, take, drop}
use Rattle.rle_format.specs.Answer.{Answer, counted, refused}
use Rattle.rle_format.specs.Slice.{overwrite}
use Rattle.rle_format.specs.Pack.{row_at, codes_at, packing}
use Rattle.rle_format.specs.Unpack.{unpack_rows, unpack_plane}
use Rattle.rle_format.proofs.Cases.{le_or_gt}
use Rattle.rle_format.proofs.RowAt.{row_at_prefix}
use Rattle.rle_format.proofs.Outcome.{answer_cong, slice_cong}
use Rattle.rle_format.proofs.Plane.{plane_rows}
use Rattle.rle_round_trip.specs.Prefix.{ValidPlane, PackingPrefix, RowComplete, FirstIncompleteRow, covered_in_row, PrefixResult}
use Rattle.rle_round_trip.specs.Claim.{PrefixClaim}
use Rattle.rle_round_trip.proofs.Packing.{packing_monotone, incomplete_row_exists}
use Rattle.rle_round_trip.proofs.Prefix.{rows_within, unpack_complete, unpack_truncated}

module _ (width height m : ℕ) (samples body dst : List ℕ) (plane : ValidPlane width height samples) (taken : PackingPrefix width height samples m body)
    (room : width * height ≤ length dst) where
  -- what the destination holds then, and the answer
  abbrev left : List ℕ
  left = overwrite dst (unpack_plane width height (length dst) body).written

  abbrev given : Answer
  given = (unpack_plane width height (length dst) body).answer

  -- the plane passes the checks
  sides_and_room_pass : unpack_plane width height (length dst) body ≡ unpack_rows width height none body
  sides_and_room_pass = plane_rows width height (length dst) body (omega (arith, plane)) (omega (arith, plane)) plane.wide.1 plane.high.1 room

  complete_outcome : m ≡ length (packing width height samples) → unpack_plane width height (length dst) body ≡ record { written = take (width * height) samples; answer = counted m }
  complete_outcome e = sides_and_room_pass ∙ unpack_complete width height m samples body plane taken e

  truncated_outcome : (r : ℕ) → r < height → FirstIncompleteRow width samples m r → unpack_plane width height (length dst) body
      ≡ record { written = take (r * width) samples ++ take (covered_in_row width samples r m) (codes_at width samples r); answer = refused 7 }
  truncated_outcome r h n = sides_and_room_pass ∙ unpack_truncated width height m samples body plane taken r h n

  -- a row whose samples are written keeps them, whatever is written behind it
  row_kept : (r k : ℕ) → r < k → k ≤ height → (vs : List ℕ) → row_at width (overwrite dst (take (k * width) samples ++ vs)) r ≡ row_at width samples r
  unfolding overwrite
  row_kept r k h l vs =
      rw (append_assoc (take (k * width) samples) vs (drop (length (take (k * width) samples ++ vs)) dst))
      (row_at_prefix width r (k * width) samples (vs ++ drop (length (take (k * width) samples ++ vs)) dst) (mul-le-mul_right width h) (rows_within width height samples plane k l))

  row_restored : (r : ℕ) → r < height → RowComplete width samples m r → row_at width left r ≡ row_at width samples r
  row_restored r h whole =
      ⊎_elim
      (λ (l : length (packing width height samples) ≤ m).
      rw (complete_outcome (omega (arith, taken.most)), mul_comm width height, ← append-nil (take (height * width) samples)) (row_kept r height h (omega arith) []))
      (λ (l : m < length (packing width height samples)).
      let it = incomplete_row_exists width samples m height l in
      let k = it.0 in
      let above : r < k =
      ⊎_elim
      (λ (p : r < k). p)
      (λ (p : k < suc r). absurd (omega (arith, it, packing_monotone width samples (suc k) (suc r) p)))
      (le_or_gt (suc r) k)
      in
      rw (truncated_outcome k it.1 it.2) (row_kept r k above (omega arith) (take (covered_in_row width samples k m) (codes_at width samples k))))
      (le_or_gt (length (packing width height samples)) m)

  holds : PrefixResult width height samples dst m left given
  holds =
      record {
        rows = row_restored;
        all = λ e. (
          (λ r h. let l = packing_monotone width samples (suc r) height h in omega arith),
          answer_cong (complete_outcome e),
          slice_cong dst (complete_outcome e),
        );
        part = λ h. let it = incomplete_row_exists width samples m height h in (answer_cong (truncated_outcome it.0 it.1 it.2), it);
        next = λ r h n. slice_cong dst (truncated_outcome r h n);
      }

pub prefix_theorem : PrefixClaim
prefix_theorem width height samples plane m body taken dst room = holds width height m samples body dst plane taken room
