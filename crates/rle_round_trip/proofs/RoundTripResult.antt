-- The prefix theorem on real slices: the slice that was packed into begins with the packing; and the contract of
-- `round_trip` leaves one answer and one destination.
use mathlib.Core.Path.{◌≡◌, refl, sym, ap, ◌∙◌}
use mathlib.Core.Logic.{⊎_elim}
use mathlib.Core.List.{List, [], ◌++◌, append-nil}
use Prim.Native.Nat.{ℕ, ◌-◌, ◌≤◌, ◌<◌, min}
use native.Mathlib.Omega.{arith}
use lib.ListN.{length, take, drop, get_or}
use lib.Seq.{take-append-le, take_at, take_all}
use Rattle.rle_format.specs.declared.Refusal.{Refusal}
use Rattle.std.specs.Prelude.{true, Result, Ok, Err, is_ok}
use Rattle.rle_format.specs.Answer.{Answer, counted, refused, number, to_answer}
use Rattle.rle_format.specs.Slice.{overwrite}
use Rattle.rle_format.specs.Pack.{packing, pack_plane}
use Rattle.rle_format.proofs.Answer.{refused_not_counted, number_injective}
use Rattle.rle_format.proofs.Cases.{le_or_gt}
use Rattle.rle_format.proofs.PackPlane.{PackedComplete, packed_complete}
use Rattle.rle_round_trip.specs.declared.RoundTripError.{RoundTripError}
use Rattle.rle_round_trip.specs.declared.RoundTripError.TheVariants.{NotPacked, TooLong, NotUnpacked}
use Rattle.rle_round_trip.specs.Prefix.{ValidPlane, PackingPrefix}
use Rattle.rle_round_trip.specs.RoundTripResult.{UnpackDone, UnpackResult, TripDone, RoundTripResult}
use Rattle.rle_round_trip.proofs.Row.{take_beyond}
use Rattle.rle_round_trip.proofs.Theorem.{prefix_theorem}

-- a result that is not a refusal is a count
pub count_of_ok : (r : Result ℕ Refusal) → is_ok r ≡ true → (n : ℕ) × (to_answer r ≡ counted n)
count_of_ok (Ok n) e = (n, refl)
count_of_ok (Err k) e = absurd cc

module _ (width height : ℕ) (samples before packed : List ℕ) (are_bytes : (i : ℕ) → get_or samples i 0 < 256)
    (is : packed ≡ overwrite before (pack_plane width height (length before) samples).written) where
  module _ (n : ℕ) (made : (pack_plane width height (length before) samples).answer ≡ counted n) where
    whole : PackedComplete width height (length before) samples n
    whole = packed_complete width height (length before) samples n made

    plane : ValidPlane width height samples
    plane = record { wide = whole.wide; high = whole.high; enough = whole.enough; are_bytes = are_bytes }

    -- the slice begins with the packing
    packed_begins : packed ≡ packing width height samples ++ drop (length (packing width height samples)) before
    unfolding overwrite
    packed_begins = is ∙ ap (λ (l : List ℕ). l ++ drop (length l) before) whole.whole

    take_packed : take n packed ≡ packing width height samples
    take_packed = ap (take n) packed_begins ∙ take_at (packing width height samples) (drop (length (packing width height samples)) before) n (sym whole.size)

    -- and its first bytes are the first of the packing
    packing_prefix : (end : ℕ) → PackingPrefix width height samples (min end n) (take end packed)
    packing_prefix end =
        let N : ℕ = length (packing width height samples) in
        let size = whole.size in
        ⊎_elim
        (λ (h : end ≤ N).
        let m : min end n ≡ end = omega arith in
        record {
          following = [];
          most = omega arith;
          none_if_less = λ l. refl;
          is = ap (take end) packed_begins
              ∙ take-append-le end (packing width height samples) (drop N before) h
              ∙ ap (λ (k : ℕ). take k (packing width height samples)) (sym m)
              ∙ sym (append-nil (take (min end n) (packing width height samples)));
        })
        (λ (h : N < end).
        let m : min end n ≡ N = omega arith in
        record {
          following = take (end - N) (drop N before);
          most = omega arith;
          none_if_less = λ l. absurd (omega arith);
          is = ap (take end) packed_begins
              ∙ take_beyond (packing width height samples) (drop N before) N end refl (omega arith)
              ∙ ap (λ (l : List ℕ). l ++ take (end - N) (drop N before)) (sym (take_all (min end n) (packing width height samples) (omega arith)));
        })
        (le_or_gt end N)

    trip_done : (end : ℕ) (dst left : List ℕ) (given : Answer) → UnpackDone width height packed end dst left given
        → TripDone width height samples (pack_plane width height (length before) samples).answer packed end dst left given
    trip_done end dst left given it = (
      (n, made, whole.size, take_packed, λ room. rw (it.2, it.1) (prefix_theorem width height samples plane (min end n) (take end packed) (packing_prefix end) dst room)),
      it,
    )

  -- from what packing answered and what unpacking did
  pub round_trip_result : (n end : ℕ) (dst left : List ℕ) (r : Result ℕ RoundTripError) → (pack_plane width height (length before) samples).answer ≡ counted n
      → UnpackResult width height packed end dst left r → RoundTripResult width height samples (pack_plane width height (length before) samples).answer packed end dst left r
  round_trip_result n end dst left (Ok m) made it = trip_done n made end dst left (counted m) it
  round_trip_result n end dst left (Err (NotPacked k)) made it = absurd it
  round_trip_result n end dst left (Err TooLong) made it = ((n, made), it)
  round_trip_result n end dst left (Err (NotUnpacked k)) made it = trip_done n made end dst left (refused (number k)) it

-- ---- one answer, one destination

module _ (width height : ℕ) (samples : List ℕ) (made : Answer) (packed : List ℕ) (end : ℕ) (dst : List ℕ) where
  refused_and_counted : {X : Type 0} (k n : ℕ) → made ≡ refused k → made ≡ counted n → X
  refused_and_counted k n a b = let z : ◌≡◌ {A = ℕ} 0 1 = cc (a, b) in absurd (omega arith)

  -- two answers of unpacking are the same
  same_given : (left other : List ℕ) (given again : Answer) → TripDone width height samples made packed end dst left given → TripDone width height samples made packed end dst other again
      → (given ≡ again) × (left ≡ other)
  same_given left other given again p q = (p.1.1 ∙ sym q.1.1, p.1.2 ∙ sym q.1.2)

  -- unpacking is not begun if the slice is too short
  not_begun : {X : Type 0} (left other : List ℕ) (given : Answer) → TripDone width height samples made packed end dst left given
      → RoundTripResult width height samples made packed end dst other (Err TooLong) → X
  not_begun left other given p q = let a = p.1.0 in let b = q.1.0 in absurd (omega arith)

  pub round_trip_determined : (left other : List ℕ) (r s : Result ℕ RoundTripError) → RoundTripResult width height samples made packed end dst left r
      → RoundTripResult width height samples made packed end dst other s → (r ≡ s) × (left ≡ other)
  round_trip_determined left other (Ok n) (Ok m) p q =
      let same = same_given left other (counted n) (counted m) p q in
      let e : n ≡ m = cc same.0 in
      (ap (λ (k : ℕ). Ok k) e, same.1)
  round_trip_determined left other (Ok n) (Err (NotPacked k)) p q = refused_and_counted (number k) p.0.0 q.0 p.0.1
  round_trip_determined left other (Ok n) (Err TooLong) p q = not_begun left other (counted n) p q
  round_trip_determined left other (Ok n) (Err (NotUnpacked k)) p q = refused_not_counted (sym (same_given left other (counted n) (refused (number k)) p q).0)
  round_trip_determined left other (Err (NotPacked k)) (Ok n) p q = refused_and_counted (number k) q.0.0 p.0 q.0.1
  round_trip_determined left other (Err (NotPacked k)) (Err (NotPacked j)) p q =
      let same : number k ≡ number j = cc (p.0, q.0) in
      (ap (λ (r : Refusal). Err (NotPacked r)) (number_injective k j same), p.1 ∙ sym q.1)
  round_trip_determined left other (Err (NotPacked k)) (Err TooLong) p q = refused_and_counted (number k) q.0.0 p.0 q.0.1
  round_trip_determined left other (Err (NotPacked k)) (Err (NotUnpacked j)) p q = refused_and_counted (number k) q.0.0 p.0 q.0.1
  round_trip_determined left other (Err TooLong) (Ok n) p q = not_begun other left (counted n) q p
  round_trip_determined left other (Err TooLong) (Err (NotPacked k)) p q = refused_and_counted (number k) p.0.0 q.0 p.0.1
  round_trip_determined left other (Err TooLong) (Err TooLong) p q = (refl, p.1.1 ∙ sym q.1.1)
  round_trip_determined left other (Err TooLong) (Err (NotUnpacked k)) p q = not_begun other left (refused (number k)) q p
  round_trip_determined left other (Err (NotUnpacked k)) (Ok n) p q = refused_not_counted (same_given left other (refused (number k)) (counted n) p q).0
  round_trip_determined left other (Err (NotUnpacked k)) (Err (NotPacked j)) p q = refused_and_counted (number j) p.0.0 q.0 p.0.1
  round_trip_determined left other (Err (NotUnpacked k)) (Err TooLong) p q = not_begun left other (refused (number k)) p q
  round_trip_determined left other (Err (NotUnpacked k)) (Err (NotUnpacked j)) p q =
      let same = same_given left other (refused (number k)) (refused (number j)) p q in
      let e : number k ≡ number j = cc same.0 in
      (ap (λ (r : Refusal). Err (NotUnpacked r)) (number_injective k j e), same.1)
