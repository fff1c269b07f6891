-- `encode_segment`: its segments are encodable, and their values are the raw values and the run of the last of them.
use mathlib.Core.Path.{◌≡◌, refl, sym, ap, ◌∙◌}
use mathlib.Core.Logic.{inl}
use mathlib.Core.List.{List, [], ◌∷◌, ◌++◌, append_assoc, append-nil}
use Prim.Native.Nat.{ℕ, zero, suc, ◌+◌, ◌*◌, ◌-◌, ◌/◌, ◌≤◌, ◌<◌, min}
use native.Mathlib.Omega.{arith}
use lib.ListN.{length, take, drop, replicate, length-append, length-take, length-drop, replicate-append-replicate, take-append-drop}
use Rattle.rle_format.specs.Segment.{last_or}
use Rattle.rle_format.specs.Pack.{literals_of15, split_segments}
use Rattle.rle_format.proofs.Segments.{segments_values, AllEncodable}
use Rattle.rle_format.proofs.LongRun.{replicate_cong, long_run_encodable, long_run_values}

last_or_append : (before : ℕ) (xs ys : List ℕ) → last_or before (xs ++ ys) ≡ last_or (last_or before xs) ys
last_or_append before [] ys = refl
last_or_append before (x ∷ xs) ys = last_or_append x xs ys

last_or_irrelevant : (a b : ℕ) (xs : List ℕ) → 1 ≤ length xs → last_or a xs ≡ last_or b xs
last_or_irrelevant a b [] h = absurd (omega arith)
last_or_irrelevant a b (x ∷ xs) h = refl

literals_of15_encodable : (k : ℕ) (raw : List ℕ) (run : ℕ) → 15 * k < length raw → length raw ≤ 15 * k + 15 → (run ≡ 1 → ⊥) → (run ≡ 2 → ⊥) → AllEncodable (literals_of15 k raw run)
literals_of15_encodable zero raw run h l a b = (inl (omega arith), long_run_encodable (last_or 0 raw) (run - 15))
literals_of15_encodable (suc k) raw run h l a b =
    let t = length-take 15 raw in
    let d = length-drop 15 raw in
    (inl (omega arith), literals_of15_encodable k (drop 15 raw) run (omega arith) (omega arith) a b)

literals_of15_values : (k before : ℕ) (raw : List ℕ) (run : ℕ) → 15 * k < length raw → length raw ≤ 15 * k + 15
    → segments_values before (literals_of15 k raw run) ≡ raw ++ replicate run (last_or before raw)
literals_of15_values zero before raw run h l =
    rw (
      last_or_irrelevant before 0 raw (omega arith),
      long_run_values (last_or 0 raw) (run - 15),
      append_assoc raw (replicate (min run 15) (last_or 0 raw)) (replicate (run - 15) (last_or 0 raw)),
      replicate-append-replicate (min run 15) (run - 15) (last_or 0 raw),
    )
    (ap (λ (t : List ℕ). raw ++ t) (replicate_cong (min run 15 + (run - 15)) run (last_or 0 raw) (omega arith)))
literals_of15_values (suc k) before raw run h l =
    let d = length-drop 15 raw in
    rw (
      append-nil (take 15 raw),
      literals_of15_values k (last_or before (take 15 raw)) (drop 15 raw) run (omega arith) (omega arith),
      ← last_or_append before (take 15 raw) (drop 15 raw),
      take-append-drop 15 raw,
    )
    (sym (append_assoc (take 15 raw) (drop 15 raw) (replicate run (last_or before raw))) ∙ rw (take-append-drop 15 raw))

split_segments_encodable : (raw : List ℕ) (run : ℕ) → 1 ≤ length raw → (run ≡ 1 → ⊥) → (run ≡ 2 → ⊥) → AllEncodable (split_segments raw run)
unfolding split_segments
split_segments_encodable raw run h a b = literals_of15_encodable ((length raw - 1) / 15) raw run (omega arith) (omega arith) a b

split_segments_values : (before : ℕ) (raw : List ℕ) (run : ℕ) → 1 ≤ length raw → segments_values before (split_segments raw run) ≡ raw ++ replicate run (last_or before raw)
unfolding split_segments
split_segments_values before raw run h = literals_of15_values ((length raw - 1) / 15) before raw run (omega arith) (omega arith)

-- ---- as a row closes a segment: with the run of its last value, or with that value's repeats among the raw values

module _ (pending : List ℕ) (last run : ℕ) where
  pub close_run_encodable : (run ≡ 1 → ⊥) → (run ≡ 2 → ⊥) → AllEncodable (split_segments (pending ++ last ∷ []) run)
  close_run_encodable a b = split_segments_encodable (pending ++ last ∷ []) run (omega (arith, length-append pending (last ∷ []))) a b

  pub close_run_values : (before : ℕ) → segments_values before (split_segments (pending ++ last ∷ []) run) ≡ pending ++ last ∷ replicate run last
  close_run_values before =
      split_segments_values before (pending ++ last ∷ []) run (omega (arith, length-append pending (last ∷ [])))
      ∙ rw (last_or_append before pending (last ∷ []), append_assoc pending (last ∷ []) (replicate run last))

module _ (pending : List ℕ) (last repeats : ℕ) where
  close_raw_not_empty : 1 ≤ length (pending ++ last ∷ replicate repeats last)
  close_raw_not_empty = omega (arith, length-append pending (last ∷ replicate repeats last))

  pub close_raw_encodable : AllEncodable (split_segments (pending ++ last ∷ replicate repeats last) 0)
  close_raw_encodable = split_segments_encodable (pending ++ last ∷ replicate repeats last) 0 close_raw_not_empty (omega arith) (omega arith)

  pub close_raw_values : (before : ℕ) → segments_values before (split_segments (pending ++ last ∷ replicate repeats last) 0) ≡ pending ++ last ∷ replicate repeats last
  close_raw_values before = split_segments_values before (pending ++ last ∷ replicate repeats last) 0 close_raw_not_empty ∙ append-nil (pending ++ last ∷ replicate repeats last)
