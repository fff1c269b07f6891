-- What `encode_segment` and `encode_long_sequence` have left after each of their steps.
use mathlib.Core.Path.{◌≡◌, refl, sym, ap, ◌∙◌}
use mathlib.Core.Logic.{⊎_elim}
use mathlib.Core.List.{List, [], ◌∷◌}
use Prim.Native.Nat.{ℕ, zero, suc, ◌+◌, ◌-◌, ◌≤◌, ◌<◌, min}
use native.Mathlib.Omega.{arith}
use lib.ListN.{length, get_or, take, drop, replicate, length-drop, length-replicate}
use lib.Seq.{drop-drop, take_all, get_or-drop}
use Rattle.std.specs.Prelude.{Ok}
use Rattle.rle_format.specs.Segment.{Segment, last_or}
use Rattle.rle_format.specs.Pack.{literal, repeat, long_run, split_segments}
use Rattle.rle_format.proofs.Cases.{le_or_gt}
use Rattle.rle_format.proofs.Segment.{last_or_take}
use Rattle.rle_format.proofs.WriteLoop.{WriteInvariant, Wrote, write_next}
use Rattle.rle_format.proofs.SegmentSteps.{long_run_step, long_run_1_to_3, long_run_4_to_15, split_segments_short, split_segments_step, split_segments_last}

-- ---- `encode_long_sequence`

pub long_run_part : (last left part : ℕ) → 16 ≤ left → part ≡ min left 47 → long_run last left ≡ repeat part ∷ long_run last (left - part)
long_run_part last left part h e = rw e (long_run_step last left h)

-- 1 to 15 remain: `encode_segment` gets the raw bytes that are due, and the rest as a run
pub long_run_rest : (last left count : ℕ) → 1 ≤ left → left < 16 → (left < 4 → count ≡ left) × (4 ≤ left → count ≡ 1)
    → long_run last left ≡ split_segments (take (count - 0) (last ∷ last ∷ last ∷ [])) (left - count)
long_run_rest last left count h k is =
    ⊎_elim
    (λ (l : 4 ≤ left).
    let one : count ≡ 1 = is.1 l in
    long_run_4_to_15 last left l k
    ∙ sym (split_segments_short (last ∷ []) (left - 1) (omega arith) (omega arith))
    ∙ ap (λ (n : ℕ). split_segments (take (n - 0) (last ∷ last ∷ last ∷ [])) (left - n)) (sym one))
    (λ (l : left < 4).
    let all : left ≡ count - 0 = omega (arith, is.0 l) in
    let none : 0 ≡ left - count = omega (arith, is.0 l) in
    long_run_1_to_3 last left h l
    ∙ sym (split_segments_short (replicate left last) 0 (omega (arith, length-replicate left last)) (omega arith))
    ∙ ap (λ (t : List ℕ). split_segments t 0) (equal left l)
    ∙ (λ i. split_segments (take (all i) (last ∷ last ∷ last ∷ [])) (none i)))
    (le_or_gt 4 left)
  where
    equal : (n : ℕ) → n < 4 → replicate n last ≡ take n (last ∷ last ∷ last ∷ [])
    equal zero l = refl
    equal (suc zero) l = refl
    equal (suc (suc zero)) l = refl
    equal (suc (suc (suc zero))) l = refl
    equal (suc (suc (suc (suc n)))) l = absurd (omega arith)

-- ---- `encode_segment`, of whose raw bytes those before `start` are written

module _ (raw : List ℕ) (run start : ℕ) where
  length_unwritten : length (drop start raw) ≡ length raw - start
  length_unwritten = length-drop start raw

  last_unwritten : start < length raw → last_or 0 (drop start raw) ≡ get_or raw (length raw - 1) 0
  last_unwritten h =
      let all : take (suc (length raw - start - 1)) (drop start raw) ≡ drop start raw = take_all (suc (length raw - start - 1)) (drop start raw) (omega (arith, length_unwritten)) in
      let place : start + (length raw - start - 1) ≡ length raw - 1 = omega arith in
      ap (last_or 0) (sym all)
      ∙ last_or_take (drop start raw) (length raw - start - 1) 0 (omega (arith, length_unwritten))
      ∙ get_or-drop start raw (length raw - start - 1) 0
      ∙ ap (λ (k : ℕ). get_or raw k 0) place

  -- more than 15 are left
  pub split_step : 15 < length raw - start
      → split_segments (drop start raw) run ≡ literal (take (start + 15 - start) (drop start raw)) 0 ∷ split_segments (drop (start + 15) raw) run
  split_step h =
      let fifteen : start + 15 - start ≡ 15 = omega arith in
      rw fifteen (split_segments_step (drop start raw) run (omega (arith, length_unwritten)) ∙ rw (drop-drop 15 start raw))

  -- the last of them go with at most 15 of the run
  pub split_last : (capped : ℕ) → start < length raw → length raw - start ≤ 15 → capped ≡ min run 15
      → split_segments (drop start raw) run ≡ literal (take (length raw - start) (drop start raw)) capped ∷ long_run (get_or raw (length raw - 1) 0) (run - 15)
  split_last capped h k e =
      rw (take_all (length raw - start) (drop start raw) (omega (arith, length_unwritten)), ← last_unwritten h, e)
      (split_segments_last (drop start raw) run (omega (arith, length_unwritten)))

  -- these were written, and the rest of the run is left
  pub run_left : {whole : List Segment} {d now : List ℕ} {at to : ℕ} → WriteInvariant whole (split_segments (drop start raw) run) d now at to
      → (capped : ℕ) → start < length raw → length raw - start ≤ 15 → capped ≡ min run 15
      → (then : List ℕ) (next : ℕ) → Wrote (literal (take (length raw - start) (drop start raw)) capped ∷ []) now then to (Ok next)
      → WriteInvariant whole (long_run (get_or raw (length raw - 1) 0) (run - 15)) d then at next
  run_left head capped h k e then next wrote =
      write_next head (literal (take (length raw - start) (drop start raw)) capped ∷ []) (long_run (get_or raw (length raw - 1) 0) (run - 15)) then (Ok next) next
      (split_last capped h k e) wrote refl
