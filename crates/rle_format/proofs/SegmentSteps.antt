-- The segments of a row, one step at a time: used by the packer's loops.
use mathlib.Core.Path.{◌≡◌, ap, ap₂, ◌∙◌}
use mathlib.Core.Logic.{⊎_elim}
use mathlib.Core.List.{List, [], ◌∷◌, ◌++◌}
use Prim.Native.Nat.{ℕ, suc, ◌-◌, ◌/◌, ◌%◌, ◌≤◌, ◌<◌, min}
use native.Mathlib.Omega.{arith}
use borrow.Author.Tests.{le-leb, lt-leb, eq-eqb, ne_eqb}
use lib.ListN.{length, take, drop, replicate, length-drop}
use Rattle.rle_format.specs.Segment.{Segment, last_or}
use Rattle.rle_format.specs.Pack.{literal, repeat, runs_of47, long_run, literals_of15, split_segments, scan_segments}
use Rattle.rle_format.proofs.Cases.{le_or_gt}

-- ---- `encode_long_sequence`

pub long_run_0 : (last run : ℕ) → run ≡ 0 → long_run last run ≡ []
unfolding long_run
long_run_0 last run e = ap (λ (k : ℕ). runs_of47 (k / 47) last (k % 47)) e

-- 16 or more remain: at most 47 go out in one control byte
pub long_run_step : (last run : ℕ) → 16 ≤ run → long_run last run ≡ repeat (min run 47) ∷ long_run last (run - min run 47)
unfolding long_run
long_run_step last run h =
    ⊎_elim
    (λ k.
    let e : min run 47 ≡ 47 = omega arith in
    let q : run / 47 ≡ suc ((run - 47) / 47) = omega arith in
    let r : run % 47 ≡ (run - 47) % 47 = omega arith in
    rw (e, q, r))
    (λ k.
    let e : min run 47 ≡ run = omega arith in
    let o : run - run ≡ 0 = omega arith in
    let q : run / 47 ≡ 0 = omega arith in
    let r : run % 47 ≡ run = omega arith in
    rw (e, o, q, r, le-leb 16 run h))
    (le_or_gt 47 run)

-- 4 to 15 remain: one raw byte and a run one shorter
pub long_run_4_to_15 : (last run : ℕ) → 4 ≤ run → run < 16 → long_run last run ≡ literal (last ∷ []) (run - 1) ∷ []
unfolding long_run
long_run_4_to_15 last run h k =
    let q : run / 47 ≡ 0 = omega arith in
    let r : run % 47 ≡ run = omega arith in
    rw (q, r, lt-leb 16 run k, le-leb 4 run h)

-- 1 to 3 remain: they go raw
pub long_run_1_to_3 : (last run : ℕ) → 1 ≤ run → run < 4 → long_run last run ≡ literal (replicate run last) 0 ∷ []
unfolding long_run
long_run_1_to_3 last run h k =
    let q : run / 47 ≡ 0 = omega arith in
    let r : run % 47 ≡ run = omega arith in
    rw (q, r, lt-leb 16 run (omega arith), lt-leb 4 run k, le-leb 1 run h)

-- ---- `encode_segment`

-- more than 15 raw bytes are pending: 15 go out with run 0
pub split_segments_step : (raw : List ℕ) (run : ℕ) → 15 < length raw → split_segments raw run ≡ literal (take 15 raw) 0 ∷ split_segments (drop 15 raw) run
unfolding split_segments
split_segments_step raw run h =
    let d = length-drop 15 raw in
    let e : (length raw - 1) / 15 ≡ suc ((length (drop 15 raw) - 1) / 15) = omega arith in
    ap (λ (k : ℕ). literals_of15 k raw run) e

-- the last 1 to 15 go with the run, at most 15 of it
pub split_segments_last : (raw : List ℕ) (run : ℕ) → length raw ≤ 15 → split_segments raw run ≡ literal raw (min run 15) ∷ long_run (last_or 0 raw) (run - 15)
unfolding split_segments
split_segments_last raw run h =
    let e : (length raw - 1) / 15 ≡ 0 = omega arith in
    ap (λ (k : ℕ). literals_of15 k raw run) e

-- of a run of up to 15 `encode_long_sequence` has nothing
pub split_segments_short : (raw : List ℕ) (run : ℕ) → length raw ≤ 15 → run ≤ 15 → split_segments raw run ≡ literal raw run ∷ []
split_segments_short raw run h k =
    let e : min run 15 ≡ run = omega arith in
    split_segments_last raw run h
    ∙ ap₂ (λ (n : ℕ) (ss : List Segment). literal raw n ∷ ss) e (long_run_0 (last_or 0 raw) (run - 15) (omega arith))

-- ---- the row

module _ (pending : List ℕ) (last repeats : ℕ) where
  -- the value once more
  pub scan_segments-repeat : (value : ℕ) (rest : List ℕ) → value ≡ last → scan_segments pending last repeats (value ∷ rest) ≡ scan_segments pending last (suc repeats) rest
  unfolding scan_segments
  scan_segments-repeat value rest e = rw (eq-eqb value last e, scan_segments)

  -- another value after 3 or more repeats: they end a segment
  pub scan_segments_close : (value : ℕ) (rest : List ℕ) → (value ≡ last → ⊥) → 3 ≤ repeats
      → scan_segments pending last repeats (value ∷ rest) ≡ split_segments (pending ++ last ∷ []) repeats ++ scan_segments [] value 0 rest
  unfolding scan_segments
  scan_segments_close value rest e h = cc (ne_eqb value last e, le-leb 3 repeats h)

  -- another value after fewer: they join the raw values
  pub scan_segments_join : (value : ℕ) (rest : List ℕ) → (value ≡ last → ⊥) → repeats < 3
      → scan_segments pending last repeats (value ∷ rest) ≡ scan_segments (pending ++ last ∷ replicate repeats last) value 0 rest
  unfolding scan_segments
  scan_segments_join value rest e h = cc (ne_eqb value last e, lt-leb 3 repeats h)

  -- the row's end, by the same rule
  pub scan_segments_end_run : 3 ≤ repeats → scan_segments pending last repeats [] ≡ split_segments (pending ++ last ∷ []) repeats
  unfolding scan_segments
  scan_segments_end_run h = rw (le-leb 3 repeats h)

  pub scan_segments_end_raw : repeats < 3 → scan_segments pending last repeats [] ≡ split_segments (pending ++ last ∷ replicate repeats last) 0
  unfolding scan_segments
  scan_segments_end_raw h = rw (lt-leb 3 repeats h)
