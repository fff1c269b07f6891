-- The segments that are left after each call of the segment writer and of the long-run writer. The raw bytes are the first of a longer slice.
use Rattle.std.proofs.Common.{◌≡◌, ℕ, zero, suc, ◌+◌, ◌-◌, ◌<◌, ◌≤◌, min, List, [], ◌∷◌, length, get_or, take, drop, replicate, sym, refl, ap, ◌∙◌, arith, length-take-le, get_or-take, take-take}
use Rattle.rle_format.specs.Segment.{Segment}
use Rattle.rle_format.specs.Pack.{literal, long_run, split_segments}
use Rattle.rle_format.proofs.Slice.{take-drop_swap}
use Rattle.rle_scanline_encoder.proofs.Steps.{long_run_rest, split_step, split_last}
use Rattle.rle_encoder.specs.Put.{Put}
use Rattle.rle_encoder.proofs.Put.{PutHead, put_turn}

-- the last 1 to 15 of a long run: `count` of them are raw bytes, from an array of the value, and the others a run
pub rest_of_run_lem : (last left count : ℕ) → 1 ≤ left → left < 16 → count ≤ 3 → (left < 4 → count ≡ left) × (4 ≤ left → count ≡ 1)
    → long_run last left ≡ split_segments (take count (replicate 18 last)) (left - count)
rest_of_run_lem last left count h k few is = long_run_rest last left count h k is ∙ ap (λ (l : List ℕ). split_segments l (left - count)) (equal count few)
  where
    equal : (n : ℕ) → n ≤ 3 → take (n - 0) (last ∷ last ∷ last ∷ []) ≡ take n (replicate 18 last)
    equal zero l = refl
    equal (suc zero) l = refl
    equal (suc (suc zero)) l = refl
    equal (suc (suc (suc zero))) l = refl
    equal (suc (suc (suc (suc n)))) l = absurd (omega arith)

module _ (raw : List ℕ) (count run start : ℕ) (within : count ≤ length raw) where
  -- a part of the first `count` bytes is a part of all
  pub part_of : (n : ℕ) → start + n ≤ count → take n (drop start (take count raw)) ≡ take n (drop start raw)
  part_of n h = take-drop_swap (take count raw) start n ∙ ap (drop start) (take-take (start + n) count raw h) ∙ sym (take-drop_swap raw start n)

  long : length (take count raw) ≡ count
  long = length-take-le count raw within

  -- more than 15 raw bytes are left
  pub raw_turn : 15 < count - start
      → split_segments (drop start (take count raw)) run ≡ literal (take 15 (drop start raw)) 0 ∷ split_segments (drop (start + 15) (take count raw)) run
  raw_turn h =
      let fifteen : start + 15 - start ≡ 15 = omega arith in
      split_step (take count raw) run start (omega (arith, long))
      ∙ ap (λ (l : List ℕ). literal l 0 ∷ split_segments (drop (start + 15) (take count raw)) run)
      (ap (λ (n : ℕ). take n (drop start (take count raw))) fifteen ∙ part_of 15 (omega arith))

  -- the last 1 to 15 raw bytes, with at most 15 of the run
  pub raw_last : (capped : ℕ) → start < count → count - start ≤ 15 → capped ≡ min run 15
      → split_segments (drop start (take count raw)) run ≡ literal (take (count - start) (drop start raw)) capped ∷ long_run (get_or raw (count - 1) 0) (run - 15)
  raw_last capped h k e =
      let size : length (take count raw) - start ≡ count - start = omega (arith, long) in
      let place : length (take count raw) - 1 ≡ count - 1 = omega (arith, long) in
      let value : get_or (take count raw) (length (take count raw) - 1) 0 ≡ get_or raw (count - 1) 0 =
      ap (λ (n : ℕ). get_or (take count raw) n 0) place ∙ get_or-take count raw (count - 1) 0 (omega arith) in
      let part : take (length (take count raw) - start) (drop start (take count raw)) ≡ take (count - start) (drop start raw) =
      ap (λ (n : ℕ). take n (drop start (take count raw))) size ∙ part_of (count - start) (omega arith) in
      split_last (take count raw) run start capped (omega (arith, long)) (omega (arith, long)) e
      ∙ (λ i. literal (part i) capped ∷ long_run (value i) (run - 15))

  -- these were written, and the rest of the run is left
  pub raw_done : (whole : List Segment) (d₀ d e : List ℕ) (at to next capped : ℕ) → PutHead whole (split_segments (drop start (take count raw)) run) d₀ d at to
      → start < count → count - start ≤ 15 → capped ≡ min run 15 → length e ≡ length d
      → Put (literal (take (count - start) (drop start raw)) capped ∷ []) d e to next
      → PutHead whole (long_run (get_or raw (count - 1) 0) (run - 15)) d₀ e at next
  raw_done whole d₀ d e at to next capped head h k is n put =
      put_turn head (literal (take (count - start) (drop start raw)) capped ∷ []) (long_run (get_or raw (count - 1) 0) (run - 15)) e next (raw_last capped h k is) n put
