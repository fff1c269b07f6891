-- The segments of a row are encodable, and their values are its coded values.
use mathlib.Core.Path.{◌≡◌, refl, sym, ap, ◌∙◌}
use mathlib.Core.Logic.{⊎_elim}
use mathlib.Core.List.{List, [], ◌∷◌, ◌++◌, append_assoc, append-nil}
use Prim.Native.Nat.{ℕ, zero, suc, ◌≤◌, ◌<◌}
use native.Mathlib.Omega.{arith}
use lib.ListN.{length, replicate}
use Rattle.rle_format.specs.Pack.{split_segments, scan_segments, row_segments}
use Rattle.rle_format.proofs.Cases.{le_or_gt, eq_or_ne}
use Rattle.rle_format.proofs.SegmentSteps.{scan_segments-repeat, scan_segments_close, scan_segments_join, scan_segments_end_run, scan_segments_end_raw}
use Rattle.rle_format.proofs.Segments.{segments_values, segments_count, last_byte_after_all, AllEncodable, length-segments_values, segments_values-append, encodable_append}
use Rattle.rle_format.proofs.SplitSegments.{close_run_encodable, close_run_values, close_raw_encodable, close_raw_values}

scan_segments_encodable : (pending : List ℕ) (last repeats : ℕ) (rest : List ℕ) → AllEncodable (scan_segments pending last repeats rest)
scan_segments_encodable pending last repeats [] =
    ⊎_elim
    (λ (h : 3 ≤ repeats). rw (scan_segments_end_run pending last repeats h) (close_run_encodable pending last repeats (omega arith) (omega arith)))
    (λ (h : repeats < 3). rw (scan_segments_end_raw pending last repeats h) (close_raw_encodable pending last repeats))
    (le_or_gt 3 repeats)
scan_segments_encodable pending last repeats (value ∷ rest) =
    ⊎_elim
    (λ (e : value ≡ last). rw (scan_segments-repeat pending last repeats value rest e) (scan_segments_encodable pending last (suc repeats) rest))
    (λ (e : value ≡ last → ⊥).
    ⊎_elim
    (λ (h : 3 ≤ repeats).
    rw (scan_segments_close pending last repeats value rest e h)
    (encodable_append (split_segments (pending ++ last ∷ []) repeats) (scan_segments [] value 0 rest) (close_run_encodable pending last repeats (omega arith) (omega arith)) (scan_segments_encodable [] value 0 rest)))
    (λ (h : repeats < 3). rw (scan_segments_join pending last repeats value rest e h) (scan_segments_encodable (pending ++ last ∷ replicate repeats last) value 0 rest))
    (le_or_gt 3 repeats))
    (eq_or_ne value last)

replicate_snoc : (n v : ℕ) (rest : List ℕ) → replicate (suc n) v ++ rest ≡ replicate n v ++ v ∷ rest
replicate_snoc zero v rest = refl
replicate_snoc (suc n) v rest = ap {B = List ℕ} (λ t. v ∷ t) (replicate_snoc n v rest)

repeats_snoc : (pending : List ℕ) (last repeats value : ℕ) (rest : List ℕ) → value ≡ last
    → (pending ++ last ∷ replicate (suc repeats) last) ++ rest ≡ (pending ++ last ∷ replicate repeats last) ++ value ∷ rest
repeats_snoc pending last repeats value rest e =
    append_assoc pending (last ∷ replicate (suc repeats) last) rest
    ∙ rw (e, replicate_snoc repeats last rest) (sym (append_assoc pending (last ∷ replicate repeats last) (last ∷ rest)))

scan_segments_values : (before : ℕ) (pending : List ℕ) (last repeats : ℕ) (rest : List ℕ)
    → segments_values before (scan_segments pending last repeats rest) ≡ (pending ++ last ∷ replicate repeats last) ++ rest
scan_segments_values before pending last repeats [] =
    ⊎_elim
    (λ (h : 3 ≤ repeats). rw (scan_segments_end_run pending last repeats h) (close_run_values pending last repeats before ∙ sym (append-nil (pending ++ last ∷ replicate repeats last))))
    (λ (h : repeats < 3). rw (scan_segments_end_raw pending last repeats h) (close_raw_values pending last repeats before ∙ sym (append-nil (pending ++ last ∷ replicate repeats last))))
    (le_or_gt 3 repeats)
scan_segments_values before pending last repeats (value ∷ rest) =
    ⊎_elim
    (λ (e : value ≡ last). rw (scan_segments-repeat pending last repeats value rest e) (scan_segments_values before pending last (suc repeats) rest ∙ repeats_snoc pending last repeats value rest e))
    (λ (e : value ≡ last → ⊥).
    ⊎_elim
    (λ (h : 3 ≤ repeats).
    rw (scan_segments_close pending last repeats value rest e h)
    (segments_values-append before (split_segments (pending ++ last ∷ []) repeats) (scan_segments [] value 0 rest)
    ∙ rw (close_run_values pending last repeats before, scan_segments_values (last_byte_after_all before (split_segments (pending ++ last ∷ []) repeats)) [] value 0 rest)))
    (λ (h : repeats < 3).
    rw (scan_segments_join pending last repeats value rest e h)
    (scan_segments_values before (pending ++ last ∷ replicate repeats last) value 0 rest ∙ append_assoc (pending ++ last ∷ replicate repeats last) (value ∷ []) rest))
    (le_or_gt 3 repeats))
    (eq_or_ne value last)

pub row_segments_encodable : (codes : List ℕ) → AllEncodable (row_segments codes)
unfolding row_segments
row_segments_encodable [] = tt
row_segments_encodable (value ∷ rest) = scan_segments_encodable [] value 0 rest

pub row_segments_values : (codes : List ℕ) → segments_values 0 (row_segments codes) ≡ codes
unfolding row_segments
row_segments_values [] = refl
row_segments_values (value ∷ rest) = scan_segments_values 0 [] value 0 rest

pub row_segments_count : (codes : List ℕ) → segments_count (row_segments codes) ≡ length codes
row_segments_count codes = sym (length-segments_values 0 (row_segments codes)) ∙ ap length (row_segments_values codes)
