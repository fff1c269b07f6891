-- Reading a segment: what is at an index of the body, and what is known of a segment that was read.
use mathlib.Core.Path.{◌≡◌, refl, sym, ap, ◌∙◌}
use mathlib.Core.Bool.{Bool, true, false}
use mathlib.Core.Logic.{⊎_elim}
use mathlib.Core.List.{List, [], ◌∷◌}
use Prim.Native.Nat.{ℕ, zero, suc, ◌+◌, ◌-◌, ◌/◌, ◌%◌, ◌≤◌, ◌<◌}
use native.Mathlib.Omega.{arith}
use native.Mathlib.Numerals.{add-one}
use borrow.Author.Tests.{ltb-false, eq-eqb, ne_eqb, lt-ltb, le-ltb, eqb-false}
use lib.Dec.{ltb, eqb}
use lib.ListN.{length, take, drop, get_or, length-append, length-drop, length-replicate, drop_of_length-le}
use lib.Seq.{drop-cons, get_or-drop, length-take-le}
use Rattle.rle_format.specs.Choice.{choose}
use Rattle.rle_format.proofs.Cases.{eq_or_ne}
use Rattle.rle_format.specs.Segment.{Segment, last_or, segment_values, value_count, segment_size, raw_count, run_length, segment, refused_segment, read_segment}

-- the fields of a control byte, by its low four bits
module _ (c : ℕ) where
  pub control_run_1 : c % 16 ≡ 1 → (0 ≡ raw_count c) × (16 + c / 16 ≡ run_length c)
  unfolding raw_count run_length
  control_run_1 e = rw (eq-eqb (c % 16) 1 e) (refl, refl)

  module _ (not-one : c % 16 ≡ 1 → ⊥) where
    pub control_run_2 : c % 16 ≡ 2 → (0 ≡ raw_count c) × (32 + c / 16 ≡ run_length c)
    unfolding raw_count run_length
    control_run_2 e = rw (ne_eqb (c % 16) 1 not-one, eq-eqb (c % 16) 2 e) (refl, refl)

    pub control_plain : (c % 16 ≡ 2 → ⊥) → (c / 16 ≡ raw_count c) × (c % 16 ≡ run_length c)
    unfolding raw_count run_length
    control_plain not-two = rw (ne_eqb (c % 16) 1 not-one, ne_eqb (c % 16) 2 not-two) (refl, refl)

-- a control byte that is not 0 gives at least one value
control_some : (c : ℕ) → (c ≡ 0 → ⊥) → 1 ≤ raw_count c + run_length c
control_some c z =
    ⊎_elim (λ (one : c % 16 ≡ 1). let s = control_run_1 c one in omega arith)
    (λ (not-one : c % 16 ≡ 1 → ⊥).
    ⊎_elim (λ (two : c % 16 ≡ 2). let s = control_run_2 c not-one two in omega arith)
    (λ (not-two : c % 16 ≡ 2 → ⊥). let s = control_plain c not-one not-two in omega arith)
    (eq_or_ne (c % 16) 2))
    (eq_or_ne (c % 16) 1)

-- what is known of a segment that was read: it lies within the body, and it has at least one value
pub record SegmentFacts (body : List ℕ) (s : Segment) : Type 0 where
  pub fits : segment_size s ≤ length body
  pub some : 1 ≤ value_count s

-- a refusal is no segment
pub refused_not_segment : {r : ℕ} {s : Segment} {X : Type 0} → refused_segment r ≡ segment s → X
refused_not_segment e = let z : ◌≡◌ {A = ℕ} 0 1 = cc in absurd (omega arith)

pub segment_facts : (body : List ℕ) (s : Segment) → read_segment body ≡ segment s → SegmentFacts body s
unfolding read_segment
segment_facts [] s e = refused_not_segment e
segment_facts (c ∷ rest) s e = go (eqb c 0) (ltb (length rest) (raw_count c)) refl refl e
  where
    it : Segment
    it = record { raw = take (raw_count c) rest; run = run_length c }

    go : (z t : Bool) → eqb c 0 ≡ z → ltb (length rest) (raw_count c) ≡ t
        → choose z (refused_segment 8) (choose t (refused_segment 7) (segment it)) ≡ segment s
        → SegmentFacts (c ∷ rest) s
    go true t ez et e = refused_not_segment e
    go false true ez et e = refused_not_segment e
    go false false ez et e =
        let same : it ≡ s = cc in
        let there : raw_count c ≤ length rest = ltb-false (length rest) (raw_count c) et in
        let n : length (take (raw_count c) rest) ≡ raw_count c = length-take-le (raw_count c) rest there in
        let of-it : SegmentFacts (c ∷ rest) it = record {
          fits = omega arith;
          some = omega (arith, control_some c (eqb-false c 0 ez));
        } in
        rw same at of-it

-- a segment is refused by 7 or 8
pub segment_refusals : (body : List ℕ) (r : ℕ) → read_segment body ≡ refused_segment r → (7 ≤ r) × (r ≤ 9)
unfolding read_segment
segment_refusals [] r e = let is : 7 ≡ r = cc in (omega arith, omega arith)
segment_refusals (c ∷ rest) r e = go (eqb c 0) (ltb (length rest) (raw_count c)) e
  where
    go : (z t : Bool)
        → choose z (refused_segment 8) (choose t (refused_segment 7) (segment (record { raw = take (raw_count c) rest; run = run_length c }))) ≡ refused_segment r
        → (7 ≤ r) × (r ≤ 9)
    go true t e = let is : 8 ≡ r = cc in (omega arith, omega arith)
    go false true e = let is : 7 ≡ r = cc in (omega arith, omega arith)
    go false false e = refused_not_segment (sym e)

-- ---- what is at an index of the body

-- the segment that the control byte at an index gives
abbrev pub segment_at : (s : List ℕ) (at : ℕ) → Segment
segment_at s at = record { raw = take (raw_count (get_or s at 0)) (drop (at + 1) s); run = run_length (get_or s at 0) }

module _ (s : List ℕ) (at : ℕ) where
  pub read_at_end : length s ≤ at → read_segment (drop at s) ≡ refused_segment 7
  unfolding read_segment
  read_at_end h = rw (drop_of_length-le s h)

  module _ (h : at < length s) where
    pub read_zero_control : get_or s at 0 ≡ 0 → read_segment (drop at s) ≡ refused_segment 8
    unfolding read_segment
    read_zero_control z = rw (drop-cons s at 0 h, eq-eqb (get_or s at 0) 0 z)

    pub read_missing_raw : (get_or s at 0 ≡ 0 → ⊥) → length s - at - 1 < raw_count (get_or s at 0) → read_segment (drop at s) ≡ refused_segment 7
    unfolding read_segment
    read_missing_raw z l =
        let l' : length (drop (suc at) s) < raw_count (get_or s at 0) = simp length-drop (omega arith) in
        rw (drop-cons s at 0 h, ne_eqb (get_or s at 0) 0 z, lt-ltb (length (drop (suc at) s)) (raw_count (get_or s at 0)) l')

    pub read_complete : (get_or s at 0 ≡ 0 → ⊥) → raw_count (get_or s at 0) ≤ length s - at - 1 → read_segment (drop at s) ≡ segment (segment_at s at)
    unfolding read_segment
    read_complete z l =
        let l' : raw_count (get_or s at 0) ≤ length (drop (suc at) s) = simp length-drop (omega arith) in
        rw (drop-cons s at 0 h, ne_eqb (get_or s at 0) 0 z, le-ltb (length (drop (suc at) s)) (raw_count (get_or s at 0)) l', add-one)

-- ---- the values of a segment

pub length-segment_values : (last : ℕ) (s : Segment) → length (segment_values last s) ≡ value_count s
length-segment_values last s = simp (length-append, length-replicate)

pub last_or_take : (s : List ℕ) (raw last : ℕ) → raw < length s → last_or last (take (suc raw) s) ≡ get_or s raw 0
last_or_take [] raw last h = absurd (omega arith)
last_or_take (x ∷ s) zero last h = refl
last_or_take (x ∷ s) (suc raw) last h = last_or_take s raw x (omega arith)

-- the last of the raw bytes behind the control byte at an index
pub last_or_raw : (s : List ℕ) (at raw last : ℕ) → (raw ≡ 0 → ⊥) → at + raw < length s → last_or last (take raw (drop (at + 1) s)) ≡ get_or s (at + raw) 0
last_or_raw s at zero last z h = absurd (z refl)
last_or_raw s at (suc raw) last z h =
    last_or_take (drop (at + 1) s) raw last (simp length-drop (omega arith)) ∙ get_or-drop (at + 1) s raw 0 ∙ ap (λ (k : ℕ). get_or s k 0) (sum at raw)
  where
    sum : (at raw : ℕ) → at + 1 + raw ≡ at + suc raw
    sum at raw = omega arith
