-- The segment reader's answer, made of what the body has and taken apart again. Assumes nothing.
use Rattle.std.proofs.Common.{◌≡◌, ℕ, ◌+◌, ◌-◌, ◌*◌, ◌/◌, ◌%◌, ◌<◌, ◌≤◌, List, ◌++◌, length, get_or, take, drop, replicate, sym, refl, ap, ◌∙◌, ⊎_elim, arith, length-drop, length-take-le}
use Rattle.rle_format.specs.Slice.{write_at}
use Rattle.rle_format.specs.Segment.{Segment, last_or, last_byte_after, raw_count, run_length, SegmentRead, segment, refused_segment, read_segment}
use Rattle.rle_format.proofs.Cases.{eq_or_ne}
use Rattle.rle_format.proofs.Segment.{segment_facts, control_run_1, control_run_2, control_plain, read_complete}
use Rattle.rle_decoder.specs.NextSegment.{read, refused_by, segment_answer, values_of}
use Rattle.rle_decoder.specs.Appended.{Appended}
use Rattle.rle_decoder.proofs.Appended.{appended_none, appended_fill}

-- a refusal is no segment that was read
pub refused_not_read : {r raw run last : ℕ} {X : Type 0} → refused_by r ≡ read raw run last → X
refused_not_read e = let z : ◌≡◌ {A = ℕ} 0 1 = cc in absurd (omega arith)

-- a long run, by the low four bits of its control byte
says_long : (c : ℕ) → 1 ≤ c % 16 → c % 16 ≤ 2 → (0 ≡ raw_count c) × (c % 16 * 16 + c / 16 ≡ run_length c)
says_long c l h =
    ⊎_elim (λ (one : c % 16 ≡ 1). let s = control_run_1 c one in (s.0, omega (arith, s.1)))
    (λ (not-one : c % 16 ≡ 1 → ⊥). let two : c % 16 ≡ 2 = omega arith in let s = control_run_2 c not-one two in (s.0, omega (arith, s.1)))
    (eq_or_ne (c % 16) 1)

-- every other control byte but 0, by its halves
pub says_plain : (c low high : ℕ) → low ≡ c % 16 → high ≡ c / 16 → (low ≡ 1 → ⊥) → (low ≡ 2 → ⊥) → (high ≡ raw_count c) × (low ≡ run_length c)
says_plain c low high el eh not-one not-two =
    let s = control_plain c (λ e. not-one (el ∙ e)) (λ e. not-two (el ∙ e)) in
    (eh ∙ s.0, el ∙ s.1)

-- ---- the reader's answer and what it wrote, from what stands at a position of the body. d is the array before, and now after

-- a refusal, at which nothing was written
pub answers_none : (s d : List ℕ) (at before column r : ℕ) → read_segment (drop at s) ≡ refused_segment r
    → (refused_by r ≡ segment_answer before (read_segment (drop at s))) × Appended d d column (values_of before (read_segment (drop at s)))
answers_none s d at before column r e = (sym (ap (segment_answer before) e), rw e (appended_none d column))

-- a segment whose control byte and raw bytes are there
answers_read : (s d now : List ℕ) (at before column raw run last : ℕ) → at < length s → (get_or s at 0 ≡ 0 → ⊥) → raw ≡ raw_count (get_or s at 0)
    → run ≡ run_length (get_or s at 0) → raw ≤ length s - at - 1 → last ≡ last_or before (take raw (drop (at + 1) s))
    → Appended d now column (take raw (drop (at + 1) s) ++ replicate run last)
    → (read raw run last ≡ segment_answer before (read_segment (drop at s))) × Appended d now column (values_of before (read_segment (drop at s)))
answers_read s d now at before column raw run last h z er en there el appended =
    let bytes = take raw (drop (at + 1) s) in
    let n : length bytes ≡ raw = length-take-le raw (drop (at + 1) s) (omega (arith, length-drop (at + 1) s)) in
    let e : read_segment (drop at s) ≡ segment (record { raw = bytes; run = run }) =
    read_complete s at h z (rw er at there) ∙ (λ i. segment (record { raw = take (sym er i) (drop (at + 1) s); run = sym en i })) in (
      (λ i. read (sym n i) run (el i)) ∙ sym (ap (segment_answer before) e),
      rw (e, ← el) appended,
    )

-- a long run, for which 48 values were written
pub answers_long : (s d now : List ℕ) (at before column low high : ℕ) → at < length s → low ≡ get_or s at 0 % 16 → high ≡ get_or s at 0 / 16 → 1 ≤ low → low ≤ 2 → high ≤ 15
    → column + 48 ≤ length d → now ≡ write_at d column (replicate 48 before)
    → (read 0 (low * 16 + high) before ≡ segment_answer before (read_segment (drop at s))) × Appended d now column (values_of before (read_segment (drop at s)))
answers_long s d now at before column low high h el eh some few short room wrote =
    let c : ℕ = get_or s at 0 in
    let says = says_long c (omega arith) (omega arith) in
    let is : low * 16 + high ≡ run_length c = (λ i. el i * 16 + eh i) ∙ says.1 in
    let filled = appended_fill d now column 48 (low * 16 + high) before room (omega arith) wrote in
    answers_read s d now at before column 0 (low * 16 + high) before h (omega arith) says.0 is (omega arith) refl filled

-- every other segment
pub answers_plain : (s d now : List ℕ) (at before column low high last : ℕ) → at < length s → (get_or s at 0 ≡ 0 → ⊥) → low ≡ get_or s at 0 % 16 → high ≡ get_or s at 0 / 16
    → (low ≡ 1 → ⊥) → (low ≡ 2 → ⊥) → high ≤ length s - at - 1 → last ≡ last_or before (take high (drop (at + 1) s))
    → Appended d now column (take high (drop (at + 1) s) ++ replicate low last)
    → (read high low last ≡ segment_answer before (read_segment (drop at s))) × Appended d now column (values_of before (read_segment (drop at s)))
answers_plain s d now at before column low high last h z el eh not-one not-two there is appended =
    let says = says_plain (get_or s at 0) low high el eh not-one not-two in
    answers_read s d now at before column high low last h z says.0 says.1 there is appended

-- what an answer says of the body at an index: a segment with that number of raw bytes and that run lies within it
pub record FoundSegment (s : List ℕ) (at before raw run last : ℕ) : Type 0 where
  pub it : Segment
  pub found : read_segment (drop at s) ≡ segment it
  pub raws : length it.raw ≡ raw
  pub runs : it.run ≡ run
  pub lasts : last_byte_after before it ≡ last
  pub within : at + raw < length s
  pub some : 1 ≤ raw + run

pub found_segment : (s : List ℕ) (at before raw run last : ℕ) → read raw run last ≡ segment_answer before (read_segment (drop at s)) → FoundSegment s at before raw run last
found_segment s at before raw run last e = go (read_segment (drop at s)) refl e
  where
    go : (g : SegmentRead) → read_segment (drop at s) ≡ g → read raw run last ≡ segment_answer before g → FoundSegment s at before raw run last
    go (refused_segment r) is e = refused_not_read (sym e)
    go (segment it) is e =
        let k = segment_facts (drop at s) it is in
        let er : length it.raw ≡ raw = cc in
        let en : it.run ≡ run = cc in
        let d = length-drop at s in
        record {
          it = it;
          found = is;
          raws = er;
          runs = en;
          lasts = cc;
          within = omega (arith, k.fits);
          some = omega (arith, k.some);
        }

pub found_refusal : (r before : ℕ) (g : SegmentRead) → refused_by r ≡ segment_answer before g → g ≡ refused_segment r
found_refusal r before (segment s) e = refused_not_read e
found_refusal r before (refused_segment q) e = let same : q ≡ r = cc in ap refused_segment same
