-- An encodable segment is read back from its bytes, and one that is truncated is refusal 7.
use mathlib.Core.Path.{◌≡◌, refl, ap}
use mathlib.Core.Logic.{inl, inr, ⊎_elim}
use mathlib.Core.List.{List, ◌++◌}
use Prim.Native.Nat.{ℕ, zero, suc, ◌+◌, ◌*◌, ◌-◌, ◌≤◌, ◌<◌}
use native.Mathlib.Omega.{arith}
use borrow.Author.Tests.{le-leb, lt-leb, lt-ltb, le-ltb, ne_eqb}
use lib.ListN.{length, take, length-append, length-take}
use lib.Seq.{take-append_seam}
use Rattle.rle_format.specs.Segment.{Segment, raw_count, run_length, segment, refused_segment, read_segment, control_byte, segment_bytes, segment_size, value_count, Encodable}
use Rattle.rle_format.proofs.Cases.{le_or_gt}
use Rattle.rle_format.proofs.Segment.{control_run_1, control_run_2, control_plain}

-- a control byte that says the raw count and the run of a segment, is not 0, and is a byte
record ControlMatches (s : Segment) (byte : ℕ) : Type 0 where
  raw_is : raw_count byte ≡ length s.raw
  run_is : run_length byte ≡ s.run
  not_zero : byte ≡ 0 → ⊥
  is_byte : byte < 256

-- that of an encodable segment does
control_matches : (s : Segment) → Encodable s → ControlMatches s (control_byte s)
control_matches s (inl c) =
    let it = control_plain (16 * length s.raw + s.run) (omega arith) (omega arith) in
    rw (le-leb s.run 15 c.1) (record { raw_is = omega arith; run_is = omega arith; not_zero = omega arith; is_byte = omega arith })
control_matches s (inr c) =
    let none : length s.raw ≡ 0 = ap length c.0 in
    rw (lt-leb s.run 15 c.1)
    (⊎_elim
    (λ (h : s.run ≤ 31).
    let it = control_run_1 (16 * (s.run - 16) + 1) (omega arith) in
    rw (le-leb s.run 31 h) (record { raw_is = omega arith; run_is = omega arith; not_zero = omega arith; is_byte = omega arith }))
    (λ (h : 31 < s.run).
    let it = control_run_2 (16 * (s.run - 32) + 2) (omega arith) (omega arith) in
    rw (lt-leb s.run 31 h) (record { raw_is = omega arith; run_is = omega arith; not_zero = omega arith; is_byte = omega arith }))
    (le_or_gt s.run 31))

pub control_byte_is_byte : (s : Segment) → Encodable s → control_byte s < 256
control_byte_is_byte s c =
    let t = control_matches s c in
    t.is_byte

pub encodable_not_empty : (s : Segment) → Encodable s → 1 ≤ value_count s
encodable_not_empty s (inl c) = c.4
encodable_not_empty s (inr c) = omega arith

-- what packing writes, reading reads: the one law that connects the two
pub read_back : (s : Segment) → Encodable s → (rest : List ℕ) → read_segment (segment_bytes s ++ rest) ≡ segment s
unfolding read_segment
read_back s c rest =
    let t = control_matches s c in
    rw (ne_eqb (control_byte s) 0 t.not_zero, t.raw_is, t.run_is, le-ltb (length (s.raw ++ rest)) (length s.raw) (simp length-append (omega arith)), take-append_seam s.raw rest)

-- truncated before its control byte, or within its raw bytes
pub read_truncated : (s : Segment) → Encodable s → (m : ℕ) → m < segment_size s → read_segment (take m (segment_bytes s)) ≡ refused_segment 7
unfolding read_segment
read_truncated s c zero h = refl
read_truncated s c (suc m) h =
    let t = control_matches s c in
    rw (ne_eqb (control_byte s) 0 t.not_zero, t.raw_is, lt-ltb (length (take m s.raw)) (length s.raw) (simp length-take (omega arith)))
