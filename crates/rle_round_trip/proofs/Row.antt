-- A row of encodable segments is read back complete, or up to the segment that is truncated.
use mathlib.Core.Path.{◌≡◌, sym, ap, ◌∙◌}
use mathlib.Core.Logic.{⊎_elim}
use mathlib.Core.List.{List, [], ◌∷◌, ◌++◌, append_assoc}
use Prim.Native.Nat.{ℕ, ◌+◌, ◌-◌, ◌≤◌, ◌<◌}
use native.Mathlib.Omega.{arith}
use lib.ListN.{length, take, length-append}
use lib.Seq.{take-append-le, take-append-add, drop_at}
use Rattle.rle_format.specs.Answer.{counted, refused, stop, prepend}
use Rattle.rle_format.specs.Segment.{Segment, segment_values, last_byte_after, segment_size, value_count, segment_bytes, segments_bytes, Encodable}
use Rattle.rle_format.proofs.Cases.{le_or_gt}
use Rattle.rle_format.proofs.Segment.{length-segment_values}
use Rattle.rle_format.proofs.Row.{row_from, row_from_full, row_from_refused, row_from_step}
use Rattle.rle_round_trip.specs.Prefix.{covered_values}
use Rattle.rle_format.proofs.Segments.{segments_values, segments_count, AllEncodable, length-segment_bytes}
use Rattle.rle_format.proofs.ReadBack.{encodable_not_empty, read_back, read_truncated}
use Rattle.rle_round_trip.proofs.Covered.{covered_values_step, covered_values_0}

-- an encodable segment in front of anything
segment_then_rest : (s : Segment) → Encodable s → (room last : ℕ) (rest : List ℕ) → value_count s ≤ room
    → row_from room last (segment_bytes s ++ rest) ≡ prepend (segment_values last s) (segment_size s) (row_from (room - value_count s) (last_byte_after last s) rest)
segment_then_rest s c room last rest fits =
    row_from_step room last (segment_bytes s ++ rest) (omega (arith, encodable_not_empty s c)) s (read_back s c rest) fits
    ∙ ap (λ (l : List ℕ). prepend (segment_values last s) (segment_size s) (row_from (room - value_count s) (last_byte_after last s) l)) (drop_at (segment_bytes s) rest (segment_size s) (length-segment_bytes s))

pub row_complete : (ss : List Segment) → AllEncodable ss → (room last : ℕ) (rest : List ℕ) → segments_count ss ≡ room
    → row_from room last (segments_bytes ss ++ rest) ≡ record { written = segments_values last ss; answer = counted (length (segments_bytes ss)) }
unfolding stop prepend
row_complete [] v room last rest e = rw (← e) (row_from_full last rest)
row_complete (s ∷ ss) v room last rest e =
    rw (append_assoc (segment_bytes s) (segments_bytes ss) rest)
    (segment_then_rest s v.0 room last (segments_bytes ss ++ rest) (omega arith)
    ∙ rw (row_complete ss v.1 (room - value_count s) (last_byte_after last s) rest (omega arith), length-append (segment_bytes s) (segments_bytes ss), length-segment_bytes s))

-- the first m of two lists, where the first list lies within them
pub take_beyond : (xs ys : List ℕ) (n m : ℕ) → length xs ≡ n → n ≤ m → take m (xs ++ ys) ≡ xs ++ take (m - n) ys
take_beyond xs ys n m l h =
    let e : m ≡ length xs + (m - n) = omega arith in
    ap (λ (k : ℕ). take k (xs ++ ys)) e ∙ take-append-add xs ys (m - n)

take_values : (last : ℕ) (s : Segment) (ws : List ℕ) (n : ℕ) → take (value_count s + n) (segment_values last s ++ ws) ≡ segment_values last s ++ take n ws
take_values last s ws n =
    ap (λ (k : ℕ). take (k + n) (segment_values last s ++ ws)) (sym (length-segment_values last s)) ∙ take-append-add (segment_values last s) ws n

pub row_truncated : (ss : List Segment) → AllEncodable ss → (room last m : ℕ) → segments_count ss ≡ room → m < length (segments_bytes ss)
    → row_from room last (take m (segments_bytes ss)) ≡ record { written = take (covered_values ss m) (segments_values last ss); answer = refused 7 }
unfolding stop prepend
row_truncated [] v room last m e h = absurd (omega arith)
row_truncated (s ∷ ss) v room last m e h =
    ⊎_elim
    (λ (whole : segment_size s ≤ m).
    rw (take_beyond (segment_bytes s) (segments_bytes ss) (segment_size s) m (length-segment_bytes s) whole, covered_values_step s ss m whole, take_values last s (segments_values (last_byte_after last s) ss) (covered_values ss (m - segment_size s)))
    (segment_then_rest s v.0 room last (take (m - segment_size s) (segments_bytes ss)) (omega arith)
    ∙ rw (row_truncated ss v.1 (room - value_count s) (last_byte_after last s) (m - segment_size s) (omega arith) (omega (arith, length-append (segment_bytes s) (segments_bytes ss))))))
    (λ (cut : m < segment_size s).
    rw (take-append-le m (segment_bytes s) (segments_bytes ss) (omega arith), covered_values_0 s ss m cut)
    (row_from_refused room last (take m (segment_bytes s)) (omega (arith, encodable_not_empty s v.0)) 7 (read_truncated s v.0 m cut)))
    (le_or_gt (segment_size s) m)
