-- Writing segments: one at a time, and one list after another.
use mathlib.Core.Path.{◌≡◌, refl, sym, ap, ◌∙◌}
use mathlib.Core.Logic.{⊎_elim}
use mathlib.Core.List.{List, [], ◌∷◌, ◌++◌}
use Prim.Native.Nat.{ℕ, ◌+◌, ◌*◌, ◌-◌, ◌/◌, ◌%◌, ◌≤◌, ◌<◌}
use native.Mathlib.Omega.{arith}
use borrow.Author.Tests.{lt-ltb, le-ltb, le-leb, lt-leb}
use lib.ListN.{length, length-append}
use Rattle.rle_format.specs.Answer.{counted, refused, Outcome, stop, refuse, add_count, prepend}
use Rattle.rle_format.specs.Segment.{Segment, segment_size, control_byte, segment_bytes, segments_bytes}
use Rattle.rle_format.specs.Pack.{literal, repeat, write_segments}
use Rattle.rle_format.proofs.Cases.{le_or_gt}
use Rattle.rle_format.proofs.Answer.{refused_not_counted}
use Rattle.rle_format.proofs.Outcome.{prepend_nil, prepend_prepend}

-- the bytes of a segment and of those after it
pub length-segments_bytes : (s : Segment) (ss : List Segment) → length (segments_bytes (s ∷ ss)) ≡ segment_size s + length (segments_bytes ss)
length-segments_bytes s ss = omega (arith, length-append (segment_bytes s) (segments_bytes ss))

-- a segment that does not fit, and one that does
pub write_no_room : (s : Segment) (ss : List Segment) (room : ℕ) → room < segment_size s → write_segments (s ∷ ss) room ≡ refuse 12
unfolding write_segments
write_no_room s ss room h = cc (lt-ltb room (segment_size s) h)

write_step : (s : Segment) (ss : List Segment) (room : ℕ) → segment_size s ≤ room
    → write_segments (s ∷ ss) room ≡ prepend (segment_bytes s) (segment_size s) (write_segments ss (room - segment_size s))
unfolding write_segments
write_step s ss room h = cc (le-ltb room (segment_size s) h)

-- segments that all fit, and others after them
pub write_append : (xs ys : List Segment) (room : ℕ) → length (segments_bytes xs) ≤ room
    → write_segments (xs ++ ys) room ≡ prepend (segments_bytes xs) (length (segments_bytes xs)) (write_segments ys (room - length (segments_bytes xs)))
write_append [] ys room h = let all : room - 0 ≡ room = omega arith in sym (rw all (prepend_nil (write_segments ys room)))
write_append (s ∷ xs) ys room h =
    let n = length-segments_bytes s xs in
    let left : room - segment_size s - length (segments_bytes xs) ≡ room - length (segments_bytes (s ∷ xs)) = omega arith in
    write_step s (xs ++ ys) room (omega arith)
    ∙ ap (prepend (segment_bytes s) (segment_size s)) (write_append xs ys (room - segment_size s) (omega arith))
    ∙ prepend_prepend (segment_bytes s) (segments_bytes xs) (segment_size s) (length (segments_bytes xs)) (write_segments ys (room - segment_size s - length (segments_bytes xs)))
    ∙ λ i. prepend (segments_bytes (s ∷ xs)) (sym n i) (write_segments ys (left i))

-- segments that do not all fit stop the writing: those after them do not matter
pub write_append_no_room : (xs ys : List Segment) (room : ℕ) → room < length (segments_bytes xs) → write_segments (xs ++ ys) room ≡ write_segments xs room
write_append_no_room [] ys room h = absurd (omega arith)
write_append_no_room (s ∷ xs) ys room h =
    let n = length-segments_bytes s xs in
    ⊎_elim
    (λ (k : segment_size s ≤ room).
    write_step s (xs ++ ys) room k
    ∙ ap (prepend (segment_bytes s) (segment_size s)) (write_append_no_room xs ys (room - segment_size s) (omega arith))
    ∙ sym (write_step s xs room k))
    (λ k. write_no_room s (xs ++ ys) room k ∙ sym (write_no_room s xs room k))
    (le_or_gt (segment_size s) room)

-- where all segments fit, all their bytes are written and counted
pub write_all : (ss : List Segment) (room : ℕ) → length (segments_bytes ss) ≤ room
    → write_segments ss room ≡ record { written = segments_bytes ss; answer = counted (length (segments_bytes ss)) }
unfolding write_segments stop prepend
write_all [] room h = refl
write_all (s ∷ ss) room h =
    let n = length-segments_bytes s ss in
    write_step s ss room (omega arith)
    ∙ ap (prepend (segment_bytes s) (segment_size s)) (write_all ss (room - segment_size s) (omega arith))
    ∙ λ i. record { written = segments_bytes (s ∷ ss); answer = counted (sym n i) }

-- where they do not, the answer is 12
pub write_refused : (ss : List Segment) (room : ℕ) → room < length (segments_bytes ss) → (write_segments ss room).answer ≡ refused 12
unfolding stop prepend
write_refused [] room h = absurd (omega arith)
write_refused (s ∷ ss) room h =
    let n = length-segments_bytes s ss in
    ⊎_elim
    (λ (k : segment_size s ≤ room).
    ap (λ (o : Outcome). o.answer) (write_step s ss room k)
    ∙ ap (add_count (segment_size s)) (write_refused ss (room - segment_size s) (omega arith)))
    (λ k. ap (λ (o : Outcome). o.answer) (write_no_room s ss room k))
    (le_or_gt (segment_size s) room)

-- no more is written than there is room for
pub write_within : (ss : List Segment) (room : ℕ) → length (write_segments ss room).written ≤ room
unfolding write_segments stop prepend
write_within [] room = omega arith
write_within (s ∷ ss) room =
    ⊎_elim
    (λ (k : segment_size s ≤ room).
    rw (ap (λ (o : Outcome). o.written) (write_step s ss room k))
    (omega (arith, length-append (segment_bytes s) (write_segments ss (room - segment_size s)).written, write_within ss (room - segment_size s))))
    (λ k. rw (ap (λ (o : Outcome). o.written) (write_no_room s ss room k)) (omega arith))
    (le_or_gt (segment_size s) room)

-- ---- control bytes, as a writer computes them

pub control_byte_short : (raw : List ℕ) (run : ℕ) → run ≤ 15 → control_byte (literal raw run) ≡ 16 * length raw + run
control_byte_short raw run h = rw (le-leb run 15 h)

pub control_byte_long : (run : ℕ) → 16 ≤ run → run ≤ 47 → control_byte (repeat run) ≡ 16 * (run % 16) + run / 16
control_byte_long run h k =
    ⊎_elim
    (λ (l : run ≤ 31). rw (lt-leb run 15 h, le-leb run 31 l) (omega arith))
    (λ (l : 31 < run). rw (lt-leb run 15 h, lt-leb run 31 l) (omega arith))
    (le_or_gt run 31)

-- what is counted fits
pub write_count_within : (ss : List Segment) (room n : ℕ) → counted n ≡ (write_segments ss room).answer → n ≤ room
write_count_within ss room n e =
    ⊎_elim
    (λ (h : length (segments_bytes ss) ≤ room). let k : n ≡ length (segments_bytes ss) = cc (write_all ss room h) in omega arith)
    (λ (h : room < length (segments_bytes ss)). refused_not_counted (sym (e ∙ write_refused ss room h)))
    (le_or_gt (length (segments_bytes ss)) room)
