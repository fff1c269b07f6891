-- Reading a row, one segment at a time, from any room, last byte and body: used by the unpacker's loop.
use mathlib.Core.Path.{◌≡◌, refl, sym, ap, ◌∙◌}
use mathlib.Core.Logic.{⊎_elim}
use mathlib.Core.List.{List, []}
use Prim.Native.Nat.{ℕ, zero, suc, ◌-◌, ◌≤◌, ◌<◌}
use native.Mathlib.Omega.{arith}
use borrow.Author.Tests.{lt-ltb, le-ltb}
use lib.ListN.{drop}
use Rattle.rle_format.specs.Answer.{counted, refused, Outcome, stop, prepend}
use Rattle.rle_format.specs.Segment.{Segment, SegmentRead, segment, refused_segment, read_segment, segment_values, segment_size, value_count, last_byte_after}
use Rattle.rle_format.specs.Unpack.{RowRead, full, stopped, prepend_row, read_row, row_outcome}
use Rattle.rle_format.proofs.Cases.{le_or_gt}
use Rattle.rle_format.proofs.Outcome.{Bounded, prepend_bounded}
use Rattle.rle_format.proofs.Segment.{segment_facts, segment_refusals, length-segment_values}

-- ---- one step of the definition

read_row_full : (bound last : ℕ) (body : List ℕ) → read_row bound 0 last body ≡ full [] 0
unfolding read_row
read_row_full zero last body = refl
read_row_full (suc bound) last body = refl

module _ (bound room last : ℕ) (body : List ℕ) where
  read_row_refused : (r : ℕ) → read_segment body ≡ refused_segment r → read_row (suc bound) (suc room) last body ≡ stopped [] r
  unfolding read_row
  read_row_refused r e = rw (e, read_row)

  module _ (s : Segment) (e : read_segment body ≡ segment s) where
    read_row_overruns : suc room < value_count s → read_row (suc bound) (suc room) last body ≡ stopped [] 9
    unfolding read_row
    read_row_overruns h = cc (e, lt-ltb (suc room) (value_count s) h)

    read_row_step : value_count s ≤ suc room
        → read_row (suc bound) (suc room) last body ≡ prepend_row (segment_values last s) (segment_size s) (read_row bound (suc room - value_count s) (last_byte_after last s) (drop (segment_size s) body))
    unfolding read_row
    read_row_step h = cc (e, le-ltb (suc room) (value_count s) h)

-- ---- what holds of each row that is read with bound enough

-- it is enough to show it of a full row, of one that stops, and of a segment in front of the rest
module _ (P : (room last : ℕ) (body : List ℕ) → RowRead → Type 0) (done : (last : ℕ) (body : List ℕ) → P 0 last body (full [] 0))
    (refuses : (room last : ℕ) (body : List ℕ) (r : ℕ) → read_segment body ≡ refused_segment r → P (suc room) last body (stopped [] r))
    (passes : (room last : ℕ) (body : List ℕ) (s : Segment) → read_segment body ≡ segment s → suc room < value_count s → P (suc room) last body (stopped [] 9))
    (steps : (room last : ℕ) (body : List ℕ) (s : Segment) (rest : RowRead) → read_segment body ≡ segment s → value_count s ≤ suc room
    → P (suc room - value_count s) (last_byte_after last s) (drop (segment_size s) body) rest → P (suc room) last body (prepend_row (segment_values last s) (segment_size s) rest)) where
  row_induction : (bound room last : ℕ) (body : List ℕ) → room ≤ bound → P room last body (read_row bound room last body)
  row_induction zero zero last body h = rw (read_row_full zero last body) (done last body)
  row_induction zero (suc room) last body h = absurd (omega arith)
  row_induction (suc bound) zero last body h = rw (read_row_full (suc bound) last body) (done last body)
  row_induction (suc bound) (suc room) last body h =
      go (λ s. row_induction bound (suc room - value_count s) (last_byte_after last s) (drop (segment_size s) body)) (read_segment body) refl
    where
      go : ((s : Segment) → suc room - value_count s ≤ bound → P (suc room - value_count s) (last_byte_after last s) (drop (segment_size s) body) (read_row bound (suc room - value_count s) (last_byte_after last s) (drop (segment_size s) body)))
          → (got : SegmentRead) → read_segment body ≡ got → P (suc room) last body (read_row (suc bound) (suc room) last body)
      go ih (refused_segment r) e = rw (read_row_refused bound room last body r e) (refuses room last body r e)
      go ih (segment s) e =
          ⊎_elim
          (λ (fits : value_count s ≤ suc room).
          rw (read_row_step bound room last body s e fits)
          (steps room last body s (read_row bound (suc room - value_count s) (last_byte_after last s) (drop (segment_size s) body)) e fits (ih s (omega (arith, (segment_facts body s e).some)))))
          (λ (wide : suc room < value_count s). rw (read_row_overruns bound room last body s e wide) (passes room last body s e wide))
          (le_or_gt (value_count s) (suc room))

-- a bound that is enough does not matter
bound_irrelevant : (b c room last : ℕ) (body : List ℕ) → room ≤ b → room ≤ c → read_row b room last body ≡ read_row c room last body
bound_irrelevant b c room last body h k =
    row_induction (λ room last body read. (c : ℕ) → room ≤ c → read ≡ read_row c room last body)
    (λ last body c k. sym (read_row_full c last body))
    (λ room last body r e. λ c. refuses room last body r e c)
    (λ room last body s e wide. λ c. passes room last body s e wide c)
    (λ room last body s rest e fits ih. λ c. steps room last body s rest e fits ih c)
    b room last body h c k
  where
    refuses : (room last : ℕ) (body : List ℕ) (r : ℕ) → read_segment body ≡ refused_segment r → (c : ℕ) → suc room ≤ c → stopped [] r ≡ read_row c (suc room) last body
    refuses room last body r e zero k = absurd (omega arith)
    refuses room last body r e (suc c) k = sym (read_row_refused c room last body r e)

    passes : (room last : ℕ) (body : List ℕ) (s : Segment) → read_segment body ≡ segment s → suc room < value_count s → (c : ℕ) → suc room ≤ c → stopped [] 9 ≡ read_row c (suc room) last body
    passes room last body s e wide zero k = absurd (omega arith)
    passes room last body s e wide (suc c) k = sym (read_row_overruns c room last body s e wide)

    steps : (room last : ℕ) (body : List ℕ) (s : Segment) (rest : RowRead) → read_segment body ≡ segment s → value_count s ≤ suc room
        → ((c : ℕ) → suc room - value_count s ≤ c → rest ≡ read_row c (suc room - value_count s) (last_byte_after last s) (drop (segment_size s) body))
        → (c : ℕ) → suc room ≤ c → prepend_row (segment_values last s) (segment_size s) rest ≡ read_row c (suc room) last body
    steps room last body s rest e fits ih zero k = absurd (omega arith)
    steps room last body s rest e fits ih (suc c) k =
        ap (prepend_row (segment_values last s) (segment_size s)) (ih c (omega (arith, (segment_facts body s e).some))) ∙ sym (read_row_step c room last body s e fits)

-- a row is what its outcome is: segments in front of it are in front of the outcome
row_outcome_prepend : (vs : List ℕ) (n : ℕ) (rest : RowRead) → row_outcome (prepend_row vs n rest) ≡ prepend vs n (row_outcome rest)
unfolding prepend
row_outcome_prepend vs n (full codes k) = refl
row_outcome_prepend vs n (stopped codes r) = refl

pub row_bounded : (bound room last : ℕ) (body : List ℕ) → room ≤ bound
    → Bounded room body (row_outcome (read_row bound room last body)).written (row_outcome (read_row bound room last body)).answer
row_bounded =
    row_induction (λ room last body read. Bounded room body (row_outcome read).written (row_outcome read).answer)
    (λ last body. (refl, (omega arith, omega arith)))
    (λ room last body r e. (omega arith, segment_refusals body r e))
    (λ room last body s e wide. (omega arith, (omega arith, omega arith)))
    (λ room last body s rest e fits b.
    rw (row_outcome_prepend (segment_values last s) (segment_size s) rest)
    (prepend_bounded (suc room) (segment_size s) body (segment_values last s) (row_outcome rest)
    (omega (arith, length-segment_values last s)) (segment_facts body s e).fits (omega (arith, length-segment_values last s, (segment_facts body s e).some))
    (rw (length-segment_values last s) b)))

-- ---- a row from here on, with the room itself as the bound, as what it writes and answers

abbrev pub row_from : (room last : ℕ) (body : List ℕ) → Outcome
row_from room last body = row_outcome (read_row room room last body)

pub row_from_full : (last : ℕ) (body : List ℕ) → row_from 0 last body ≡ stop (counted 0)
unfolding stop
row_from_full last body = ap row_outcome (read_row_full 0 last body)

module _ (room last : ℕ) (body : List ℕ) (more : 0 < room) where
  pub row_from_refused : (r : ℕ) → read_segment body ≡ refused_segment r → row_from room last body ≡ stop (refused r)
  unfolding stop
  row_from_refused r e = go room more
    where
      go : (room : ℕ) → 0 < room → row_from room last body ≡ stop (refused r)
      go zero h = absurd (omega arith)
      go (suc room) h = ap row_outcome (read_row_refused room room last body r e)

  module _ (s : Segment) (e : read_segment body ≡ segment s) where
    pub row_from_overruns : room < value_count s → row_from room last body ≡ stop (refused 9)
    unfolding stop
    row_from_overruns wide = go room more wide
      where
        go : (room : ℕ) → 0 < room → room < value_count s → row_from room last body ≡ stop (refused 9)
        go zero h wide = absurd (omega arith)
        go (suc room) h wide = ap row_outcome (read_row_overruns room room last body s e wide)

    pub row_from_step : value_count s ≤ room → row_from room last body ≡ prepend (segment_values last s) (segment_size s) (row_from (room - value_count s) (last_byte_after last s) (drop (segment_size s) body))
    row_from_step fits = go room more fits
      where
        go : (room : ℕ) → 0 < room → value_count s ≤ room → row_from room last body ≡ prepend (segment_values last s) (segment_size s) (row_from (room - value_count s) (last_byte_after last s) (drop (segment_size s) body))
        go zero h fits = absurd (omega arith)
        go (suc room) h fits =
            ap row_outcome
            (read_row_step room room last body s e fits
            ∙ ap (prepend_row (segment_values last s) (segment_size s))
            (bound_irrelevant room (suc room - value_count s) (suc room - value_count s) (last_byte_after last s) (drop (segment_size s) body) (omega (arith, (segment_facts body s e).some)) (omega arith)))
            ∙ row_outcome_prepend (segment_values last s) (segment_size s) (read_row (suc room - value_count s) (suc room - value_count s) (last_byte_after last s) (drop (segment_size s) body))
