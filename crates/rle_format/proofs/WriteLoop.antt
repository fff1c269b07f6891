-- Segments written one list after another: the invariant of the packer's loops. All its loops use these laws.
use mathlib.Core.Path.{◌≡◌, refl, sym, ap, ◌∙◌}
use mathlib.Core.Logic.{⊎_elim}
use Rattle.std.specs.Prelude.{Result, Ok, Err}
use mathlib.Core.List.{List, [], ◌∷◌, ◌++◌, append-nil}
use Prim.Native.Nat.{ℕ, ◌+◌, ◌-◌, ◌≤◌, ◌<◌}
use native.Mathlib.Nat.{zero-add}
use native.Mathlib.Omega.{arith}
use lib.ListN.{length, set, length-drop}
use Rattle.rle_format.specs.declared.Refusal.{Refusal}
use Rattle.rle_format.specs.declared.Refusal.TheVariants.{BufferTooSmall}
use Rattle.rle_format.specs.Answer.{Answer, counted, refused, Outcome, stop, add_count, prepend, number, to_answer}
use Rattle.rle_format.specs.Slice.{overwrite, write_at}
use Rattle.rle_format.specs.Segment.{Segment, segment_size, control_byte, segment_bytes, segments_bytes}
use Rattle.rle_format.specs.Pack.{write_segments}
use Rattle.rle_format.proofs.Cases.{le_or_gt}
use Rattle.rle_format.proofs.Slice.{write_at_nil, write_at_0, length-write_at, write_at-write_at, set-write_at, suffix, suffix_drop, replace_suffix, suffix_overwrite}
use Rattle.rle_format.proofs.Writing.{write_append, write_append_no_room, write_all, write_refused, write_within, write_no_room, write_count_within}
use Rattle.rle_format.specs.Written.{answer_at, slice_at}

-- ---- segments that all fit, and segments that do not

module _ (ss : List Segment) (d : List ℕ) (at : ℕ) where
  pub answer_at_fits : length (segments_bytes ss) ≤ length d - at → answer_at ss d at ≡ counted (at + length (segments_bytes ss))
  unfolding answer_at
  answer_at_fits h = ap (λ (o : Outcome). add_count at o.answer) (write_all ss (length d - at) h)

  pub answer_at_no_room : length d - at < length (segments_bytes ss) → answer_at ss d at ≡ refused 12
  unfolding answer_at
  answer_at_no_room h = ap (add_count at) (write_refused ss (length d - at) h)

  pub slice_at_fits : length (segments_bytes ss) ≤ length d - at → slice_at ss d at ≡ write_at d at (segments_bytes ss)
  unfolding slice_at
  slice_at_fits h = ap (λ (o : Outcome). write_at d at o.written) (write_all ss (length d - at) h)

  pub length_slice_at : at ≤ length d → length (slice_at ss d at) ≡ length d
  unfolding slice_at
  length_slice_at h = length-write_at d at (write_segments ss (length d - at)).written (omega (arith, write_within ss (length d - at)))

-- ---- the answer of a call that writes segments into d from `at` on, and the slice after it

abbrev pub Wrote : List Segment → (d now : List ℕ) (at : ℕ) → Result ℕ Refusal → Type 0
Wrote ss d now at r = (to_answer r ≡ answer_at ss d at) × (now ≡ slice_at ss d at)

-- if the answer is an index, all segments fit, and the index is behind them
record AllFit (ss : List Segment) (d : List ℕ) (at next : ℕ) : Type 0 where
  fits : length (segments_bytes ss) ≤ length d - at
  place : next ≡ at + length (segments_bytes ss)

all_fit : (ss : List Segment) (d : List ℕ) (at next : ℕ) → counted next ≡ answer_at ss d at → AllFit ss d at next
all_fit ss d at next e =
    ⊎_elim
    (λ h. record { fits = h; place = cc (answer_at_fits ss d at h) })
    (λ h. let z : ◌≡◌ {A = ℕ} 0 1 = cc (answer_at_no_room ss d at h) in absurd (omega arith))
    (le_or_gt (length (segments_bytes ss)) (length d - at))

-- if it is a refusal, they do not
not_all_fit : (ss : List Segment) (d : List ℕ) (at k : ℕ) → refused k ≡ answer_at ss d at → length d - at < length (segments_bytes ss)
not_all_fit ss d at k e =
    ⊎_elim
    (λ h. let z : ◌≡◌ {A = ℕ} 0 1 = cc (answer_at_fits ss d at h) in absurd (omega arith))
    (λ h. h)
    (le_or_gt (length (segments_bytes ss)) (length d - at))

-- ---- segments, and others after them

module _ (xs ys : List Segment) (d : List ℕ) (at : ℕ) (h : at ≤ length d) where
  module _ (fits : length (segments_bytes xs) ≤ length d - at) where
    room_left : length (slice_at xs d at) - (at + length (segments_bytes xs)) ≡ length d - at - length (segments_bytes xs)
    room_left = omega (arith, length_slice_at xs d at h)

    answer_at-append : answer_at (xs ++ ys) d at ≡ answer_at ys (slice_at xs d at) (at + length (segments_bytes xs))
    unfolding answer_at prepend
    answer_at-append =
        ap (λ (o : Outcome). add_count at o.answer) (write_append xs ys (length d - at) fits)
        ∙ more_more at (length (segments_bytes xs)) (write_segments ys (length d - at - length (segments_bytes xs))).answer
        ∙ ap (λ (n : ℕ). add_count (at + length (segments_bytes xs)) (write_segments ys n).answer) (sym room_left)
      where
        more_more : (a b : ℕ) (x : Answer) → add_count a (add_count b x) ≡ add_count (a + b) x
        more_more a b (counted n) = ap counted (omega arith)
        more_more a b (refused r) = refl

    slice_at_append : slice_at (xs ++ ys) d at ≡ slice_at ys (slice_at xs d at) (at + length (segments_bytes xs))
    unfolding slice_at prepend
    slice_at_append =
        let ws : ℕ → List ℕ = λ n. (write_segments ys n).written in
        ap (λ (o : Outcome). write_at d at o.written) (write_append xs ys (length d - at) fits)
        ∙ sym (write_at-write_at d at (segments_bytes xs) (omega arith) (ws (length d - at - length (segments_bytes xs))))
        ∙ (λ i. write_at (sym (slice_at_fits xs d at fits) i) (at + length (segments_bytes xs)) (ws (sym room_left i)))

  module _ (out : length d - at < length (segments_bytes xs)) where
    answer_at-append_no_room : answer_at xs d at ≡ answer_at (xs ++ ys) d at
    unfolding answer_at
    answer_at-append_no_room = ap (λ (o : Outcome). add_count at o.answer) (sym (write_append_no_room xs ys (length d - at) out))

    slice_at_append_no_room : slice_at xs d at ≡ slice_at (xs ++ ys) d at
    unfolding slice_at
    slice_at_append_no_room = ap (λ (o : Outcome). write_at d at o.written) (sym (write_append_no_room xs ys (length d - at) out))

-- ---- the invariant of a loop

-- writing `rest` into `now` from `to` on is what writing `whole` into d from `at` on is
pub record WriteInvariant (whole rest : List Segment) (d now : List ℕ) (at to : ℕ) : Type 0 where
  pub within : to ≤ length now
  pub len : length now ≡ length d
  pub answers : answer_at rest now to ≡ answer_at whole d at
  pub slices : slice_at rest now to ≡ slice_at whole d at

pub write_start : (ss : List Segment) (d : List ℕ) (at : ℕ) → at ≤ length d → WriteInvariant ss ss d d at at
write_start ss d at h = record { within = h; len = refl; answers = refl; slices = refl }

module _ {whole rest : List Segment} {d now : List ℕ} {at to : ℕ} (head : WriteInvariant whole rest d now at to) where
  -- the same rest, written differently
  pub write_same_rest : (same : List Segment) → rest ≡ same → WriteInvariant whole same d now at to
  write_same_rest same e =
      record {
        within = head.within;
        len = head.len;
        answers = ap (λ (ss : List Segment). answer_at ss now to) (sym e) ∙ head.answers;
        slices = ap (λ (ss : List Segment). slice_at ss now to) (sym e) ∙ head.slices;
      }

  -- the first of what is left were written
  pub write_next : (xs later : List Segment) (then : List ℕ) (r : Result ℕ Refusal) (next : ℕ) → rest ≡ xs ++ later → Wrote xs now then to r → r ≡ Ok next
      → WriteInvariant whole later d then at next
  write_next xs later then r next e w answered =
      let known = all_fit xs now to next (ap to_answer (sym answered) ∙ w.0) in
      let long : length then ≡ length now = ap length w.1 ∙ length_slice_at xs now to head.within in
      let here = head.within in
      record {
        within = omega arith;
        len = long ∙ head.len;
        answers =
            (λ i. answer_at later (w.1 i) (known.place i))
            ∙ sym (answer_at-append xs later now to head.within known.fits)
            ∙ ap (λ (ss : List Segment). answer_at ss now to) (sym e)
            ∙ head.answers;
        slices =
            (λ i. slice_at later (w.1 i) (known.place i))
            ∙ sym (slice_at_append xs later now to head.within known.fits)
            ∙ ap (λ (ss : List Segment). slice_at ss now to) (sym e)
            ∙ head.slices;
      }

  -- they do not all fit
  pub write_stop : (xs later : List Segment) (then : List ℕ) (r : Result ℕ Refusal) (k : Refusal) → rest ≡ xs ++ later → Wrote xs now then to r → r ≡ Err k
      → Wrote whole d then at r
  write_stop xs later then r k e w answered =
      let out = not_all_fit xs now to (number k) (ap to_answer (sym answered) ∙ w.0) in (
        w.0 ∙ answer_at-append_no_room xs later now to head.within out ∙ ap (λ (ss : List Segment). answer_at ss now to) (sym e) ∙ head.answers,
        w.1 ∙ slice_at_append_no_room xs later now to head.within out ∙ ap (λ (ss : List Segment). slice_at ss now to) (sym e) ∙ head.slices,
      )

  -- a call has written all that is left
  pub write_last : (then : List ℕ) (r : Result ℕ Refusal) → Wrote rest now then to r → Wrote whole d then at r
  write_last then r w = (w.0 ∙ head.answers, w.1 ∙ head.slices)

  -- nothing is left
  pub write_end : rest ≡ [] → Wrote whole d now at (Ok to)
  write_end e =
      let all : to + 0 ≡ to = omega arith in (
        sym (answer_at_fits [] now to (omega arith) ∙ ap counted all) ∙ ap (λ (ss : List Segment). answer_at ss now to) (sym e) ∙ head.answers,
        sym (slice_at_fits [] now to (omega arith) ∙ write_at_nil now to) ∙ ap (λ (ss : List Segment). slice_at ss now to) (sym e) ∙ head.slices,
      )

-- ---- one segment

module _ (s : Segment) (d : List ℕ) (at : ℕ) where
  length_one_segment : length (segments_bytes (s ∷ [])) ≡ segment_size s
  length_one_segment = ap length (append-nil (segment_bytes s)) ∙ omega arith

  -- it does not fit
  pub wrote_refused : length d - at < segment_size s → Wrote (s ∷ []) d d at (Err BufferTooSmall)
  unfolding slice_at stop
  wrote_refused h = (
    sym (answer_at_no_room (s ∷ []) d at (omega (arith, length_one_segment))),
    sym (ap (λ (o : Outcome). write_at d at o.written) (write_no_room s [] (length d - at) h) ∙ write_at_nil d at),
  )

  -- its control byte was stored, and its raw bytes behind it
  pub wrote_one : (now : List ℕ) (c n : ℕ) → at ≤ length d → segment_size s ≤ length d - at → c ≡ control_byte s → n ≡ at + segment_size s
      → now ≡ write_at (set d at c) (at + 1) s.raw → Wrote (s ∷ []) d now at (Ok n)
  wrote_one now c n h fits ec en e =
      let all : length (segments_bytes (s ∷ [])) ≤ length d - at = omega (arith, length_one_segment) in (
        ap counted (en ∙ ap (λ (k : ℕ). at + k) (sym length_one_segment)) ∙ sym (answer_at_fits (s ∷ []) d at all),
        e
            ∙ ap (λ (l : List ℕ). write_at l (at + 1) s.raw) (set-write_at d at c (omega arith))
            ∙ write_at-write_at d at (c ∷ []) (omega arith) s.raw
            ∙ ap (λ (x : ℕ). write_at d at (x ∷ s.raw)) ec
            ∙ ap (write_at d at) (sym (append-nil (segment_bytes s)))
            ∙ sym (slice_at_fits (s ∷ []) d at all),
      )

-- ---- segments that a call wrote into the part of d from `at` on, which is ys afterwards

module _ (ss : List Segment) (d ys : List ℕ) (at : ℕ) (r : Result ℕ Refusal) (answered : to_answer r ≡ (write_segments ss (length (suffix d at))).answer)
    (left : ys ≡ overwrite (suffix d at) (write_segments ss (length (suffix d at))).written) where
  part_room : length (suffix d at) ≡ length d - at
  part_room = ap length (suffix_drop d at) ∙ length-drop at d

  part_slice : replace_suffix d at ys ≡ slice_at ss d at
  unfolding slice_at
  part_slice = suffix_overwrite d ys (write_segments ss (length (suffix d at))).written at left ∙ ap (λ (n : ℕ). write_at d at (write_segments ss n).written) part_room

  part_answer : (a : Answer) → to_answer r ≡ a → add_count at a ≡ answer_at ss d at
  unfolding answer_at
  part_answer a e = ap (add_count at) (sym e ∙ answered ∙ ap (λ (n : ℕ). (write_segments ss n).answer) part_room)

  pub part_refused : (k : Refusal) → r ≡ Err k → Wrote ss d (replace_suffix d at ys) at r
  part_refused k e = (ap to_answer e ∙ part_answer (refused (number k)) (ap to_answer e), part_slice)

  pub part_written : (n : ℕ) → r ≡ Ok n → Wrote ss d (replace_suffix d at ys) at (Ok (at + n))
  part_written n e = (part_answer (counted n) (ap to_answer e), part_slice)

  -- its bytes lie within the part
  pub part_within : (n : ℕ) → r ≡ Ok n → n ≤ length d - at
  part_within n e = write_count_within ss (length d - at) n (ap to_answer (sym e) ∙ answered ∙ ap (λ (k : ℕ). (write_segments ss k).answer) part_room)

-- ---- from the start of the slice on

module _ (ss : List Segment) (d : List ℕ) where
  answer_at_0 : answer_at ss d 0 ≡ (write_segments ss (length d)).answer
  unfolding answer_at
  answer_at_0 =
      let z : length d - 0 ≡ length d = omega arith in
      ap (λ (n : ℕ). add_count 0 (write_segments ss n).answer) z ∙ same (write_segments ss (length d)).answer
    where
      same : (a : Answer) → add_count 0 a ≡ a
      same (counted n) = ap counted (zero-add n)
      same (refused r) = refl

  slice_at_0 : slice_at ss d 0 ≡ overwrite d (write_segments ss (length d)).written
  unfolding slice_at
  slice_at_0 =
      let z : length d - 0 ≡ length d = omega arith in
      ap (λ (n : ℕ). write_at d 0 (write_segments ss n).written) z ∙ write_at_0 d (write_segments ss (length d)).written

  pub wrote_from_0 : (now : List ℕ) (r : Result ℕ Refusal) → Wrote ss d now 0 r
      → (to_answer r ≡ (write_segments ss (length d)).answer) × (now ≡ overwrite d (write_segments ss (length d)).written)
  wrote_from_0 now r w = (w.0 ∙ answer_at_0, w.1 ∙ slice_at_0)
