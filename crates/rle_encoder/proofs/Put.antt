-- Segments written into an array with room: the invariant of the loops that write them, and its laws.
use Rattle.std.proofs.Common.{◌≡◌, ℕ, ◌+◌, ◌-◌, ◌≤◌, List, [], ◌∷◌, ◌++◌, length, get_or, take, drop, set, sym, refl, ap, ◌∙◌, append_assoc, append-nil, arith, length-append, take-append-drop, get_or-drop}
use Rattle.rle_format.specs.Slice.{write_at}
use Rattle.rle_format.specs.Segment.{Segment, segment_size, control_byte, segment_bytes, segments_bytes}
use Rattle.rle_format.proofs.Slice.{length-write_at, take-write_at, drop-write_at, take-write_at_before, write_at-write_at, set-write_at}
use Rattle.rle_format.proofs.Segments.{segments_bytes-append}
use Rattle.rle_format.proofs.Writing.{length-segments_bytes}
use Rattle.rle_encoder.specs.Put.{SameFrom, Put}

-- ---- the invariant

-- of the segments `whole`, which begin at index `at`, those before `rest` are written, up to index `to`; the array was d₀ and is d
pub record PutHead (whole rest : List Segment) (d₀ d : List ℕ) (at to : ℕ) : Type 0 where
  pub room : to + length (segments_bytes rest) + 16 ≤ length d
  pub place : to + length (segments_bytes rest) ≡ at + length (segments_bytes whole)
  pub done : take to d ++ segments_bytes rest ≡ take at d₀ ++ segments_bytes whole
  pub same : SameFrom d₀ d (to + 16)

pub put_first : (ss : List Segment) (d : List ℕ) (at : ℕ) → at + length (segments_bytes ss) + 16 ≤ length d → PutHead ss ss d d at at
put_first ss d at h = record { room = h; place = refl; done = refl; same = λ j f. refl }

module _ {whole rest : List Segment} {d₀ d : List ℕ} {at to : ℕ} (head : PutHead whole rest d₀ d at to) where
  -- the same segments as another list
  pub put_rest : (same : List Segment) → rest ≡ same → PutHead whole same d₀ d at to
  put_rest same e =
      let n : length (segments_bytes same) ≡ length (segments_bytes rest) = ap (λ (ss : List Segment). length (segments_bytes ss)) (sym e) in
      record {
        room = omega (arith, head.room);
        place = omega (arith, head.place);
        done = ap (λ (ss : List Segment). take to d ++ segments_bytes ss) (sym e) ∙ head.done;
        same = head.same;
      }

  -- room for a segment, which has one byte or more
  pub put_room : (s : Segment) (later : List Segment) → rest ≡ s ∷ later → to + 17 ≤ length d
  put_room s later e =
      let n : length (segments_bytes rest) ≡ segment_size s + length (segments_bytes later) = ap (λ (ss : List Segment). length (segments_bytes ss)) e ∙ length-segments_bytes s later in
      omega (arith, head.room)

  -- room for the first segments that are left
  pub put_room_of : (xs later : List Segment) → rest ≡ xs ++ later → to + length (segments_bytes xs) + 16 ≤ length d
  put_room_of xs later e =
      let n : length (segments_bytes rest) ≡ length (segments_bytes xs) + length (segments_bytes later) =
      ap (λ (ss : List Segment). length (segments_bytes ss)) e ∙ ap length (segments_bytes-append xs later) ∙ length-append (segments_bytes xs) (segments_bytes later) in
      omega (arith, head.room)

  -- these were written
  pub put_turn : (xs later : List Segment) (e : List ℕ) (next : ℕ) → rest ≡ xs ++ later → length e ≡ length d → Put xs d e to next
      → PutHead whole later d₀ e at next
  put_turn xs later e next is n put =
      let sum : length (segments_bytes rest) ≡ length (segments_bytes xs) + length (segments_bytes later) =
      ap (λ (ss : List Segment). length (segments_bytes ss)) is ∙ ap length (segments_bytes-append xs later) ∙ length-append (segments_bytes xs) (segments_bytes later) in
      let here : next ≡ to + length (segments_bytes xs) = put.0 in
      record {
        room = omega (arith, head.room);
        place = omega (arith, head.place);
        done =
            ap (λ (l : List ℕ). l ++ segments_bytes later) put.1
            ∙ append_assoc (take to d) (segments_bytes xs) (segments_bytes later)
            ∙ ap (λ (l : List ℕ). take to d ++ l) (sym (segments_bytes-append xs later))
            ∙ ap (λ (ss : List Segment). take to d ++ segments_bytes ss) (sym is)
            ∙ head.done;
        same = λ j f. put.2 j f ∙ head.same j (omega arith);
      }

  -- no segment is left
  pub put_done : rest ≡ [] → Put whole d₀ d at to
  put_done e =
      let n : length (segments_bytes rest) ≡ 0 = ap (λ (ss : List Segment). length (segments_bytes ss)) e in (
        omega (arith, head.place),
        sym (append-nil (take to d)) ∙ ap (λ (ss : List Segment). take to d ++ segments_bytes ss) (sym e) ∙ head.done,
        head.same,
      )

  -- a call wrote all segments that were left
  pub put_last : (e : List ℕ) (r : ℕ) → Put rest d e to r → Put whole d₀ e at r
  put_last e r put = (put.0 ∙ head.place, put.1 ∙ head.done, λ j f. put.2 j f ∙ head.same j (omega (arith, put.0)))

-- ---- one segment

-- behind the bytes that were written nothing changed
same_behind : (d₀ : List ℕ) (at : ℕ) (vs : List ℕ) → at + length vs ≤ length d₀ → (from : ℕ) → at + length vs ≤ from → SameFrom d₀ (write_at d₀ at vs) from
same_behind d₀ at vs room from h j f =
    let k : ℕ = j - (at + length vs) in
    let z : at + length vs + k ≡ j = omega arith in
    let there : (d : List ℕ) → get_or (drop (at + length vs) d) k 0 ≡ get_or d j 0 = λ d. get_or-drop (at + length vs) d k 0 ∙ ap (λ (i : ℕ). get_or d i 0) z in
    sym (there (write_at d₀ at vs)) ∙ ap (λ (l : List ℕ). get_or l k 0) (drop-write_at d₀ at vs room) ∙ there d₀

-- the first of the bytes that were written
put_part : (d₀ d : List ℕ) (n : ℕ) (xs ys : List ℕ) → d ≡ write_at d₀ n (xs ++ ys) → n + length xs ≤ length d₀ → take (n + length xs) d ≡ take n d₀ ++ xs
put_part d₀ d n xs ys e room =
    let wide = length-write_at d₀ n xs room in
    let split : d ≡ write_at (write_at d₀ n xs) (n + length xs) ys = e ∙ sym (write_at-write_at d₀ n xs room ys) in
    ap (take (n + length xs)) split ∙ take-write_at_before (write_at d₀ n xs) (n + length xs) ys (omega arith) ∙ take-write_at d₀ n xs room

-- a control byte was written, and behind it bytes that begin with the raw bytes of the segment
pub put_one : (s : Segment) (d₀ d ws : List ℕ) (at c r : ℕ) → at + 1 + length ws ≤ length d₀ → c ≡ control_byte s → r ≡ at + segment_size s
    → take (length s.raw) ws ≡ s.raw → length s.raw ≤ length ws → length ws ≤ 16 → d ≡ write_at (set d₀ at c) (at + 1) ws → Put (s ∷ []) d₀ d at r
put_one s d₀ d ws at c r fits ec er front few most e =
    let stored : set d₀ at c ≡ write_at d₀ at (c ∷ []) = set-write_at d₀ at c (omega arith) in
    let one : at + length (c ∷ []) ≤ length d₀ = omega arith in
    let whole : d ≡ write_at d₀ at (c ∷ ws) = e ∙ ap (λ (l : List ℕ). write_at l (at + 1) ws) stored ∙ write_at-write_at d₀ at (c ∷ []) one ws in
    let k : ℕ = length s.raw in
    let split : ws ≡ s.raw ++ drop k ws = sym (take-append-drop k ws) ∙ ap (λ (l : List ℕ). l ++ drop k ws) front in
    let parts : d ≡ write_at d₀ at (segment_bytes s ++ drop k ws) = whole ∙ (λ i. write_at d₀ at (ec i ∷ split i)) in
    let n : length (segments_bytes (s ∷ [])) ≡ segment_size s = ap length (append-nil (segment_bytes s)) ∙ omega arith in
    let there : r ≡ at + length (segment_bytes s) = er ∙ omega arith in (
      omega arith,
      ap (λ (j : ℕ). take j d) there ∙ put_part d₀ d at (segment_bytes s) (drop k ws) parts (omega arith) ∙ ap (λ (l : List ℕ). take at d₀ ++ l) (sym (append-nil (segment_bytes s))),
      λ j f. ap (λ (l : List ℕ). get_or l j 0) whole ∙ same_behind d₀ at (c ∷ ws) (omega arith) (r + 16) (omega arith) j f,
    )
