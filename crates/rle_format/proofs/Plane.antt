-- The rows of a plane one at a time, the checks before them, and how much a plane reads and writes.
use mathlib.Core.Path.{◌≡◌, refl, sym, ap, ◌∙◌}
use mathlib.Core.Logic.{◌⊎◌, inl, inr, ⊎_elim}
use mathlib.Core.List.{List}
use mathlib.Core.Option.{Option, none, some}
use Prim.Native.Nat.{ℕ, zero, suc, ◌+◌, ◌-◌, ◌*◌, ◌≤◌, ◌<◌}
use native.Mathlib.Nat.{mul-le-mul, zero-mul, suc-mul, mul_comm}
use native.Mathlib.Omega.{arith}
use borrow.Author.Tests.{lt-ltb, le-ltb}
use lib.Dec.{ltb}
use lib.ListN.{length, drop}
use Rattle.rle_format.specs.Choice.{choose}
use Rattle.rle_format.specs.Answer.{Answer, counted, refused, Outcome, stop, refuse, prepend}
use Rattle.rle_format.specs.Delta.{undo_delta, restore_row_of}
use Rattle.rle_format.specs.Unpack.{RowRead, full, stopped, read_row, row_outcome, unpack_rows, unpack_plane}
use Rattle.rle_format.proofs.Answer.{refused_not_counted}
use Rattle.rle_format.proofs.Cases.{le_or_gt, eq_or_ne}
use Rattle.rle_format.proofs.Sides.{zero_width, zero_height, too_wide, too_high, sides_allowed}
use Rattle.rle_format.proofs.Delta.{length_zip_with}
use Rattle.rle_format.proofs.Outcome.{Bounded, prepend_bounded}
use Rattle.rle_format.proofs.Row.{row_bounded, row_from}

-- ---- a row, and those below it

module _ (w k : ℕ) (above : Option (List ℕ)) (body : List ℕ) where
  rows_full : (codes : List ℕ) (n : ℕ) → read_row w w 0 body ≡ full codes n
      → unpack_rows w (suc k) above body ≡ prepend (restore_row_of above codes) n (unpack_rows w k (some (restore_row_of above codes)) (drop n body))
  unfolding unpack_rows
  rows_full codes n e = cc e

  rows_stopped : (codes : List ℕ) (r : ℕ) → read_row w w 0 body ≡ stopped codes r → unpack_rows w (suc k) above body ≡ row_outcome (stopped codes r)
  unfolding unpack_rows
  rows_stopped codes r e = cc e

-- the same, from the outcome of the row
pub record RowFull (w n : ℕ) (body : List ℕ) : Type 0 where
  pub wide : length (row_from w 0 body).written ≡ w
  pub within : n ≤ length body
  pub rows : (k : ℕ) (above : Option (List ℕ)) → unpack_rows w (suc k) above body
      ≡ prepend (restore_row_of above (row_from w 0 body).written) n (unpack_rows w k (some (restore_row_of above (row_from w 0 body).written)) (drop n body))

pub row_full : (w n : ℕ) (body : List ℕ) → (row_from w 0 body).answer ≡ counted n → RowFull w n body
row_full w n body e = go (read_row w w 0 body) refl (row_bounded w w 0 body (omega arith)) e
  where
    go : (read : RowRead) → read_row w w 0 body ≡ read → Bounded w body (row_outcome read).written (row_outcome read).answer → (row_outcome read).answer ≡ counted n → RowFull w n body
    go (stopped codes r) is b a = refused_not_counted a
    go (full codes m) is b a =
        let same : m ≡ n = cc in
        let from : (row_from w 0 body).written ≡ codes = ap (λ (r : RowRead). (row_outcome r).written) is in
        record {
          wide = ap length from ∙ b.0;
          within = omega arith;
          rows = λ k above. rw (from, ← same) (rows_full w k above body codes m is);
        }

pub row_stopped : (w r k : ℕ) (above : Option (List ℕ)) (body : List ℕ) → (row_from w 0 body).answer ≡ refused r → unpack_rows w (suc k) above body ≡ row_from w 0 body
row_stopped w r k above body e = go (read_row w w 0 body) refl e
  where
    go : (read : RowRead) → read_row w w 0 body ≡ read → (row_outcome read).answer ≡ refused r → unpack_rows w (suc k) above body ≡ row_from w 0 body
    go (full codes m) is a = refused_not_counted (sym a)
    go (stopped codes q) is a = rows_stopped w k above body codes q is ∙ sym (ap row_outcome is)

-- no row
pub rows_zero : (w : ℕ) (above : Option (List ℕ)) (body : List ℕ) → unpack_rows w 0 above body ≡ stop (counted 0)
unfolding unpack_rows
rows_zero w above body = refl

-- ---- the checks before the rows, in their order

-- a product of two sides is at most that of their limits
pub area_max : (w h : ℕ) → w ≤ 8192 → h ≤ 8192 → w * h ≤ 67108864
area_max w h a b = mul-le-mul a b

module _ (w h room : ℕ) (body : List ℕ) where
  -- what follows the checks of the sides
  abbrev after_sides : Outcome
  after_sides = choose (ltb room (w * h)) (refuse 10) (unpack_rows w h none body)

  pub plane_zero_width : w ≡ 0 → unpack_plane w h room body ≡ refuse 1
  unfolding unpack_plane
  plane_zero_width e = zero_width refuse w h after_sides e

  module _ (hw : w ≡ 0 → ⊥) where
    pub plane_zero_height : h ≡ 0 → unpack_plane w h room body ≡ refuse 1
    unfolding unpack_plane
    plane_zero_height e = zero_height refuse w h after_sides hw e

    module _ (hh : h ≡ 0 → ⊥) where
      pub plane_too_wide : 8192 < w → unpack_plane w h room body ≡ refuse 2
      unfolding unpack_plane
      plane_too_wide l = too_wide refuse w h after_sides hw hh l

      module _ (lw : w ≤ 8192) where
        pub plane_too_high : 8192 < h → unpack_plane w h room body ≡ refuse 2
        unfolding unpack_plane
        plane_too_high l = too_high refuse w h after_sides hw hh lw l

        module _ (lh : h ≤ 8192) where
          pub plane_short_destination : room < w * h → unpack_plane w h room body ≡ refuse 10
          unfolding unpack_plane
          plane_short_destination l = sides_allowed refuse w h after_sides hw hh lw lh ∙ simp (lt-ltb room (w * h) l)

          pub plane_rows : w * h ≤ room → unpack_plane w h room body ≡ unpack_rows w h none body
          unfolding unpack_plane
          plane_rows l = sides_allowed refuse w h after_sides hw hh lw lh ∙ simp (le-ltb room (w * h) l)

-- ---- how much rows read and write

-- the row above, if there is one, is w wide
abbrev pub AboveHasWidth : (w : ℕ) → Option (List ℕ) → Type 0
AboveHasWidth w none = Unit {0}
AboveHasWidth w (some above) = length above ≡ w

pub restored_has_width : (w : ℕ) (above : Option (List ℕ)) (codes : List ℕ) → AboveHasWidth w above → length codes ≡ w → length (restore_row_of above codes) ≡ w
restored_has_width w none codes a e = e
restored_has_width w (some above) codes a e = length_zip_with undo_delta above codes (a ∙ sym e) ∙ e

pub rows_bounded : (w k : ℕ) (above : Option (List ℕ)) (body : List ℕ) → AboveHasWidth w above
    → Bounded (k * w) body (unpack_rows w k above body).written (unpack_rows w k above body).answer
unfolding stop
rows_bounded w zero above body a = rw (rows_zero w above body, zero-mul w) (refl, (omega arith, omega arith))
rows_bounded w (suc k) above body a =
    go (λ codes n. rows_bounded w k (some (restore_row_of above codes)) (drop n body)) (read_row w w 0 body) refl (row_bounded w w 0 body (omega arith))
  where
    wide : suc k * w ≡ k * w + w
    wide = suc-mul k w

    go : ((codes : List ℕ) (n : ℕ) → length (restore_row_of above codes) ≡ w
        → Bounded (k * w) (drop n body) (unpack_rows w k (some (restore_row_of above codes)) (drop n body)).written (unpack_rows w k (some (restore_row_of above codes)) (drop n body)).answer)
        → (read : RowRead) → read_row w w 0 body ≡ read → Bounded w body (row_outcome read).written (row_outcome read).answer
        → Bounded (suc k * w) body (unpack_rows w (suc k) above body).written (unpack_rows w (suc k) above body).answer
    go ih (stopped codes r) is b = rw (rows_stopped w k above body codes r is) (omega (arith, wide), b.1)
    go ih (full codes n) is b =
        let l : length (restore_row_of above codes) ≡ w = restored_has_width w above codes a b.0 in
        let e : suc k * w - length (restore_row_of above codes) ≡ k * w = omega (arith, wide) in
        rw (rows_full w k above body codes n is)
        (prepend_bounded (suc k * w) n body (restore_row_of above codes) (unpack_rows w k (some (restore_row_of above codes)) (drop n body))
        (omega (arith, wide)) b.1.0 (omega arith) (rw e (ih codes n l)))

-- the numbers by which a plane is refused
abbrev pub PlaneRefusal : ℕ → Type 0
PlaneRefusal r = (r ≡ 1) ⊎ ((r ≡ 2) ⊎ ((r ≡ 10) ⊎ ((7 ≤ r) × (r ≤ 9))))

-- a plane that was read has written width × height samples from bytes within its body, two at most for each; a refused one
-- has written no more
abbrev pub PlaneBounded : (area : ℕ) (body written : List ℕ) → Answer → Type 0
PlaneBounded area body written (counted n) = (area ≤ 67108864) × Bounded area body written (counted n)
PlaneBounded area body written (refused r) = (length written ≤ area) × PlaneRefusal r

-- what holds of a plane holds of it as a refusal at the entry or as its rows
entry_bounded : (area r : ℕ) (body : List ℕ) (o : Outcome) → o ≡ stop (refused r) → PlaneRefusal r → PlaneBounded area body o.written o.answer
unfolding stop
entry_bounded area r body o e k = rw e (omega arith, k)

rows_plane_bounded : (w h : ℕ) (body : List ℕ) (o : Outcome) → o ≡ unpack_rows w h none body → w * h ≤ 67108864 → PlaneBounded (w * h) body o.written o.answer
rows_plane_bounded w h body o e few =
    rw (e, mul_comm w h) (go (unpack_rows w h none body).written (unpack_rows w h none body).answer (rows_bounded w h none body tt))
  where
    go : (written : List ℕ) (a : Answer) → Bounded (h * w) body written a → PlaneBounded (h * w) body written a
    go written (counted n) b = (omega (arith, mul_comm w h), b)
    go written (refused r) b = (b.0, inr (inr (inr b.1)))

pub plane_bounded : (w h room : ℕ) (body : List ℕ) → PlaneBounded (w * h) body (unpack_plane w h room body).written (unpack_plane w h room body).answer
plane_bounded w h room body =
    ⊎_elim (λ (z : w ≡ 0). at_entry 1 (plane_zero_width w h room body z) (inl refl))
    (λ (hw : w ≡ 0 → ⊥).
    ⊎_elim (λ (z : h ≡ 0). at_entry 1 (plane_zero_height w h room body hw z) (inl refl))
    (λ (hh : h ≡ 0 → ⊥).
    ⊎_elim
    (λ (lw : w ≤ 8192).
    ⊎_elim
    (λ (lh : h ≤ 8192).
    ⊎_elim (λ (l : w * h ≤ room). rows_plane_bounded w h body (unpack_plane w h room body) (plane_rows w h room body hw hh lw lh l) (area_max w h lw lh))
    (λ (l : room < w * h). at_entry 10 (plane_short_destination w h room body hw hh lw lh l) (inr (inr (inl refl))))
    (le_or_gt (w * h) room))
    (λ (l : 8192 < h). at_entry 2 (plane_too_high w h room body hw hh lw l) (inr (inl refl)))
    (le_or_gt h 8192))
    (λ (l : 8192 < w). at_entry 2 (plane_too_wide w h room body hw hh l) (inr (inl refl)))
    (le_or_gt w 8192))
    (eq_or_ne h 0))
    (eq_or_ne w 0)
  where
    at_entry : (r : ℕ) → unpack_plane w h room body ≡ stop (refused r) → PlaneRefusal r → PlaneBounded (w * h) body (unpack_plane w h room body).written (unpack_plane w h room body).answer
    at_entry r e k = entry_bounded (w * h) r body (unpack_plane w h room body) e k

-- so that the number of bytes read is bounded
pub read_count_max : (w h room : ℕ) (body : List ℕ) (n : ℕ) → (unpack_plane w h room body).answer ≡ counted n → n ≤ 134217728
read_count_max w h room body n e = let b = rw e at (plane_bounded w h room body) in omega arith
