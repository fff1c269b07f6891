-- Planes one behind the other in a work area: what is behind them stays, and they are the same in any work area that has room.
use Prim.Native.Nat.{ℕ, ◌+◌, ◌-◌, ◌*◌, ◌≤◌}
use mathlib.Core.Bool.{Bool}
use mathlib.Core.Path.{◌≡◌, refl, sym, ap, ◌∙◌}
use mathlib.Core.List.{List, [], ◌∷◌, ◌++◌}
use native.Mathlib.Nat.{add-zero, zero-add}
use native.Mathlib.Omega.{arith}
use lib.ListN.{length, take, drop, length-take}
use lib.Seq.{drop_at, drop-drop}
use borrow.Author.Tests.{le-ltb}
use Rattle.rle_format.specs.Answer.{Answer, counted, refused, Outcome, add_count}
use Rattle.rle_format.specs.Slice.{write_at}
use Rattle.rle_format.specs.Unpack.{unpack_plane}
use Rattle.rle_format.proofs.Answer.{refused_not_counted}
use Rattle.rle_format.proofs.Plane.{plane_bounded, PlaneBounded}
use Rattle.rle_format.proofs.Slice.{length-write_at, take-write_at, drop-write_at}
use Rattle.bitmap_format.specs.Planes.{PlaneAt, chroma_side_of, first_plane, second_plane, third_plane, colour_planes}
use Rattle.bitmap_format.specs.Sizes.{sample_count_of, sum_over}
use Rattle.bitmap_format.specs.UnpackPlanes.{PlanesOutcome, add_read, unpack_plane_at, unpack_planes}
use Rattle.bitmap_format.proofs.UnpackPlanes.{work_after, unpack_planes_read, unpack_planes_refused}

-- what a write left, from its start on
pub drop-write_at_at : (d : List ℕ) (at : ℕ) (vs : List ℕ) → at ≤ length d → drop at (write_at d at vs) ≡ vs ++ drop (at + length vs) d
unfolding write_at
drop-write_at_at d at vs h = drop_at (take at d) (vs ++ drop (at + length vs) d) at (simp length-take (omega arith))

-- ---- one plane

-- the room that a plane has does not matter where it is enough
pub room_any : (w h room other : ℕ) (body : List ℕ) → w * h ≤ room → w * h ≤ other → unpack_plane w h room body ≡ unpack_plane w h other body
unfolding unpack_plane
room_any w h room other body l m = rw (le-ltb room (w * h) l, le-ltb other (w * h) m)

pub written_most : (w h room : ℕ) (body : List ℕ) → length (unpack_plane w h room body).written ≤ w * h
written_most w h room body = go (unpack_plane w h room body).written (unpack_plane w h room body).answer (plane_bounded w h room body)
  where
    go : (written : List ℕ) (a : Answer) → PlaneBounded (w * h) body written a → length written ≤ w * h
    go written (counted n) b = omega (arith, b.1.0)
    go written (refused r) b = b.0

pub written_all : (w h room n : ℕ) (body : List ℕ) → (unpack_plane w h room body).answer ≡ counted n → length (unpack_plane w h room body).written ≡ w * h
written_all w h room n body e = let b = rw e at (plane_bounded w h room body) in b.1.0

-- ---- planes that follow one another from an offset on

abbrev pub Consecutive : (offset : ℕ) → List PlaneAt → Type 0
Consecutive offset [] = Unit {0}
Consecutive offset (p ∷ planes) = (p.offset ≡ offset) × Consecutive (offset + sample_count_of p) planes

pub colour_consecutive : (s : Bool) (w h : ℕ) → Consecutive 0 (colour_planes s w h)
unfolding colour_planes first_plane second_plane third_plane
colour_consecutive s w h = (refl, (sym (zero-add (w * h)), (ap (λ (n : ℕ). n + chroma_side_of s w * chroma_side_of s h) (sym (zero-add (w * h))), tt)))

-- what stands behind them stays, read or refused
pub record Behind (before after : List ℕ) (from : ℕ) : Type 0 where
  pub len : length after ≡ length before
  pub rest : drop from after ≡ drop from before

drop_behind : (d vs : List ℕ) (at from : ℕ) → at + length vs ≤ from → from ≤ length d → drop from (write_at d at vs) ≡ drop from d
drop_behind d vs at from h l =
    let to : at + length vs + (from - (at + length vs)) ≡ from = omega arith in
    let back : (l : List ℕ) → drop (from - (at + length vs)) (drop (at + length vs) l) ≡ drop from l =
    λ l. drop-drop (from - (at + length vs)) (at + length vs) l ∙ ap (λ (k : ℕ). drop k l) to in
    sym (back (write_at d at vs)) ∙ ap (drop (from - (at + length vs))) (drop-write_at d at vs (omega arith)) ∙ back d

pub planes_behind : (planes : List PlaneAt) (o from : ℕ) (work body : List ℕ) → Consecutive o planes → o + sum_over sample_count_of planes ≤ from → from ≤ length work
    → Behind work (unpack_planes planes work body).work from
unfolding unpack_planes sum_over add_read
planes_behind [] o from work body c l f = record { len = refl; rest = refl }
planes_behind (p ∷ planes) o from work body c l f =
    go (λ n. planes_behind planes (o + sample_count_of p) from (work_after p work body) (drop n body) c.1 (omega arith)) (unpack_plane_at p work body).answer refl
  where
    most : length (unpack_plane_at p work body).written ≤ sample_count_of p
    most = written_most p.width p.height (length work - p.offset) body

    here : Behind work (work_after p work body) from
    here = record {
      len = length-write_at work p.offset (unpack_plane_at p work body).written (omega (arith, most, c.0));
      rest = drop_behind work (unpack_plane_at p work body).written p.offset from (omega (arith, most, c.0)) f;
    }

    go : ((n : ℕ) → from ≤ length (work_after p work body) → Behind (work_after p work body) (unpack_planes planes (work_after p work body) (drop n body)).work from)
        → (a : Answer) → (unpack_plane_at p work body).answer ≡ a → Behind work (unpack_planes (p ∷ planes) work body).work from
    go ih (refused r) e = rw (unpack_planes_refused p planes work body r e) here
    go ih (counted n) e =
        let then = ih n (omega (arith, here.len)) in
        rw (unpack_planes_read p planes work body n e) (record { len = then.len ∙ here.len; rest = then.rest ∙ here.rest })

-- ---- the same planes in two work areas

-- the answers are the same, and so is what was read, from the start of the work area on
pub record Alike (u v : PlanesOutcome) (upto : ℕ) : Type 0 where
  pub answer : u.answer ≡ v.answer
  pub planes : (n : ℕ) → u.answer ≡ counted n → take upto u.work ≡ take upto v.work

-- n bytes read before
pub ahead_alike : (n : ℕ) (u v : PlanesOutcome) (upto all : ℕ) → upto ≡ all → Alike u v upto → Alike (add_read n u) (add_read n v) all
unfolding add_read
ahead_alike n u v upto all e h = record { answer = ap (add_count n) h.answer; planes = λ k. go k u.answer refl }
  where
    go : (k : ℕ) (a : Answer) → u.answer ≡ a → add_count n u.answer ≡ counted k → take all u.work ≡ take all v.work
    go k (counted j) ea ek = rw (← e) (h.planes j ea)
    go k (refused r) ea ek = refused_not_counted (sym (ap (add_count n) ea) ∙ ek)

front_is : (d vs : List ℕ) (at n : ℕ) → at + length vs ≡ n → n ≤ length d → take n (write_at d at vs) ≡ take at d ++ vs
front_is d vs at n e l = ap (λ (k : ℕ). take k (write_at d at vs)) (sym e) ∙ take-write_at d at vs (omega arith)

pub planes_alike : (planes : List PlaneAt) (o : ℕ) (work other body : List ℕ) → Consecutive o planes → o + sum_over sample_count_of planes ≤ length work
    → o + sum_over sample_count_of planes ≤ length other → take o work ≡ take o other → Alike (unpack_planes planes work body) (unpack_planes planes other body) (o + sum_over sample_count_of planes)
unfolding unpack_planes sum_over add_read
planes_alike [] o work other body c l m e = record {
  answer = refl;
  planes = λ n k. ap (λ (t : ℕ). take t work) (add-zero o) ∙ e ∙ ap (λ (t : ℕ). take t other) (sym (add-zero o));
}
planes_alike (p ∷ planes) o work other body c l m e =
    go (λ n. planes_alike planes (o + sample_count_of p) (work_after p work body) (work_after p other body) (drop n body) c.1) (unpack_plane_at p work body).answer refl
  where
    same : unpack_plane_at p work body ≡ unpack_plane_at p other body
    same = room_any p.width p.height (length work - p.offset) (length other - p.offset) body (omega (arith, c.0)) (omega (arith, c.0))

    most : length (unpack_plane_at p work body).written ≤ sample_count_of p
    most = written_most p.width p.height (length work - p.offset) body

    len : length (work_after p work body) ≡ length work
    len = length-write_at work p.offset (unpack_plane_at p work body).written (omega (arith, most, c.0))

    most_other : length (unpack_plane_at p other body).written ≤ sample_count_of p
    most_other = written_most p.width p.height (length other - p.offset) body

    len_other : length (work_after p other body) ≡ length other
    len_other = length-write_at other p.offset (unpack_plane_at p other body).written (omega (arith, most_other, c.0))

    go : ((n : ℕ) → o + sample_count_of p + sum_over sample_count_of planes ≤ length (work_after p work body) → o + sample_count_of p + sum_over sample_count_of planes ≤ length (work_after p other body)
        → take (o + sample_count_of p) (work_after p work body) ≡ take (o + sample_count_of p) (work_after p other body)
        → Alike (unpack_planes planes (work_after p work body) (drop n body)) (unpack_planes planes (work_after p other body) (drop n body)) (o + sample_count_of p + sum_over sample_count_of planes))
        → (a : Answer) → (unpack_plane_at p work body).answer ≡ a
        → Alike (unpack_planes (p ∷ planes) work body) (unpack_planes (p ∷ planes) other body) (o + (sample_count_of p + sum_over sample_count_of planes))
    go ih (refused r) ea =
        let eb : (unpack_plane_at p other body).answer ≡ refused r = sym (ap (λ (q : Outcome). q.answer) same) ∙ ea in
        rw (unpack_planes_refused p planes work body r ea, unpack_planes_refused p planes other body r eb) (record { answer = refl; planes = λ n k. refused_not_counted k })
    go ih (counted n) ea =
        let eb : (unpack_plane_at p other body).answer ≡ counted n = sym (ap (λ (q : Outcome). q.answer) same) ∙ ea in
        let wrote : length (unpack_plane_at p work body).written ≡ sample_count_of p = written_all p.width p.height (length work - p.offset) n body ea in
        let wrote-other : length (unpack_plane_at p other body).written ≡ sample_count_of p = written_all p.width p.height (length other - p.offset) n body eb in
        let front : take (o + sample_count_of p) (work_after p work body) ≡ take p.offset work ++ (unpack_plane_at p work body).written =
        front_is work (unpack_plane_at p work body).written p.offset (o + sample_count_of p) (omega (arith, c.0)) (omega arith) in
        let front-other : take (o + sample_count_of p) (work_after p other body) ≡ take p.offset other ++ (unpack_plane_at p other body).written =
        front_is other (unpack_plane_at p other body).written p.offset (o + sample_count_of p) (omega (arith, c.0)) (omega arith) in
        let before : take p.offset work ≡ take p.offset other = rw c.0 e in
        let agree : take (o + sample_count_of p) (work_after p work body) ≡ take (o + sample_count_of p) (work_after p other body) =
        front ∙ (λ i. before i ++ (same i).written) ∙ sym front-other in
        let then = ih n (omega (arith, len)) (omega (arith, len_other)) agree in
        rw (unpack_planes_read p planes work body n ea, unpack_planes_read p planes other body n eb)
        (ahead_alike n _ _ (o + sample_count_of p + sum_over sample_count_of planes) (o + (sample_count_of p + sum_over sample_count_of planes)) (omega arith) then)
