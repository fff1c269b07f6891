-- Planes unpacked one after the other.
use Prim.Native.Nat.{ℕ, ◌+◌, ◌-◌, ◌≤◌}
use mathlib.Core.Path.{◌≡◌, refl, sym, ap, ◌∙◌}
use mathlib.Core.List.{List, [], ◌∷◌, ◌++◌}
use native.Mathlib.Nat.{zero-add, add_assoc}
use native.Mathlib.Omega.{arith}
use lib.ListN.{length, drop, length-drop}
use lib.Seq.{drop-drop}
use Rattle.rle_format.specs.Answer.{Answer, counted, refused, add_count}
use Rattle.rle_format.specs.Slice.{write_at}
use Rattle.rle_format.proofs.Answer.{refused_not_counted}
use Rattle.rle_format.proofs.Plane.{plane_bounded}
use Rattle.bitmap_format.specs.Planes.{PlaneAt}
use Rattle.bitmap_format.specs.UnpackPlanes.{PlanesOutcome, add_read, unpack_plane_at, unpack_planes}

-- the work area after a plane
abbrev pub work_after : PlaneAt → (work body : List ℕ) → List ℕ
work_after p work body = write_at work p.offset (unpack_plane_at p work body).written

module _ (p : PlaneAt) (planes : List PlaneAt) (work body : List ℕ) where
  pub unpack_planes_read : (n : ℕ) → (unpack_plane_at p work body).answer ≡ counted n → unpack_planes (p ∷ planes) work body ≡ add_read n (unpack_planes planes (work_after p work body) (drop n body))
  unfolding unpack_planes
  unpack_planes_read n e = cc e

  pub unpack_planes_refused : (r : ℕ) → (unpack_plane_at p work body).answer ≡ refused r → unpack_planes (p ∷ planes) work body ≡ record { work = work_after p work body; answer = refused r }
  unfolding unpack_planes
  unpack_planes_refused r e = cc e

pub add_read-add_read : (n m : ℕ) (u : PlanesOutcome) → add_read n (add_read m u) ≡ add_read (n + m) u
unfolding add_read
add_read-add_read n m u = go u.work u.answer
  where
    go : (w : List ℕ) (a : Answer) → add_read n (add_read m (record { work = w; answer = a })) ≡ add_read (n + m) (record { work = w; answer = a })
    go w (counted k) = λ i. record { work = w; answer = counted (sym (add_assoc n m k) i) }
    go w (refused r) = refl

pub add_read_0 : (u : PlanesOutcome) → add_read 0 u ≡ u
unfolding add_read
add_read_0 u = go u.work u.answer
  where
    go : (w : List ℕ) (a : Answer) → add_read 0 (record { work = w; answer = a }) ≡ record { work = w; answer = a }
    go w (counted k) = λ i. record { work = w; answer = counted (zero-add k i) }
    go w (refused r) = refl

-- a plane reads no more than its body has
pub read_within : (p : PlaneAt) (work body : List ℕ) (n : ℕ) → (unpack_plane_at p work body).answer ≡ counted n → n ≤ length body
read_within p work body n e =
    let b = rw e at (plane_bounded p.width p.height (length work - p.offset) body) in
    omega arith

-- ---- two lists of planes: the second goes on where the first stopped, unless that was refused

module _ (p : PlaneAt) (xs ys : List PlaneAt) (work body : List ℕ) where
  -- the rest, after p was read in k bytes
  abbrev after_first : ℕ → PlanesOutcome
  after_first k = unpack_planes xs (work_after p work body) (drop k body)

  abbrev Continues : (xs : List PlaneAt) (work body : List ℕ) (n : ℕ) → Type 0
  Continues xs work body n = unpack_planes (xs ++ ys) work body ≡ add_read n (unpack_planes ys (unpack_planes xs work body).work (drop n body))

  append_read : (k n : ℕ) → (unpack_plane_at p work body).answer ≡ counted k → (b : Answer) → (after_first k).answer ≡ b → ((m : ℕ) → (after_first k).answer ≡ counted m → Continues xs (work_after p work body) (drop k body) m)
      → (unpack_planes (p ∷ xs) work body).answer ≡ counted n → Continues (p ∷ xs) work body n
  unfolding add_read
  append_read k n ek (refused r) eb ih e =
      refused_not_counted (sym (sym e ∙ ap (λ (u : PlanesOutcome). u.answer) (unpack_planes_read p xs work body k ek) ∙ ap (add_count k) eb))
  append_read k n ek (counted m) eb ih e =
      let read : unpack_planes (p ∷ xs) work body ≡ add_read k (after_first k) = unpack_planes_read p xs work body k ek in
      let total : counted (k + m) ≡ counted n = sym (ap (λ (u : PlanesOutcome). u.answer) read ∙ ap (add_count k) eb) ∙ e in
      let en : k + m ≡ n = cc in
      unpack_planes_read p (xs ++ ys) work body k ek
      ∙ ap (add_read k) (ih m eb)
      ∙ add_read-add_read k m (unpack_planes ys (after_first k).work (drop m (drop k body)))
      ∙ (λ i. add_read (en i) (unpack_planes ys (sym (ap (λ (u : PlanesOutcome). u.work) read) i) ((drop-drop m k body ∙ ap (λ (j : ℕ). drop j body) en) i)))

  append_refused : (k r : ℕ) → (unpack_plane_at p work body).answer ≡ counted k → (b : Answer) → (after_first k).answer ≡ b
      → ((after_first k).answer ≡ refused r → unpack_planes (xs ++ ys) (work_after p work body) (drop k body) ≡ after_first k) → (unpack_planes (p ∷ xs) work body).answer ≡ refused r
      → unpack_planes (p ∷ (xs ++ ys)) work body ≡ unpack_planes (p ∷ xs) work body
  unfolding add_read
  append_refused k r ek (counted m) eb ih e = refused_not_counted (sym e ∙ ap (λ (u : PlanesOutcome). u.answer) (unpack_planes_read p xs work body k ek) ∙ ap (add_count k) eb)
  append_refused k r ek (refused q) eb ih e =
      let same : refused q ≡ refused r = sym (ap (λ (u : PlanesOutcome). u.answer) (unpack_planes_read p xs work body k ek) ∙ ap (add_count k) eb) ∙ e in
      unpack_planes_read p (xs ++ ys) work body k ek ∙ ap (add_read k) (ih (eb ∙ same)) ∙ sym (unpack_planes_read p xs work body k ek)

pub planes_append : (xs ys : List PlaneAt) (work body : List ℕ) (n : ℕ) → (unpack_planes xs work body).answer ≡ counted n
    → unpack_planes (xs ++ ys) work body ≡ add_read n (unpack_planes ys (unpack_planes xs work body).work (drop n body))
unfolding unpack_planes
planes_append [] ys work body n e =
    let z : 0 ≡ n = cc in
    sym (add_read_0 (unpack_planes ys work body)) ∙ (λ i. add_read (z i) (unpack_planes ys work (drop (z i) body)))
planes_append (p ∷ xs) ys work body n e = go (λ k m. planes_append xs ys (work_after p work body) (drop k body) m) (unpack_plane_at p work body).answer refl
  where
    go : ((k m : ℕ) → (after_first p xs ys work body k).answer ≡ counted m → Continues p xs ys work body xs (work_after p work body) (drop k body) m) → (a : Answer) → (unpack_plane_at p work body).answer ≡ a
        → Continues p xs ys work body (p ∷ xs) work body n
    go ih (refused r) ea = refused_not_counted (sym (sym e ∙ ap (λ (u : PlanesOutcome). u.answer) (unpack_planes_refused p xs work body r ea)))
    go ih (counted k) ea = append_read p xs ys work body k n ea (after_first p xs ys work body k).answer refl (ih k) e

pub planes_append_refused : (xs ys : List PlaneAt) (work body : List ℕ) (r : ℕ) → (unpack_planes xs work body).answer ≡ refused r → unpack_planes (xs ++ ys) work body ≡ unpack_planes xs work body
unfolding unpack_planes
planes_append_refused [] ys work body r e = refused_not_counted (sym e)
planes_append_refused (p ∷ xs) ys work body r e = go (λ k. planes_append_refused xs ys (work_after p work body) (drop k body) r) (unpack_plane_at p work body).answer refl
  where
    go : ((k : ℕ) → (after_first p xs ys work body k).answer ≡ refused r → unpack_planes (xs ++ ys) (work_after p work body) (drop k body) ≡ after_first p xs ys work body k) → (a : Answer) → (unpack_plane_at p work body).answer ≡ a
        → unpack_planes (p ∷ (xs ++ ys)) work body ≡ unpack_planes (p ∷ xs) work body
    go ih (refused q) ea = unpack_planes_refused p (xs ++ ys) work body q ea ∙ sym (unpack_planes_refused p xs work body q ea)
    go ih (counted k) ea = append_refused p xs ys work body k r ea (after_first p xs ys work body k).answer refl (ih k) e

-- planes read no more than their body has
pub planes_within : (xs : List PlaneAt) (work body : List ℕ) (n : ℕ) → (unpack_planes xs work body).answer ≡ counted n → n ≤ length body
unfolding unpack_planes add_read
planes_within [] work body n e = let z : 0 ≡ n = cc in omega arith
planes_within (p ∷ xs) work body n e = go (λ k. planes_within xs (work_after p work body) (drop k body)) (unpack_plane_at p work body).answer refl
  where
    on : (k : ℕ) → (unpack_plane_at p work body).answer ≡ counted k → ((m : ℕ) → (after_first p xs [] work body k).answer ≡ counted m → m ≤ length (drop k body)) → (b : Answer)
        → (after_first p xs [] work body k).answer ≡ b → add_count k b ≡ counted n → n ≤ length body
    on k ea ih (refused r) eb es = refused_not_counted es
    on k ea ih (counted m) eb es =
        let en : k + m ≡ n = cc in
        omega (arith, ih m eb, read_within p work body k ea, length-drop k body)

    go : ((k m : ℕ) → (after_first p xs [] work body k).answer ≡ counted m → m ≤ length (drop k body)) → (a : Answer) → (unpack_plane_at p work body).answer ≡ a → n ≤ length body
    go ih (refused r) ea = refused_not_counted (sym (sym e ∙ ap (λ (u : PlanesOutcome). u.answer) (unpack_planes_refused p xs work body r ea)))
    go ih (counted k) ea = on k ea (ih k) (after_first p xs [] work body k).answer refl (sym (ap (λ (u : PlanesOutcome). u.answer) (unpack_planes_read p xs work body k ea)) ∙ e)
