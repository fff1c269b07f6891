-- A plane in its part of the work area, and the planes of a picture one after the other.
use Prim.Native.Nat.{ℕ, ◌+◌, ◌-◌, ◌*◌, ◌≤◌, ◌<◌, min}
use mathlib.Core.Bool.{Bool, true, false}
use mathlib.Core.Path.{◌≡◌, refl, sym, ap, ◌∙◌}
use mathlib.Core.Logic.{⊎_elim}
use mathlib.Core.List.{List, [], ◌∷◌}
use mathlib.Core.Option.{none}
use native.Mathlib.Nat.{mul-le-mul, add-zero, add_assoc}
use native.Mathlib.Omega.{arith}
use lib.ListN.{length, length-take, length-drop}
use Rattle.std.specs.Prelude.{Result, Ok, Err}
use Rattle.std.specs.Result.{IsErrAnd}
use Rattle.rle_format.specs.declared.Refusal.{Refusal}
use Rattle.rle_format.specs.Answer.{Answer, counted, refused, Outcome, stop, refuse, add_count, number, to_answer}
use Rattle.rle_format.specs.Slice.{overwrite, write_at}
use Rattle.rle_format.specs.Unpack.{unpack_rows, unpack_plane}
use Rattle.rle_format.proofs.Answer.{refused_not_counted}
use Rattle.rle_format.proofs.Cases.{le_or_gt, eq_or_ne}
use Rattle.rle_format.proofs.Plane.{plane_zero_width, plane_zero_height, plane_too_wide, plane_too_high, plane_short_destination, plane_rows, area_max}
use Rattle.rle_format.proofs.Slice.{suffix, replace_suffix, suffix_drop, suffix_overwrite, write_at_nil}
use Rattle.bitmap_format.specs.declared.BitmapStreamHeader.{BitmapStreamHeader}
use Rattle.bitmap_format.specs.Planes.{PlaneAt, plane_at, subsampled, chroma_side_of, first_plane, second_plane, third_plane, colour_planes, alpha_planes_at, planes_with_alpha_at}
use Rattle.bitmap_format.specs.UnpackPlanes.{PlanesOutcome, unpack_plane_at, add_read, unpack_planes}
use Rattle.bitmap_format.proofs.Answer.{passed_up}
use Rattle.bitmap_format.proofs.Sizes.{chroma_side-max}
use Rattle.bitmap_format.proofs.UnpackPlanes.{work_after, unpack_planes_read, unpack_planes_refused, read_within, planes_append, planes_append_refused}

pub length_suffix : (l : List ℕ) (from : ℕ) → length (suffix l from) ≡ length l - from
length_suffix l from = ap length (suffix_drop l from) ∙ length-drop from l

-- ---- a plane that was read, and one without room

-- by the checks of a plane, o being its outcome
module _ (w h room : ℕ) (body : List ℕ) where
  by_checks : (P : Outcome → Type 0) → P (refuse 1) → P (refuse 2) → P (refuse 10)
      → (w ≤ 8192 → h ≤ 8192 → (w ≡ 0 → ⊥) → (h ≡ 0 → ⊥) → w * h ≤ room → P (unpack_rows w h none body)) → P (unpack_plane w h room body)
  by_checks P one two ten rows =
      ⊎_elim (λ (z : w ≡ 0). is (refuse 1) (plane_zero_width w h room body z) one)
      (λ (hw : w ≡ 0 → ⊥).
      ⊎_elim (λ (z : h ≡ 0). is (refuse 1) (plane_zero_height w h room body hw z) one)
      (λ (hh : h ≡ 0 → ⊥).
      ⊎_elim
      (λ (lw : w ≤ 8192).
      ⊎_elim
      (λ (lh : h ≤ 8192).
      ⊎_elim (λ (l : w * h ≤ room). is (unpack_rows w h none body) (plane_rows w h room body hw hh lw lh l) (rows lw lh hw hh l))
      (λ (l : room < w * h). is (refuse 10) (plane_short_destination w h room body hw hh lw lh l) ten)
      (le_or_gt (w * h) room))
      (λ (l : 8192 < h). is (refuse 2) (plane_too_high w h room body hw hh lw l) two)
      (le_or_gt h 8192))
      (λ (l : 8192 < w). is (refuse 2) (plane_too_wide w h room body hw hh l) two)
      (le_or_gt w 8192))
      (eq_or_ne h 0))
      (eq_or_ne w 0)
    where
      is : (o : Outcome) → unpack_plane w h room body ≡ o → P o → P (unpack_plane w h room body)
      is o e x = rw e x

-- the sides of a plane that was read are allowed
pub read_sides : (w h room : ℕ) (body : List ℕ) (n : ℕ) → (unpack_plane w h room body).answer ≡ counted n → (w ≤ 8192) × (h ≤ 8192)
unfolding stop
read_sides w h room body n =
    by_checks w h room body (λ (o : Outcome). o.answer ≡ counted n → (w ≤ 8192) × (h ≤ 8192)) (λ e. refused_not_counted e) (λ e. refused_not_counted e)
    (λ e. refused_not_counted e)
    (λ lw lh hw hh l e. (lw, lh))

-- without room nothing is written
pub nothing_without_room : (w h : ℕ) (body : List ℕ) → (unpack_plane w h 0 body).written ≡ []
unfolding stop
nothing_without_room w h body =
    by_checks w h 0 body (λ (o : Outcome). o.written ≡ []) refl refl refl
    (λ lw lh hw hh l. absurd (some w h hw hh l))
  where
    some : (a b : ℕ) → (a ≡ 0 → ⊥) → (b ≡ 0 → ⊥) → a * b ≤ 0 → ⊥
    some a b ha hb l =
        let m : 1 * 1 ≤ a * b = mul-le-mul (one a ha) (one b hb) in
        omega arith
      where
        one : (n : ℕ) → (n ≡ 0 → ⊥) → 1 ≤ n
        one n h = omega arith

-- ---- decompress_plane: it starts at `start`, the lesser of the offset and the end of the work area; ys is what the plane unpacker left there

-- what a function that unpacks a plane shows: its answer r, and the work area
abbrev pub PlaneRead : (p : PlaneAt) (body work after : List ℕ) (r : Result ℕ Refusal) → Type 0
PlaneRead p body work after r = (to_answer r ≡ (unpack_plane_at p work body).answer) × (after ≡ work_after p work body)

module _ (body work ys : List ℕ) (offset start width height : ℕ) (starts : start ≡ min offset (length work)) (r : Result ℕ Refusal)
    (said : to_answer r ≡ (unpack_plane width height (length (suffix work start)) body).answer)
    (wrote : ys ≡ overwrite (suffix work start) (unpack_plane width height (length (suffix work start)) body).written) where
  abbrev outcome : Outcome
  outcome = unpack_plane_at (plane_at width height offset) work body

  same : unpack_plane width height (length (suffix work start)) body ≡ outcome
  same =
      let n : length (suffix work start) ≡ length work - offset = simp (length-take, length-drop) (omega arith) in
      λ i. unpack_plane width height (n i) body

  -- from the offset on or, if that is behind the end, nothing
  written_from : write_at work start outcome.written ≡ write_at work offset outcome.written
  written_from =
      ⊎_elim
      (λ (l : offset ≤ length work).
      let e : start ≡ offset = omega arith in
      ap (λ (k : ℕ). write_at work k outcome.written) e)
      (λ (l : length work < offset).
      let z : length work - offset ≡ 0 = omega arith in
      let nothing : outcome.written ≡ [] = ap (λ (k : ℕ). (unpack_plane width height k body).written) z ∙ nothing_without_room width height body in
      ap (write_at work start) nothing ∙ write_at_nil work start ∙ sym (ap (write_at work offset) nothing ∙ write_at_nil work offset))
      (le_or_gt offset (length work))

  pub plane_is_read : PlaneRead (plane_at width height offset) body work (replace_suffix work start ys) r
  plane_is_read = (said ∙ ap (λ (o : Outcome). o.answer) same, suffix_overwrite work ys _ start wrote ∙ ap (λ (o : Outcome). write_at work start o.written) same ∙ written_from)

-- ---- a chain

-- what is shown of planes that are unpacked: their answer a, and the work area
abbrev Shown : (u : PlanesOutcome) (after : List ℕ) (a : Answer) → Type 0
Shown u after a = (a ≡ u.answer) × (after ≡ u.work)

-- what a function that unpacks planes shows: its answer r, and the work area
abbrev pub PlanesRead : (u : PlanesOutcome) (after : List ℕ) (r : Result ℕ Refusal) → Type 0
PlanesRead u after r = Shown u after (to_answer r)

-- a refusal that `?` passes up
pub refusal_up : (u : PlanesOutcome) (after : List ℕ) (k : Refusal) → Shown u after (refused (number k)) → (up : Result ℕ Refusal) → IsErrAnd up (λ (q : Refusal). q ≡ k) → PlanesRead u after up
refusal_up u after k s up is = (passed_up up k is ∙ s.0, s.1)

module _ (p : PlaneAt) (body work after : List ℕ) (r : Result ℕ Refusal) (e : PlaneRead p body work after r) where
  pub plane_within : (n : ℕ) → r ≡ Ok n → n ≤ length body
  plane_within n er = read_within p work body n (sym e.0 ∙ ap to_answer er)

  module _ (planes : List PlaneAt) where
    pub chain_refused : (k : Refusal) → r ≡ Err k → Shown (unpack_planes (p ∷ planes) work body) after (refused (number k))
    chain_refused k er =
        let u = unpack_planes_refused p planes work body (number k) (sym e.0 ∙ ap to_answer er) in
        (sym (ap (λ (u : PlanesOutcome). u.answer) u), e.1 ∙ sym (ap (λ (u : PlanesOutcome). u.work) u))

    -- the planes after it go on behind the n bytes that it took
    pub chain_read : (n : ℕ) → r ≡ Ok n → (last : List ℕ) (a : Answer) → Shown (unpack_planes planes after (suffix body n)) last a → Shown (unpack_planes (p ∷ planes) work body) last (add_count n a)
    unfolding add_read
    chain_read n er last a s =
        let u : unpack_planes (p ∷ planes) work body ≡ add_read n (unpack_planes planes after (suffix body n)) =
        unpack_planes_read p planes work body n (sym e.0 ∙ ap to_answer er) ∙ (λ i. add_read n (unpack_planes planes (sym e.1 i) (sym (suffix_drop body n) i))) in
        (ap (add_count n) s.0 ∙ sym (ap (λ (u : PlanesOutcome). u.answer) u), s.1 ∙ sym (ap (λ (u : PlanesOutcome). u.work) u))

  -- the last plane
  pub chain_last : (n : ℕ) → r ≡ Ok n → Shown (unpack_planes (p ∷ []) work body) after (counted n)
  unfolding unpack_planes
  chain_last n er = let s = chain_read [] n er after (counted 0) (refl, refl) in (sym (ap counted (add-zero n)) ∙ s.0, s.1)

-- ---- the colour planes, by the sides of a chroma plane

module _ (s : Bool) (w h cw ch : ℕ) (body work : List ℕ) (is_w : cw ≡ chroma_side_of s w) (is_h : ch ≡ chroma_side_of s h) where
  pub colour_planes_are : colour_planes s w h ≡ plane_at w h 0 ∷ plane_at cw ch (w * h) ∷ plane_at cw ch (w * h + cw * ch) ∷ []
  unfolding colour_planes first_plane second_plane third_plane
  colour_planes_are = λ i. plane_at w h 0 ∷ plane_at (sym is_w i) (sym is_h i) (w * h) ∷ plane_at (sym is_w i) (sym is_h i) (w * h + sym is_w i * sym is_h i) ∷ []

  as_colours : (after : List ℕ) (a : Answer) → Shown (unpack_planes (plane_at w h 0 ∷ plane_at cw ch (w * h) ∷ plane_at cw ch (w * h + cw * ch) ∷ []) work body) after a
      → Shown (unpack_planes (colour_planes s w h) work body) after a
  as_colours after a u = rw colour_planes_are u

  -- d₁, d₂ and d₃ are the work area after each plane
  module _ (d₁ : List ℕ) (r₁ : Result ℕ Refusal) (e₁ : PlaneRead (plane_at w h 0) body work d₁ r₁) where
    pub first_refused : (k : Refusal) → r₁ ≡ Err k → Shown (unpack_planes (colour_planes s w h) work body) d₁ (refused (number k))
    first_refused k is = as_colours _ _ (chain_refused _ _ _ _ _ e₁ _ k is)

    module _ (n : ℕ) (read₁ : r₁ ≡ Ok n) (d₂ : List ℕ) (r₂ : Result ℕ Refusal) (e₂ : PlaneRead (plane_at cw ch (w * h)) (suffix body n) d₁ d₂ r₂) where
      pub second_refused : (k : Refusal) → r₂ ≡ Err k → Shown (unpack_planes (colour_planes s w h) work body) d₂ (refused (number k))
      second_refused k is = as_colours _ _ (chain_read _ _ _ _ _ e₁ _ n read₁ _ _ (chain_refused _ _ _ _ _ e₂ _ k is))

      module _ (m : ℕ) (read₂ : r₂ ≡ Ok m) (d₃ : List ℕ) (r₃ : Result ℕ Refusal) (e₃ : PlaneRead (plane_at cw ch (w * h + cw * ch)) (suffix (suffix body n) m) d₂ d₃ r₃) where
        pub third_refused : (k : Refusal) → r₃ ≡ Err k → Shown (unpack_planes (colour_planes s w h) work body) d₃ (refused (number k))
        third_refused k is = as_colours _ _ (chain_read _ _ _ _ _ e₁ _ n read₁ _ _ (chain_read _ _ _ _ _ e₂ _ m read₂ _ _ (chain_refused _ _ _ _ _ e₃ _ k is)))

        pub third_read : (k : ℕ) → r₃ ≡ Ok k → Shown (unpack_planes (colour_planes s w h) work body) d₃ (counted (n + m + k))
        third_read k is =
            let u = as_colours _ _ (chain_read _ _ _ _ _ e₁ _ n read₁ _ _ (chain_read _ _ _ _ _ e₂ _ m read₂ _ _ (chain_last _ _ _ _ _ e₃ k is))) in
            (ap counted (add_assoc n m k) ∙ u.0, u.1)

  -- the sides of a plane that was read have bounds, and so have their products
  pub areas : (d₁ : List ℕ) (r₁ : Result ℕ Refusal) (n : ℕ) → PlaneRead (plane_at w h 0) body work d₁ r₁ → r₁ ≡ Ok n → (w * h ≤ 67108864) × (cw * ch ≤ 67108864)
  areas d₁ r₁ n e₁ is =
      let l = read_sides w h (length work - 0) body n (sym e₁.0 ∙ ap to_answer is) in
      (area_max w h l.0 l.1, area_max cw ch (omega (arith, is_w, chroma_side-max s w, l.0)) (omega (arith, is_h, chroma_side-max s h, l.1)))

-- ---- alpha

-- one plane
pub alpha_plane : (width height offset : ℕ) (body work after : List ℕ) (alpha : Bool) (r : Result ℕ Refusal) → alpha ≡ true → PlaneRead (plane_at width height offset) body work after r
    → PlanesRead (unpack_planes (alpha_planes_at offset alpha width height) work body) after r
unfolding alpha_planes_at
alpha_plane width height offset body work after alpha r t e = rw t (go r e)
  where
    go : (r : Result ℕ Refusal) → PlaneRead (plane_at width height offset) body work after r → PlanesRead (unpack_planes (plane_at width height offset ∷ []) work body) after r
    go (Ok n) e = chain_last _ _ _ _ (Ok n) e n refl
    go (Err k) e = chain_refused _ _ _ _ (Err k) e [] k refl

pub no_alpha_plane : (width height offset : ℕ) (body work : List ℕ) (alpha : Bool) → alpha ≡ false → PlanesRead (unpack_planes (alpha_planes_at offset alpha width height) work body) work (Ok 0)
unfolding alpha_planes_at unpack_planes
no_alpha_plane width height offset body work alpha t = rw t (refl, refl)

-- ---- decompress_planes

module _ (header : BitmapStreamHeader) (width height offset : ℕ) (body work₀ work : List ℕ) (r : Result ℕ Refusal)
    (e : PlanesRead (unpack_planes (alpha_planes_at offset header.use_alpha width height) work₀ body) work r) where
  pub alpha_refused : (k : Refusal) → r ≡ Err k → Shown (unpack_planes (planes_with_alpha_at offset header width height) work₀ body) work (refused (number k))
  unfolding planes_with_alpha_at
  alpha_refused k er =
      rw (planes_append_refused (alpha_planes_at offset header.use_alpha width height) (colour_planes (subsampled header.color_plane_definition) width height) work₀ body (number k) (sym e.0 ∙ ap to_answer er))
      (sym (ap to_answer er) ∙ e.0, e.1)

  -- the colour planes go on where alpha stopped
  pub colours_after_alpha : (n : ℕ) → r ≡ Ok n → (s : Bool) → s ≡ subsampled header.color_plane_definition → (after : List ℕ) (a : Answer)
      → Shown (unpack_planes (colour_planes s width height) work (suffix body n)) after a → Shown (unpack_planes (planes_with_alpha_at offset header width height) work₀ body) after (add_count n a)
  unfolding planes_with_alpha_at add_read
  colours_after_alpha n er s es after a u =
      let all : unpack_planes (planes_with_alpha_at offset header width height) work₀ body ≡ add_read n (unpack_planes (colour_planes s width height) work (suffix body n)) =
      planes_append (alpha_planes_at offset header.use_alpha width height) (colour_planes (subsampled header.color_plane_definition) width height) work₀ body n (sym e.0 ∙ ap to_answer er)
      ∙ (λ i. add_read n (unpack_planes (colour_planes (sym es i) width height) (sym e.1 i) (sym (suffix_drop body n) i))) in
      (ap (add_count n) u.0 ∙ sym (ap (λ (u : PlanesOutcome). u.answer) all), u.1 ∙ sym (ap (λ (u : PlanesOutcome). u.work) all))
