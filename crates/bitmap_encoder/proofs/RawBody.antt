-- The raw body, one write after another.
use mathlib.Core.Path.{◌≡◌, refl, sym, ap, ◌∙◌}
use mathlib.Core.Bool.{false}
use mathlib.Core.List.{List, [], ◌∷◌, ◌++◌, map}
use Prim.Native.Nat.{ℕ, ◌+◌, ◌*◌, ◌-◌, ◌≤◌, ◌<◌}
use native.Mathlib.Omega.{arith}
use lib.ListN.{length, take, drop, set, get_or, length-append, length-drop, drop_of_length-le}
use native.Mathlib.Nat.{zero-add}
use borrow.Author.Tests.{lt-ltb, le-ltb}
use Rattle.std.proofs.lemmas.List.{at_drop_more, length-map}
use lib.Seq.{length-take-le}
use Rattle.rle_format.specs.Slice.{overwrite, write_at}
use Rattle.rle_format.proofs.Slice.{write_at_snoc, write_at_0, write_at-write_at, part_overwrite}
use Rattle.rle_format.specs.Answer.{counted, refuse}
use Rattle.pixel_format.specs.declared.samples.Samples.{Samples}
use Rattle.pixel_format.specs.Samples.{samples_in}
use Rattle.bitmap_format.specs.PackPicture.{raw_samples, raw_body, any_short, write_all_or_nothing}
use Rattle.bitmap_format.proofs.PackPicture.{first_long_enough, length-raw_body}

-- a part of n bytes that was filled with samples
pub write_samples : (d ys s : List ℕ) (at n : ℕ) → at + n ≤ length d → n ≤ length s
    → ys ≡ overwrite (take (at + n - at) (drop at d)) (take (length (take (at + n - at) (drop at d))) (drop 0 s))
    → take at d ++ (ys ++ drop (at + n - at) (drop at d)) ≡ write_at d at (take n s)
write_samples d ys s at n h l e =
    let left = length-drop at d in
    let part : length (take (at + n - at) (drop at d)) ≡ n = length-take-le (at + n - at) (drop at d) (omega arith) ∙ omega arith in
    let long : length (take n s) ≡ at + n - at = length-take-le n s l ∙ omega arith in
    part_overwrite d ys (take n s) at (at + n) (omega arith) h long (e ∙ ap (λ (k : ℕ). overwrite (take (at + n - at) (drop at d)) (take k s)) part)

-- ---- the body, in all and in its bounds

module _ (n : ℕ) (planes : List (List ℕ)) (long : any_short n planes ≡ false) where
  pub body_length : length (raw_body n planes) ≡ length (raw_samples n planes) + 1
  unfolding raw_body
  body_length = length-append (raw_samples n planes) (0 ∷ [])

  pub body_too_long : (room : ℕ) → room < length planes * n + 1 → write_all_or_nothing (raw_body n planes) room ≡ refuse 12
  unfolding write_all_or_nothing
  body_too_long room l = rw (lt-ltb room (length (raw_body n planes)) (omega (arith, length-raw_body n planes long))) refl

  pub body_fits : (room : ℕ) → length planes * n + 1 ≤ room
      → write_all_or_nothing (raw_body n planes) room ≡ record { written = raw_body n planes; answer = counted (length planes * n + 1) }
  unfolding write_all_or_nothing
  body_fits room l =
      rw (le-ltb room (length (raw_body n planes)) (omega (arith, length-raw_body n planes long))) (λ i. record { written = raw_body n planes; answer = counted (length-raw_body n planes long i) })

pub all_samples : (n : ℕ) (planes : List Samples) → any_short n (map samples_in planes) ≡ false → length (raw_samples n (map samples_in planes)) ≡ length planes * n
all_samples n planes long =
    let many = length-map planes samples_in in
    let all = length-raw_body n (map samples_in planes) long in
    let one = body_length n (map samples_in planes) long in
    let same : length (map samples_in planes) * n ≡ length planes * n = ap (λ (k : ℕ). k * n) many in
    omega arith

-- the zero byte behind the samples
pub zero_byte : (n : ℕ) (planes : List (List ℕ)) (d now : List ℕ) (at : ℕ) → at < length d → at ≡ length (raw_samples n planes) → now ≡ write_at d 0 (raw_samples n planes)
    → set now at 0 ≡ overwrite d (raw_body n planes)
unfolding raw_body
zero_byte n planes d now at l ea e =
    (λ i. set (e i) ((ea ∙ sym (zero-add (length (raw_samples n planes)))) i) 0)
    ∙ write_at_snoc d 0 (raw_samples n planes) 0 (omega arith)
    ∙ write_at_0 d (raw_samples n planes ++ 0 ∷ [])

-- ---- the planes of a loop, from plane i on

module _ (n : ℕ) (planes : List Samples) (i : ℕ) (d : Samples) (within : i < length planes) (long : any_short n (map samples_in (drop i planes)) ≡ false) where
  whole : raw_samples n (map samples_in (drop i planes)) ≡ raw_samples n (samples_in (get_or planes i d) ∷ map samples_in (drop (i + 1) planes))
  whole = at_drop_more (λ (rest : List Samples). raw_samples n (map samples_in rest)) planes i d within

  pub plane_long : n ≤ length (samples_in (get_or planes i d))
  plane_long =
      first_long_enough n (samples_in (get_or planes i d)) (map samples_in (drop (i + 1) planes))
      (sym (at_drop_more (λ (rest : List Samples). any_short n (map samples_in rest)) planes i d within) ∙ long)

  samples_left_by : length (raw_samples n (map samples_in (drop i planes))) ≡ n + length (raw_samples n (map samples_in (drop (i + 1) planes)))
  unfolding raw_samples
  samples_left_by =
      ap length whole
      ∙ length-append (take n (samples_in (get_or planes i d))) (raw_samples n (map samples_in (drop (i + 1) planes)))
      ∙ ap (λ (k : ℕ). k + length (raw_samples n (map samples_in (drop (i + 1) planes)))) (length-take-le n (samples_in (get_or planes i d)) plane_long)

  pub plane_put : (dst now : List ℕ) (at : ℕ) → at + n ≤ length dst → now ≡ write_at dst at (take n (samples_in (get_or planes i d)))
      → write_at now (at + n) (raw_samples n (map samples_in (drop (i + 1) planes))) ≡ write_at dst at (raw_samples n (map samples_in (drop i planes)))
  unfolding raw_samples
  plane_put dst now at fits e =
      let k = length-take-le n (samples_in (get_or planes i d)) plane_long in
      (λ j. write_at (e j) (at + sym k j) (raw_samples n (map samples_in (drop (i + 1) planes))))
      ∙ write_at-write_at dst at (take n (samples_in (get_or planes i d))) (omega arith) (raw_samples n (map samples_in (drop (i + 1) planes)))
      ∙ ap (write_at dst at) (sym whole)

pub samples_left : (n : ℕ) (planes : List Samples) (i : ℕ) → i < length planes → any_short n (map samples_in (drop i planes)) ≡ false
    → length (raw_samples n (map samples_in (drop i planes))) ≡ n + length (raw_samples n (map samples_in (drop (i + 1) planes)))
samples_left n [] i l e = absurd (omega (arith, l))
samples_left n (p ∷ ps) i l e = samples_left_by n (p ∷ ps) i p l e

pub none_left : (n : ℕ) (planes : List Samples) (i : ℕ) → length planes ≤ i → raw_samples n (map samples_in (drop i planes)) ≡ []
unfolding raw_samples
none_left n planes i l = ap (λ (rest : List Samples). raw_samples n (map samples_in rest)) (drop_of_length-le planes {i = i} l)
