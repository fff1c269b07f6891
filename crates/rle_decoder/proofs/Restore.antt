-- A row restored from its codes and the row above: the iterations of the loop of `resolve_scanline_delta`, and the two cases of
-- `restore_row`. Assumes nothing.
use Rattle.std.proofs.Common.{◌≡◌, ℕ, zero, suc, ◌+◌, ◌-◌, ◌<◌, ◌≤◌, List, length, get_or, take, drop, set, sym, refl, ap, ◌∙◌, add-one, arith, length-take, get_or-take, take-suc}
use Rattle.rle_format.specs.Slice.{overwrite, write_at}
use Rattle.rle_format.specs.Delta.{undo_delta, zip_with, restore_row_of}
use Rattle.rle_format.proofs.Slice.{suffix, replace_suffix, suffix_drop, suffix_write_at, take-drop_swap, write_at_0, write_at_snoc, get_or-write_at_before}
use Rattle.rle_format.proofs.Delta.{length_zip_with, get_or_zip_with}
use Rattle.rle_decoder.specs.Rows.{row_above}

-- the samples of the row below the first row of d
unfoldable pub below : (d codes : List ℕ) → List ℕ
below d codes = zip_with undo_delta (take (length codes) d) codes

pub length_below : (d codes : List ℕ) → length codes ≤ length d → length (below d codes) ≡ length codes
unfolding below
length_below d codes h =
    let a : length (take (length codes) d) ≡ length codes = simp length-take (omega arith) in
    length_zip_with undo_delta (take (length codes) d) codes a

-- one iteration. now is the slice at the loop's head
pub below_more : (d now codes : List ℕ) (i v : ℕ) → length codes + length codes ≤ length d → i < length codes → now ≡ write_at d (length codes) (take i (below d codes))
    → v ≡ undo_delta (get_or now i 0) (get_or codes i 0) → set now (length codes + i) v ≡ write_at d (length codes) (take (i + 1) (below d codes))
unfolding below
below_more d now codes i v h l e ev =
    let w : ℕ = length codes in
    let S : List ℕ = below d codes in
    let long = length_below d codes (omega arith) in
    let a : i < length (take w d) = simp length-take (omega arith) in
    let n : length (take i S) ≡ i = simp length-take (omega arith) in
    let upper : get_or now i 0 ≡ get_or d i 0 = rw e (get_or-write_at_before d w i (take i S) l (omega arith)) in
    let is : v ≡ get_or S i 0 =
    ev ∙ (λ j. undo_delta (upper j) (get_or codes i 0))
    ∙ sym (get_or_zip_with undo_delta (take w d) codes i a l ∙ (λ j. undo_delta (get_or-take w d i 0 l j) (get_or codes i 0))) in
    let room : w + length (take i S) < length d = omega arith in
    (λ j. set (e j) (w + sym n j) (is j))
    ∙ write_at_snoc d w (take i S) (get_or S i 0) room
    ∙ ap (write_at d w) (sym (rw (add-one, take-suc S i 0 (omega arith))))

-- the first row
pub restore_first : (d now codes : List ℕ) (start : ℕ) → start ≡ 0 → now ≡ overwrite d codes → now ≡ write_at d start (restore_row_of (row_above d start (length codes)) codes)
restore_first d now codes start e wrote = rw e (wrote ∙ sym (write_at_0 d codes))

-- a row below another: ys is the slice from the row above on
pub restore_below : (d ys codes : List ℕ) (start : ℕ) → (start ≡ 0 → ⊥) → length codes ≤ start
    → ys ≡ write_at (suffix d (start - length codes)) (length codes) (zip_with undo_delta (take (length codes) (suffix d (start - length codes))) codes)
    → replace_suffix d (start - length codes) ys ≡ write_at d start (restore_row_of (row_above d start (length codes)) codes)
restore_below d ys codes start not_first h wrote =
    let w : ℕ = length codes in
    let a : ℕ = start - w in
    let sum : a + w ≡ start = omega arith in
    let up : take w (suffix d a) ≡ drop a (take start d) = ap (take w) (suffix_drop d a) ∙ take-drop_swap d a w ∙ ap (λ (n : ℕ). drop a (take n d)) sum in
    suffix_write_at d ys (zip_with undo_delta (take w (suffix d a)) codes) a w wrote
    ∙ (λ i. write_at d (sum i) (zip_with undo_delta (up i) codes))
    ∙ go start not_first
  where
    go : (n : ℕ) → (n ≡ 0 → ⊥) → write_at d n (zip_with undo_delta (drop (n - length codes) (take n d)) codes) ≡ write_at d n (restore_row_of (row_above d n (length codes)) codes)
    go zero z = absurd (z refl)
    go (suc k) z = refl
