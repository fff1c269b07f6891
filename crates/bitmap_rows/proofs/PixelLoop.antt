-- The loops that write a row: their invariants, and a law for each step. A pixel has `size` bytes; a sample that is doubled is a pixel of one.
use Prim.Native.Nat.{ℕ, zero, suc, ◌+◌, ◌-◌, ◌*◌, ◌/◌, ◌%◌, ◌≤◌}
use mathlib.Core.Bool.{Bool, true, false}
use mathlib.Core.Path.{◌≡◌, refl, sym, ap, ◌∙◌}
use mathlib.Core.List.{List, [], ◌∷◌, ◌++◌, append_assoc}
use native.Mathlib.Nat.{mul_comm}
use native.Mathlib.Omega.{arith}
use native.Mathlib.Numerals.{add-one}
use lib.ListN.{length, get_or, set}
use Rattle.rle_format.specs.Slice.{overwrite, write_at}
use Rattle.rle_format.proofs.Slice.{overwrite_nil, overwrite_append, write_at_nil, write_at_snoc}
use Rattle.bitmap_format.specs.declared.Rgb.{Rgb}
use Rattle.bitmap_format.specs.declared.ColorPlaneDefinition.TheVariants.{AYCoCg}
use Rattle.bitmap_format.specs.Colour.{rgb24, aycocg_colour}
use Rattle.bitmap_format.specs.Planes.{chroma_side_of}
use Rattle.bitmap_format.specs.Image.{chroma_index, concat_up_to}
use Rattle.bitmap_format.specs.Pixels.{three_bytes}
use Rattle.bitmap_format.specs.Counting.{IsChromaColumn}
use Rattle.bitmap_format.proofs.Counting.{step_full, step_even, step_odd, column_is, column_first, column_next}
use Rattle.bitmap_format.proofs.Image.{length-concat_up_to}
use Rattle.bitmap_rows.specs.Rows.{pixel_at}

add_0 : (n : ℕ) → n + 0 ≡ n
add_0 n = omega arith

-- two stores, one after the other
pub write_two : (d : List ℕ) (at a b : ℕ) → at + 2 ≤ length d → set (set d at a) (at + 1) b ≡ write_at d at (a ∷ b ∷ [])
write_two d at a b fits =
    (λ i. set (set (sym (write_at_nil d at) i) (sym (add_0 at) i) a) (at + 1) b)
    ∙ (λ i. set (write_at_snoc d at [] a (omega arith) i) (at + 1) b)
    ∙ write_at_snoc d at (a ∷ []) b (omega arith)

-- three stores
pub write_three : (d : List ℕ) (at a b c : ℕ) → at + 3 ≤ length d → set (set (set d at a) (at + 1) b) (at + 2) c ≡ write_at d at (a ∷ b ∷ c ∷ [])
write_three d at a b c fits =
    (λ i. set (write_two d at a b (omega arith) i) (at + 2) c) ∙ write_at_snoc d at (a ∷ b ∷ []) c (omega arith)

-- four stores
pub write_four : (d : List ℕ) (at a b c e : ℕ) → at + 4 ≤ length d → set (set (set (set d at a) (at + 1) b) (at + 2) c) (at + 3) e ≡ write_at d at (a ∷ b ∷ c ∷ e ∷ [])
write_four d at a b c e fits =
    (λ i. set (write_three d at a b c (omega arith) i) (at + 3) e) ∙ write_at_snoc d at (a ∷ b ∷ c ∷ []) e (omega arith)

-- ---- a row: d₀ is the slice before, d the slice now; f gives the bytes of the pixel at a column

pub record PixelInvariant (d₀ d : List ℕ) (column : ℕ) (f : ℕ → List ℕ) : Type 0 where
  pub len : length d ≡ length d₀
  pub row : d ≡ overwrite d₀ (concat_up_to column f)

pub pixels_start : (d : List ℕ) (f : ℕ → List ℕ) → PixelInvariant d d 0 f
unfolding concat_up_to
pixels_start d f = record { len = refl; row = sym (overwrite_nil d) }

-- the end of the loop
pub pixels_end : (d₀ d : List ℕ) (column width : ℕ) (f : ℕ → List ℕ) → PixelInvariant d₀ d column f → column ≡ width → d ≡ overwrite d₀ (concat_up_to width f)
pixels_end d₀ d column width f h e = h.row ∙ ap (λ (k : ℕ). overwrite d₀ (concat_up_to k f)) e

module _ (size : ℕ) (d₀ : List ℕ) (f : ℕ → List ℕ) (sized : (i : ℕ) → length (f i) ≡ size) where
  -- one more pixel
  pub pixels_step : (d d₁ : List ℕ) (column at : ℕ) (vs : List ℕ) → PixelInvariant d₀ d column f → vs ≡ f column → at ≡ size * column → length d₁ ≡ length d → d₁ ≡ write_at d at vs
      → PixelInvariant d₀ d₁ (column + 1) f
  unfolding concat_up_to
  pixels_step d d₁ column at vs h ev ea same e =
      let n : length (concat_up_to column f) ≡ size * column = length-concat_up_to column size f sized ∙ mul_comm column size in
      record {
        len = same ∙ h.len;
        row = e
            ∙ (λ i. write_at (h.row i) (ea i) (ev i))
            ∙ overwrite_append d₀ (concat_up_to column f) (f column) (size * column) n
            ∙ ap (λ (k : ℕ). overwrite d₀ (concat_up_to k f)) (sym (add-one column));
      }

  -- the last pixel of an odd width
  module _ (d : List ℕ) (width : ℕ) (pairs : d ≡ overwrite d₀ (concat_up_to (2 * (width / 2)) f)) where
    pub pixels_even_width : (width % 2 ≡ 1 → ⊥) → d ≡ overwrite d₀ (concat_up_to width f)
    pixels_even_width h = pairs ∙ ap (λ (k : ℕ). overwrite d₀ (concat_up_to k f)) (even width h)
      where
        even : (n : ℕ) → (n % 2 ≡ 1 → ⊥) → 2 * (n / 2) ≡ n
        even n h = omega arith

    pub pixels_odd_width : (d₁ : List ℕ) (at : ℕ) (vs : List ℕ) → width % 2 ≡ 1 → length d ≡ length d₀ → vs ≡ f (width - 1) → at ≡ size * (width - 1) → length d₁ ≡ length d → d₁ ≡ write_at d at vs
        → d₁ ≡ overwrite d₀ (concat_up_to width f)
    pixels_odd_width d₁ at vs h same ev ea same₁ e =
        let n : 2 * (width / 2) ≡ width - 1 = omega arith in
        let m : width - 1 + 1 ≡ width = omega arith in
        let head : PixelInvariant d₀ d (width - 1) f = record { len = same; row = pairs ∙ ap (λ (k : ℕ). overwrite d₀ (concat_up_to k f)) n } in
        pixels_end d₀ d₁ (width - 1 + 1) width f (pixels_step d d₁ (width - 1) at vs head ev ea same₁ e) m

-- ---- two pixels at a time

concat_pairs : (f : ℕ → List ℕ) (n : ℕ) → concat_up_to n (λ (pair : ℕ). f (2 * pair) ++ f (2 * pair + 1)) ≡ concat_up_to (2 * n) f
unfolding concat_up_to
concat_pairs f zero = refl
concat_pairs f (suc n) =
    let double : 2 * suc n ≡ suc (suc (2 * n)) = omega arith in
    ap (λ (l : List ℕ). l ++ (f (2 * n) ++ f (2 * n + 1))) (concat_pairs f n)
    ∙ sym (append_assoc (concat_up_to (2 * n) f) (f (2 * n)) (f (2 * n + 1)))
    ∙ ap (λ (k : ℕ). concat_up_to (2 * n) f ++ f (2 * n) ++ f k) (add-one (2 * n))
    ∙ ap (λ (k : ℕ). concat_up_to k f) (sym double)

pub pairs_written : (d₀ d : List ℕ) (n : ℕ) (f : ℕ → List ℕ) → d ≡ overwrite d₀ (concat_up_to n (λ (pair : ℕ). f (2 * pair) ++ f (2 * pair + 1))) → d ≡ overwrite d₀ (concat_up_to (2 * n) f)
pairs_written d₀ d n f e = e ∙ ap (overwrite d₀) (concat_pairs f n)

-- ---- the columns of chroma samples, by counting (FORMAT 6.3)

-- not subsampled: the next column
pub full_next : (column : ℕ) → IsChromaColumn false column column → IsChromaColumn false (column + 1) (column + 1)
full_next column h width row below = column_next false column column h width row below ∙ ap (λ (k : ℕ). column + k) (step_full 1 column)

pub column_counted : (column : ℕ) → IsChromaColumn false column column
column_counted zero = column_first false
column_counted (suc column) = rw (← add-one column) (full_next column (column_counted column))

-- subsampled: `pair` is counted at an even column; the odd one behind it has the same counter
pub pair_right : (pair : ℕ) → IsChromaColumn true (2 * pair) pair → IsChromaColumn true (2 * pair + 1) pair
pair_right pair h width row below =
    let none = step_even 1 (2 * pair) (omega arith) in
    column_next true (2 * pair) pair h width row below ∙ omega (arith, none)

-- and the column behind both the next
pub pair_next : (pair : ℕ) → IsChromaColumn true (2 * pair) pair → IsChromaColumn true (2 * (pair + 1)) (pair + 1)
pair_next pair h = rw (← behind) next
  where
    behind : 2 * pair + 1 + 1 ≡ 2 * (pair + 1)
    behind = omega arith

    odd : (2 * pair + 1) % 2 ≡ 0 → ⊥
    odd e = omega arith

    next : IsChromaColumn true (2 * pair + 1 + 1) (pair + 1)
    next width row below =
        column_next true (2 * pair + 1) pair (pair_right pair h) width row below ∙ ap (λ (k : ℕ). pair + k) (step_odd true 1 (2 * pair + 1) odd)

pub pairs_counted : (pairs : ℕ) → IsChromaColumn true (2 * pairs) pairs
pairs_counted zero = column_first true
pairs_counted (suc pairs) = rw (← add-one pairs) (pair_next pairs (pairs_counted pairs))

-- the last column of an odd width
pub last_counted : (width : ℕ) → width % 2 ≡ 1 → IsChromaColumn true (width - 1) (width / 2)
last_counted width e =
    let last : 2 * (width / 2) ≡ width - 1 = omega arith in
    rw (← last) (pairs_counted (width / 2))

-- a three-byte pixel with the chroma samples that are counted for its column
pub aycocg_pixel : (flagged : Bool) (level : ℕ) (s : Bool) (y co cg : List ℕ) (column counter : ℕ) (c : Rgb) → IsChromaColumn s column counter
    → c ≡ aycocg_colour flagged level (get_or y column 0) (get_or co counter 0) (get_or cg counter 0) → rgb24 c ≡ pixel_at three_bytes (AYCoCg level s) flagged y co cg [] column
aycocg_pixel flagged level s y co cg column counter c h ec =
    let e = column_is s column counter h in
    ap rgb24 (ec ∙ (λ i. aycocg_colour flagged level (get_or y column 0) (get_or co (e i) 0) (get_or cg (e i) 0)))

-- the chroma sample that is counted for a column
pub sample_at_lem : (samples : List ℕ) (column counter : ℕ) → IsChromaColumn true column counter → get_or samples counter 0 ∷ [] ≡ get_or samples (chroma_index true column) 0 ∷ []
sample_at_lem samples column counter h = ap (λ (n : ℕ). get_or samples n 0 ∷ []) (column_is true column counter h)

-- both samples of a pair
pub doubled_pair : (samples : List ℕ) (pair : ℕ)
    → get_or samples pair 0 ∷ get_or samples pair 0 ∷ [] ≡ get_or samples (chroma_index true (2 * pair)) 0 ∷ get_or samples (chroma_index true (2 * pair + 1)) 0 ∷ []
doubled_pair samples pair =
    let left = sample_at_lem samples (2 * pair) pair (pairs_counted pair) in
    let right = sample_at_lem samples (2 * pair + 1) pair (pair_right pair (pairs_counted pair)) in
    λ i. left i ++ right i

-- both pixels of a pair
pub pixel_pair : (flagged : Bool) (level : ℕ) (y co cg : List ℕ) (pair : ℕ)
    → rgb24 (aycocg_colour flagged level (get_or y (2 * pair) 0) (get_or co pair 0) (get_or cg pair 0)) ++ rgb24 (aycocg_colour flagged level (get_or y (2 * pair + 1) 0) (get_or co pair 0) (get_or cg pair 0))
    ≡ pixel_at three_bytes (AYCoCg level true) flagged y co cg [] (2 * pair) ++ pixel_at three_bytes (AYCoCg level true) flagged y co cg [] (2 * pair + 1)
pixel_pair flagged level y co cg pair =
    let left = aycocg_pixel flagged level true y co cg (2 * pair) pair _ (pairs_counted pair) refl in
    let right = aycocg_pixel flagged level true y co cg (2 * pair + 1) pair _ (pair_right pair (pairs_counted pair)) refl in
    λ i. left i ++ right i

-- the chroma samples that a row needs
pub chroma_subsampled : (s : Bool) (width n : ℕ) → s ≡ true → chroma_side_of s width ≤ n → (width + 1) / 2 ≤ n
unfolding chroma_side_of
chroma_subsampled s width n e l = rw e at l

pub chroma_half : (width n : ℕ) → chroma_side_of true width ≤ n → (width + 1) / 2 ≤ n
unfolding chroma_side_of
chroma_half width n l = l
