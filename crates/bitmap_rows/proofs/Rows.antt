-- A row that can be written is written, and rows with the same pixels.
use Prim.Native.Nat.{ℕ, zero, suc, ◌*◌, ◌<◌, ◌≤◌}
use mathlib.Core.Bool.{Bool, true, false, not, ◌&&◌}
use mathlib.Core.Path.{◌≡◌, refl, sym, ap, ◌∙◌}
use mathlib.Core.Logic.{⊎_elim}
use mathlib.Core.List.{List, [], ◌∷◌, ◌++◌}
use native.Mathlib.Omega.{arith}
use native.Mathlib.Nat.{mul-one}
use lib.Dec.{leb}
use lib.ListN.{length, drop, get_or, get_or-append}
use lib.Seq.{get_or_at}
use borrow.Author.Tests.{le-leb, lt-leb}
use Rattle.rle_format.specs.Choice.{choose}
use Rattle.rle_format.specs.Slice.{overwrite}
use Rattle.rle_format.proofs.Cases.{le_or_gt}
use Rattle.pixel_format.specs.Channel.{ChannelOffsets}
use Rattle.bitmap_format.specs.declared.ColorPlaneDefinition.{ColorPlaneDefinition}
use Rattle.bitmap_format.specs.declared.ColorPlaneDefinition.TheVariants.{Argb, AYCoCg}
use Rattle.bitmap_format.specs.Colour.{aycocg_colour}
use Rattle.bitmap_format.specs.Planes.{subsampled, chroma_side_of}
use Rattle.bitmap_format.specs.Image.{chroma_index, concat_up_to}
use Rattle.bitmap_format.specs.Picture.{is_loss_level_invalid_of}
use Rattle.bitmap_format.specs.Pixels.{PixelForm, four_bytes, bytes_per_pixel_of, pixel_bytes}
use Rattle.bitmap_format.proofs.Image.{length-concat_up_to}
use Rattle.bitmap_rows.specs.Rows.{pixel_at, row_pixels, samples_fit, shown_alpha, row_fits, write_row_of, full_chroma, doubled, write_doubled}

-- ---- a row that can be written, and one that cannot

and_false : (a : Bool) → (a && false) ≡ false
and_false true = refl
and_false false = refl

module _ (width chroma : ℕ) (first second third : List ℕ) where
  pub samples_fit_lem : width ≤ length first → chroma ≤ length second → chroma ≤ length third → samples_fit width chroma first second third ≡ true
  unfolding samples_fit
  samples_fit_lem h₁ h₂ h₃ = simp (le-leb width (length first) h₁, le-leb chroma (length second) h₂, le-leb chroma (length third) h₃)

-- chroma rows that have a sample for each column
pub full_chroma_side : (d : ColorPlaneDefinition) (width : ℕ) → chroma_side_of (subsampled (full_chroma d)) width ≡ width
unfolding chroma_side_of
full_chroma_side Argb width = refl
full_chroma_side (AYCoCg level s) width = refl

module _ (form : PixelForm) (d : ColorPlaneDefinition) (flagged : Bool) (first second third alpha : List ℕ) (width : ℕ) (dst : List ℕ) where
  pub row_no_room : length dst < bytes_per_pixel_of form * width → dst ≡ write_row_of form d flagged first second third alpha width dst
  unfolding row_fits write_row_of
  row_no_room h = simp (lt-leb (bytes_per_pixel_of form * width) (length dst) h, and_false)

  pub row_no_samples : samples_fit width (chroma_side_of (subsampled d) width) first second third ≡ false → dst ≡ write_row_of form d flagged first second third alpha width dst
  unfolding row_fits write_row_of
  row_no_samples e = simp (e, and_false)

  module _ (samples : samples_fit width (chroma_side_of (subsampled d) width) first second third ≡ true) (shown : shown_alpha form width ≤ length alpha) (room : bytes_per_pixel_of form * width ≤ length dst) where
    -- only the loss level is left
    fits_by_level : row_fits form d first second third alpha width dst ≡ not (is_loss_level_invalid_of d)
    unfolding row_fits
    fits_by_level = simp (samples, le-leb (shown_alpha form width) (length alpha) shown, le-leb (bytes_per_pixel_of form * width) (length dst) room) (and_true (not (is_loss_level_invalid_of d)))
      where
        and_true : (a : Bool) → (a && true) ≡ a
        and_true true = refl
        and_true false = refl

    pub row_by_level : choose (is_loss_level_invalid_of d) dst (overwrite dst (row_pixels form d flagged first second third alpha width)) ≡ write_row_of form d flagged first second third alpha width dst
    unfolding write_row_of
    row_by_level = rw fits_by_level (go (is_loss_level_invalid_of d) (overwrite dst (row_pixels form d flagged first second third alpha width)))
      where
        go : (t : Bool) (l : List ℕ) → choose t dst l ≡ choose (not t) l dst
        go true l = refl
        go false l = refl

  -- for a caller that knows the lengths and the loss level
  module _ (valid : is_loss_level_invalid_of d ≡ false) (h₁ : width ≤ length first) (h₂ : chroma_side_of (subsampled d) width ≤ length second) (h₃ : chroma_side_of (subsampled d) width ≤ length third)
      (shown : shown_alpha form width ≤ length alpha) (room : bytes_per_pixel_of form * width ≤ length dst) where
    pub row_fits_lem : row_fits form d first second third alpha width dst ≡ true
    row_fits_lem = fits_by_level (samples_fit_lem width (chroma_side_of (subsampled d) width) first second third h₁ h₂ h₃) shown room ∙ ap not valid

    pub row_written : write_row_of form d flagged first second third alpha width dst ≡ overwrite dst (row_pixels form d flagged first second third alpha width)
    unfolding write_row_of
    row_written = rw row_fits_lem refl

-- chroma rows that have a sample for each column, and alpha: one of them is too short
pub row_missing : (p : ChannelOffsets) (d : ColorPlaneDefinition) (flagged : Bool) (first second third alpha : List ℕ) (width : ℕ) (dst : List ℕ)
    → (samples_fit width width first second third && leb width (length alpha)) ≡ false → dst ≡ write_row_of (four_bytes p) (full_chroma d) flagged first second third alpha width dst
unfolding row_fits write_row_of
row_missing p d flagged first second third alpha width dst e =
    let full : Bool = samples_fit width (chroma_side_of (subsampled (full_chroma d)) width) first second third in
    let same : full ≡ samples_fit width width first second third = ap (λ (k : ℕ). samples_fit width k first second third) (full_chroma_side d width) in
    let none = go (not (is_loss_level_invalid_of (full_chroma d))) full (leb width (length alpha)) (leb (4 * width) (length dst)) (ap (λ (t : Bool). t && leb width (length alpha)) same ∙ e) in
    sym (ap (λ (t : Bool). choose t (overwrite dst (row_pixels (four_bytes p) (full_chroma d) flagged first second third alpha width)) dst) none)
  where
    go : (n a b r : Bool) → (a && b) ≡ false → (n && (a && (b && r))) ≡ false
    go false a b r e = refl
    go true false b r e = refl
    go true true false r e = refl
    go true true true r e = absurd cc

-- the same for chroma rows that have a sample for each column
pub full_chroma_level : (d : ColorPlaneDefinition) → is_loss_level_invalid_of (full_chroma d) ≡ is_loss_level_invalid_of d
unfolding is_loss_level_invalid_of
full_chroma_level Argb = refl
full_chroma_level (AYCoCg level s) = refl

pub full_row_written : (form : PixelForm) (d : ColorPlaneDefinition) (flagged : Bool) (first second third alpha : List ℕ) (width : ℕ) (dst : List ℕ) → is_loss_level_invalid_of d ≡ false
    → width ≤ length first → width ≤ length second → width ≤ length third → shown_alpha form width ≤ length alpha → bytes_per_pixel_of form * width ≤ length dst
    → write_row_of form (full_chroma d) flagged first second third alpha width dst ≡ overwrite dst (row_pixels form (full_chroma d) flagged first second third alpha width)
full_row_written form d flagged first second third alpha width dst valid h₁ h₂ h₃ shown room =
    let side = full_chroma_side d width in
    row_written form (full_chroma d) flagged first second third alpha width dst (full_chroma_level d ∙ valid) h₁ (rw side h₂) (rw side h₃) shown room

-- ---- doubled samples

module _ (samples : List ℕ) (width : ℕ) (dst : List ℕ) where
  -- for a caller that knows the lengths
  pub doubled_written : chroma_side_of true width ≤ length samples → width ≤ length dst → write_doubled samples width dst ≡ overwrite dst (doubled samples width)
  unfolding write_doubled
  doubled_written h k = simp (le-leb (chroma_side_of true width) (length samples) h, le-leb width (length dst) k)

pub length_doubled : (samples : List ℕ) (width : ℕ) → length (doubled samples width) ≡ width
length_doubled samples width = length-concat_up_to width 1 (λ (column : ℕ). get_or samples (chroma_index true column) 0 ∷ []) (λ k. refl) ∙ mul-one width

get_or_doubled : (samples : List ℕ) (width i : ℕ) → i < width → get_or (doubled samples width) i 0 ≡ get_or samples (chroma_index true i) 0
unfolding concat_up_to
get_or_doubled samples zero i h = absurd (omega arith)
get_or_doubled samples (suc n) i h =
    let len = length_doubled samples n in
    ⊎_elim
    (λ (l : i < n). get_or-append (doubled samples n) (get_or samples (chroma_index true n) 0 ∷ []) 0 i (omega arith) ∙ get_or_doubled samples n i l)
    (λ (l : n < suc i).
    let e : i ≡ n = omega arith in
    get_or_at (doubled samples n) (get_or samples (chroma_index true n) 0) [] 0 i (len ∙ sym e) ∙ ap (λ (k : ℕ). get_or samples (chroma_index true k) 0) (sym e))
    (le_or_gt (suc i) n)

-- the sample at each column
pub doubled_at : (samples : List ℕ) (width : ℕ) (dst : List ℕ) (i : ℕ) → i < width → get_or (overwrite dst (doubled samples width)) i 0 ≡ get_or samples (chroma_index true i) 0
unfolding overwrite
doubled_at samples width dst i h =
    let len = length_doubled samples width in
    get_or-append (doubled samples width) (drop (length (doubled samples width)) dst) 0 i (omega arith) ∙ get_or_doubled samples width i h

-- ---- rows that have the same pixels

pub concat_up_to_same : (n : ℕ) (f g : ℕ → List ℕ) → ((i : ℕ) → i < n → f i ≡ g i) → concat_up_to n f ≡ concat_up_to n g
unfolding concat_up_to
concat_up_to_same zero f g h = refl
concat_up_to_same (suc n) f g h = λ i. concat_up_to_same n f g (λ k l. h k (omega arith)) i ++ h n (omega arith) i

-- without subsampling every pixel has its own chroma samples
pub full_chroma_full : (d : ColorPlaneDefinition) → subsampled d ≡ false → full_chroma d ≡ d
full_chroma_full Argb e = refl
full_chroma_full (AYCoCg level s) e = ap (AYCoCg level) (sym e)

-- a subsampled row has the same pixels as one with its chroma samples doubled
pub doubled_row : (form : PixelForm) (d : ColorPlaneDefinition) (flagged : Bool) (first second third alpha : List ℕ) (width : ℕ) (co cg : List ℕ) → subsampled d ≡ true
    → row_pixels form (full_chroma d) flagged first (overwrite co (doubled second width)) (overwrite cg (doubled third width)) alpha width ≡ row_pixels form d flagged first second third alpha width
unfolding chroma_index
doubled_row form Argb flagged first second third alpha width co cg e = let z : ◌≡◌ {A = ℕ} 0 1 = cc in absurd (omega arith)
doubled_row form (AYCoCg level false) flagged first second third alpha width co cg e = let z : ◌≡◌ {A = ℕ} 0 1 = cc in absurd (omega arith)
doubled_row form (AYCoCg level true) flagged first second third alpha width co cg e =
    concat_up_to_same width (pixel_at form (AYCoCg level false) flagged first (overwrite co (doubled second width)) (overwrite cg (doubled third width)) alpha)
    (pixel_at form (AYCoCg level true) flagged first second third alpha)
    (λ i l k. pixel_bytes form (aycocg_colour flagged level (get_or first i 0) (doubled_at second width co i l k) (doubled_at third width cg i l k)) (get_or alpha i 0))
