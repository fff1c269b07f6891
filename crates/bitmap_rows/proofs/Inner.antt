-- What the inner functions test and write: the loss level, the plane definition, four-byte pixels.
use Prim.Native.Nat.{ℕ, ◌+◌, ◌*◌, ◌/◌, ◌%◌, ◌<◌, ◌≤◌}
use mathlib.Core.Bool.{Bool, true, false, ◌||◌}
use mathlib.Core.Path.{◌≡◌, refl, sym, ap, ◌∙◌}
use mathlib.Core.List.{List, [], ◌∷◌}
use native.Mathlib.Omega.{arith}
use lib.ListN.{get_or}
use borrow.Author.Tests.{ne_eqb, le-ltb}
use Rattle.std.specs.Prelude.{◌==◌, nat_lt}
use Rattle.rle_format.specs.Choice.{choose}
use Rattle.rle_format.specs.Slice.{overwrite}
use Rattle.pixel_format.specs.declared.PixelLayout.{PixelLayout}
use Rattle.pixel_format.specs.declared.PixelLayout.TheVariants.{BgrA, RgbA, ARgb, ABgr}
use Rattle.pixel_format.specs.Channel.{channel_offsets}
use Rattle.bitmap_format.specs.declared.ColorPlaneDefinition.{ColorPlaneDefinition}
use Rattle.bitmap_format.specs.declared.ColorPlaneDefinition.TheVariants.{Argb, AYCoCg}
use Rattle.bitmap_format.specs.Colour.{aycocg_colour}
use Rattle.bitmap_format.specs.Planes.{subsampled, chroma_side_of}
use Rattle.bitmap_format.specs.Image.{chroma_index}
use Rattle.bitmap_format.specs.Picture.{is_loss_level_invalid_of}
use Rattle.bitmap_format.specs.Pixels.{PixelForm, four_bytes, pixel_bytes}
use Rattle.bitmap_color.proofs.Colour.{level_allowed}
use Rattle.bitmap_rows.specs.Rows.{pixel_at, row_pixels}
use Rattle.bitmap_rows.specs.Inner.{if_level_valid, write_fitting_row, word_bytes, alpha_first_of, colour_flag, arranged, arranged_at, write_arranged}
use Rattle.bitmap_rows.proofs.Rows.{concat_up_to_same}

-- ---- a row by its plane definition

-- the sides of the chroma planes: s is what is known of the rows
module _ (d : ColorPlaneDefinition) (s : Bool) (is : s ≡ subsampled d) where
  pub argb_side : (width n : ℕ) → d ≡ Argb → chroma_side_of s width ≤ n → width ≤ n
  unfolding chroma_side_of
  argb_side width n e l = let z : s ≡ false = is ∙ ap subsampled e in rw z at l

  pub full_side : (level : ℕ) (t : Bool) (width n : ℕ) → d ≡ AYCoCg level t → t ≡ false → chroma_side_of s width ≤ n → width ≤ n
  unfolding chroma_side_of
  full_side level t width n e et l = let z : s ≡ false = is ∙ ap subsampled e ∙ et in rw z at l

-- the loss level of a row
module _ (form : PixelForm) (d : ColorPlaneDefinition) (flagged : Bool) (first second third alpha : List ℕ) (width : ℕ) (dst : List ℕ) where
  abbrev pixels : ColorPlaneDefinition → List ℕ
  pixels k = row_pixels form k flagged first second third alpha width

  pub argb_row : d ≡ Argb → overwrite dst (row_pixels form Argb true first second third alpha width) ≡ write_fitting_row form d flagged first second third alpha width dst
  unfolding is_loss_level_invalid_of
  argb_row e = ap (λ (k : ColorPlaneDefinition). write_fitting_row form k flagged first second third alpha width dst) (sym e)

  module _ (level : ℕ) (s : Bool) (e : d ≡ AYCoCg level s) where
    invalid : is_loss_level_invalid_of d ≡ (level == 0 || nat_lt 7 level)
    unfolding is_loss_level_invalid_of
    invalid = ap is_loss_level_invalid_of e

    -- a level that is refused
    pub refused_row : (level == 0 || nat_lt 7 level) ≡ true → dst ≡ write_fitting_row form d flagged first second third alpha width dst
    refused_row c = sym (ap (λ (t : Bool). choose t dst (overwrite dst (pixels d))) (invalid ∙ c))

    -- and one that is known
    pub known_row : (known : ℕ) → 1 ≤ known → known ≤ 7 → known ≡ level → overwrite dst (pixels (AYCoCg known s)) ≡ write_fitting_row form d flagged first second third alpha width dst
    known_row known low high k =
        ap (λ (n : ℕ). overwrite dst (pixels (AYCoCg n s))) k
        ∙ ap (λ (k : ColorPlaneDefinition). overwrite dst (pixels k)) (sym e)
        ∙ sym (ap (λ (t : Bool). choose t dst (overwrite dst (pixels d))) (invalid ∙ level_allowed known level low high k))

-- ---- four-byte pixels

-- the bytes of a word that was made of them
-- No code makes a word now; the theorem stays, since docs/ARCHITECTURE.md names it.
pub word_bytes_lem : (a b c d : ℕ) → a < 256 → b < 256 → c < 256 → d < 256 → word_bytes (a + b * 256 + c * 65536 + d * 16777216) ≡ a ∷ b ∷ c ∷ d ∷ []
word_bytes_lem a b c d ha hb hc hd =
    let w : ℕ = a + b * 256 + c * 65536 + d * 16777216 in
    let e₀ : w % 256 ≡ a = omega arith in
    let q₁ : w / 256 ≡ b + (c + d * 256) * 256 = omega arith in
    let q₂ : w / 65536 ≡ c + d * 256 = omega arith in
    let q₃ : w / 16777216 ≡ d = omega arith in
    let e₁ : (b + (c + d * 256) * 256) % 256 ≡ b = omega arith in
    let e₂ : (c + d * 256) % 256 ≡ c = omega arith in
    let e₃ : d % 256 ≡ d = omega arith in
    λ i. e₀ i ∷ (ap (λ (n : ℕ). n % 256) q₁ ∙ e₁) i ∷ (ap (λ (n : ℕ). n % 256) q₂ ∙ e₂) i ∷ (ap (λ (n : ℕ). n % 256) q₃ ∙ e₃) i ∷ []

-- a pixel by the two answers of its layout
arranged_pixel : (layout : PixelLayout) (flagged : Bool) (level y co cg alpha : ℕ)
    → arranged (alpha_first_of layout) (aycocg_colour (colour_flag layout flagged) level y co cg) alpha ≡ pixel_bytes (four_bytes (channel_offsets layout)) (aycocg_colour flagged level y co cg) alpha
unfolding aycocg_colour
arranged_pixel BgrA true level y co cg alpha = refl
arranged_pixel BgrA false level y co cg alpha = refl
arranged_pixel RgbA true level y co cg alpha = refl
arranged_pixel RgbA false level y co cg alpha = refl
arranged_pixel ARgb true level y co cg alpha = refl
arranged_pixel ARgb false level y co cg alpha = refl
arranged_pixel ABgr true level y co cg alpha = refl
arranged_pixel ABgr false level y co cg alpha = refl

-- a level that is known
pub level_valid : (level : ℕ) (s : Bool) (pixels dst : List ℕ) → 1 ≤ level → level ≤ 7 → if_level_valid (AYCoCg level s) pixels dst ≡ overwrite dst pixels
unfolding is_loss_level_invalid_of
level_valid level s pixels dst l h = simp (ne_eqb level 0 (λ e. omega arith), le-ltb 7 level h)

-- a row of such pixels
pub arranged_row : (layout : PixelLayout) (flagged : Bool) (level : ℕ) (y co cg alpha : List ℕ) (width : ℕ) (dst : List ℕ) (leading flag : Bool)
    → leading ≡ alpha_first_of layout → flag ≡ colour_flag layout flagged
    → write_arranged leading flag level y co cg alpha width dst ≡ write_fitting_row (four_bytes (channel_offsets layout)) (AYCoCg level false) flagged y co cg alpha width dst
unfolding chroma_index
arranged_row layout flagged level y co cg alpha width dst leading flag el ef =
    (λ i. write_arranged (el i) (ef i) level y co cg alpha width dst)
    ∙ ap (λ (l : List ℕ). if_level_valid (AYCoCg level false) l dst)
    (concat_up_to_same width (arranged_at (alpha_first_of layout) (colour_flag layout flagged) level y co cg alpha) (pixel_at (four_bytes (channel_offsets layout)) (AYCoCg level false) flagged y co cg alpha)
    (λ i l. arranged_pixel layout flagged level (get_or y i 0) (get_or co i 0) (get_or cg i 0) (get_or alpha i 0)))
