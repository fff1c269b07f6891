-- A row of four-byte pixels: what the writers of rows leave, for a caller that knows the lengths and the loss level.
use Prim.Native.Nat.{ℕ, ◌*◌, ◌≤◌}
use mathlib.Core.Bool.{Bool, true, false}
use mathlib.Core.Path.{◌≡◌, ap, ◌∙◌}
use mathlib.Core.List.{List}
use native.Mathlib.Omega.{arith}
use lib.ListN.{length}
use Rattle.rle_format.specs.Choice.{choose}
use Rattle.rle_format.specs.Slice.{overwrite}
use Rattle.rle_format.proofs.Slice.{suffix, suffix_drop}
use Rattle.pixel_format.specs.declared.PixelLayout.{PixelLayout}
use Rattle.pixel_format.specs.Channel.{channel_offsets}
use Rattle.bitmap_format.specs.declared.ColorPlaneDefinition.{ColorPlaneDefinition}
use Rattle.bitmap_format.specs.Planes.{subsampled, chroma_side_of}
use Rattle.bitmap_format.specs.Pixels.{PixelForm, four_bytes}
use Rattle.bitmap_format.specs.Picture.{is_loss_level_invalid_of}
use Rattle.bitmap_rows.specs.Rows.{row_pixels, write_row_of, full_chroma, doubled, write_doubled}
use Rattle.bitmap_rows.proofs.Rows.{full_row_written, doubled_written, full_chroma_full, doubled_row}
use Rattle.bitmap_image.specs.Rows.{array_width}

-- the slices of a row, as write_row requires them
pub record RowRoom (d : ColorPlaneDefinition) (first second third alpha : List ℕ) (width : ℕ) (dst co cg : List ℕ) : Type 0 where
  pub valid : is_loss_level_invalid_of d ≡ false
  pub first_room : width ≤ length first
  pub second_room : chroma_side_of (subsampled d) width ≤ length second
  pub third_room : chroma_side_of (subsampled d) width ≤ length third
  pub alpha_room : width ≤ length alpha
  pub dst_room : 4 * width ≤ length dst
  pub co_room : array_width d width ≤ length co
  pub cg_room : array_width d width ≤ length cg

chroma_full : (s : Bool) (width : ℕ) → s ≡ false → chroma_side_of s width ≡ width
unfolding chroma_side_of
chroma_full s width e = rw e

module _ (layout : PixelLayout) (d : ColorPlaneDefinition) (flagged : Bool) (first second third alpha : List ℕ) (width : ℕ) (dst co cg after : List ℕ)
    (room : RowRoom d first second third alpha width dst co cg) where
  abbrev form : PixelForm
  form = four_bytes (channel_offsets layout)

  abbrev Done : Type 0
  Done = after ≡ overwrite dst (row_pixels form d flagged first second third alpha width)

  array : subsampled d ≡ true → array_width d width ≡ width
  array e = ap (λ (t : Bool). choose t width 0) e

  -- a row of chroma samples of its own for each plane: a and b
  full_row : (a b : List ℕ) → width ≤ length a → width ≤ length b → after ≡ write_row_of form (full_chroma d) flagged first a b alpha width dst
      → after ≡ overwrite dst (row_pixels form (full_chroma d) flagged first a b alpha width)
  full_row a b la lb wrote = wrote ∙ full_row_written form d flagged first a b alpha width dst room.valid room.first_room la lb room.alpha_room room.dst_room

  pub own_chroma_row : subsampled d ≡ false → after ≡ write_row_of form (full_chroma d) flagged first second third alpha width dst → Done
  own_chroma_row e wrote =
      let same = chroma_full (subsampled d) width e in
      full_row second third (omega (arith, room.second_room)) (omega (arith, room.third_room)) wrote
      ∙ ap (λ (k : ColorPlaneDefinition). overwrite dst (row_pixels form k flagged first second third alpha width)) (full_chroma_full d e)

  -- co₁ and cg₁ are the arrays after the samples were doubled; they are passed on as parts
  pub doubled_chroma_row : (co₁ cg₁ : List ℕ) → subsampled d ≡ true → co₁ ≡ write_doubled second width co → cg₁ ≡ write_doubled third width cg → length co₁ ≡ length co → length cg₁ ≡ length cg
      → after ≡ write_row_of form (full_chroma d) flagged first (suffix co₁ 0) (suffix cg₁ 0) alpha width dst → Done
  doubled_chroma_row co₁ cg₁ e wrote-co wrote-cg kept-co kept-cg wrote =
      let half : (l : List ℕ) → chroma_side_of (subsampled d) width ≤ length l → chroma_side_of true width ≤ length l = λ l h. rw e at h in
      let eo : co₁ ≡ overwrite co (doubled second width) = wrote-co ∙ doubled_written second width co (half second room.second_room) (omega (arith, array e, room.co_room)) in
      let eg : cg₁ ≡ overwrite cg (doubled third width) = wrote-cg ∙ doubled_written third width cg (half third room.third_room) (omega (arith, array e, room.cg_room)) in
      full_row co₁ cg₁ (omega (arith, array e, room.co_room)) (omega (arith, array e, room.cg_room)) (wrote ∙ (λ i. write_row_of form (full_chroma d) flagged first (suffix_drop co₁ 0 i) (suffix_drop cg₁ 0 i) alpha width dst))
      ∙ (λ i. overwrite dst (row_pixels form (full_chroma d) flagged first (eo i) (eg i) alpha width))
      ∙ ap (overwrite dst) (doubled_row form d flagged first second third alpha width co cg e)
