-- What the number of a layout means, and what a call does by it. Assumes nothing.
use mathlib.Core.Path.{◌≡◌, refl, sym, ap, ◌∙◌}
use mathlib.Core.List.{List, []}
use Prim.Native.Nat.{ℕ, ◌<◌}
use native.Mathlib.Omega.{arith}
use Rattle.std.specs.Prelude.{Option, None, Ok, Err}
use borrow.Author.Tests.{ne_eqb}
use Rattle.rle_format.specs.declared.Refusal.{Refusal}
use Rattle.rle_format.specs.Answer.{Answer, refused, number}
use Rattle.bitmap_format.specs.declared.BitmapStreamHeader.{BitmapStreamHeader}
use Rattle.bitmap_format.specs.Stream as format
use Rattle.bitmap_format.specs.Stream.{split_rest, split_stream_of, unpack_split, unpack_stream_by}
use Rattle.bitmap_stream.specs.declared.Split.{Split}
use Rattle.bitmap_stream.specs.Split.{split_of}
use Rattle.pixel_format.specs.declared.PixelLayout.{PixelLayout}
use Rattle.rdp6.specs.Layout.{c_layout, unknown_layout, unchanged_picture, c_unpack_pixels, c_unpack_pixel_stream, unknown_layout_of_stream}

-- a number over 3 means no layout, however large it is
pub c_layout_unknown : (layout : ℕ) → 3 < layout → c_layout layout ≡ None
unfolding c_layout
c_layout_unknown layout h =
    simp (
      ne_eqb layout 0 (λ (e : layout ≡ 0). omega (arith, e)),
      ne_eqb layout 1 (λ (e : layout ≡ 1). omega (arith, e)),
      ne_eqb layout 2 (λ (e : layout ≡ 2). omega (arith, e)),
      ne_eqb layout 3 (λ (e : layout ≡ 3). omega (arith, e)),
    )

-- ---- unpacking a stream to an unknown layout

-- work area and image stay as they are
pub unknown_stream : (w h : ℕ) (stream work image : List ℕ) → c_unpack_pixel_stream None w h stream work image ≡ unchanged_picture work image (unknown_layout_of_stream w h stream)
unfolding unpack_stream_by unpack_split
unknown_stream w h stream work image = go (split_stream_of stream)
  where
    go : (s : format.Split) → unpack_split (λ (header : BitmapStreamHeader) (body : List ℕ). c_unpack_pixels None header w h body work image) work image s
        ≡ unchanged_picture work image (unpack_split (λ (header : BitmapStreamHeader) (body : List ℕ). c_unpack_pixels None header w h body [] []) [] [] s).answer
    go (format.split header body) = refl
    go (format.split_refused r) = refl

-- so of a layout that means none
pub unknown_stream_by : (w h : ℕ) (stream work image : List ℕ) (layout : Option PixelLayout) → layout ≡ None
    → unchanged_picture work image (unknown_layout_of_stream w h stream) ≡ c_unpack_pixel_stream layout w h stream work image
unknown_stream_by w h stream work image layout is =
    sym (ap (λ (l : Option PixelLayout). c_unpack_pixel_stream l w h stream work image) is ∙ unknown_stream w h stream work image)

-- the refusal for sides is that for equal ones
pub same_sides : (w h v u : ℕ) (a : Answer) → unknown_layout v u ≡ a → v ≡ w → u ≡ h → a ≡ unknown_layout w h
same_sides w h v u a is ew eh = sym is ∙ (λ i. unknown_layout (ew i) (eh i))

-- what split_stream returns decides
module _ (w h : ℕ) (stream : List ℕ) where
  answer_of : format.Split → Answer
  answer_of t = (unpack_split (λ (header : BitmapStreamHeader) (body : List ℕ). c_unpack_pixels None header w h body [] []) [] [] t).answer

  pub stream_refused : (q : Refusal) → split_of (Err q) ≡ split_stream_of stream → refused (number q) ≡ unknown_layout_of_stream w h stream
  unfolding unpack_stream_by unpack_split answer_of
  stream_refused q e = ap answer_of e

  pub stream_split : (s : Split) → split_of (Ok s) ≡ split_stream_of stream → unknown_layout w h ≡ unknown_layout_of_stream w h stream
  unfolding unpack_stream_by unpack_split answer_of
  stream_split s e = ap answer_of e
