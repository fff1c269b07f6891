-- Examples of images written from planes and into images of any lengths, worked out by hand: one constant list, what the definitions compute for
-- each, and what is expected. proofs/Examples.antt has the one proof.
use Rattle.std.specs.Prelude.{ℕ, true, false, List, [], ◌∷◌}
use Rattle.pixel_format.specs.Channel.{rgb_a}
use Rattle.bitmap_format.specs.declared.BitmapStreamHeader.{BitmapStreamHeader}
use Rattle.bitmap_format.specs.declared.ColorPlaneDefinition.TheVariants.{AYCoCg}
use Rattle.bitmap_format.specs.Examples.{header, argb}
use Rattle.bitmap_format.specs.Pixels.{PixelForm, three_bytes, four_bytes}
use Rattle.bitmap_image.specs.WritePlanes.{write_planes_of}

-- the arguments of a call, and the image after it
pub record Example : Type 0 where
  pub form : PixelForm
  pub header : BitmapStreamHeader
  pub width : ℕ
  pub height : ℕ
  pub planes : List ℕ
  pub alpha : List ℕ
  pub before : List ℕ
  pub after : List ℕ

-- two pixels, one above the other: the colours 1 3 5 and 2 4 6
abbrev pub tall : PixelForm → BitmapStreamHeader → (planes alpha before after : List ℕ) → Example
tall form header planes alpha before after = record { form = form; header = header; width = 1; height = 2; planes = planes; alpha = alpha; before = before; after = after }

-- what the definitions compute
abbrev pub computed : Example → List ℕ
computed e = write_planes_of e.form e.header e.width e.height e.planes e.alpha e.before

-- what is expected
abbrev pub expected : Example → List ℕ
expected e = e.after

abbrev pub six : List ℕ
six = 1 ∷ 2 ∷ 3 ∷ 4 ∷ 5 ∷ 6 ∷ []

abbrev pub seven : List ℕ
seven = 0 ∷ 0 ∷ 0 ∷ 0 ∷ 0 ∷ 0 ∷ 0 ∷ []

abbrev pub eight : List ℕ
eight = 0 ∷ seven

-- Written: three bytes, without and with an alpha plane that is not shown; four bytes, with alpha and without. Not written: one byte of the image, one
-- sample of the colour planes, or one of alpha is missing; loss level 0; no width
abbrev pub examples : List Example
examples =
    tall three_bytes (argb false false) six [] seven (1 ∷ 3 ∷ 5 ∷ 2 ∷ 4 ∷ 6 ∷ 0 ∷ [])
    ∷ tall three_bytes (argb false true) six [] seven (1 ∷ 3 ∷ 5 ∷ 2 ∷ 4 ∷ 6 ∷ 0 ∷ [])
    ∷ tall (four_bytes rgb_a) (argb true true) six (8 ∷ 9 ∷ []) eight (1 ∷ 3 ∷ 5 ∷ 8 ∷ 2 ∷ 4 ∷ 6 ∷ 9 ∷ [])
    ∷ tall (four_bytes rgb_a) (argb true false) six [] eight (1 ∷ 3 ∷ 5 ∷ 255 ∷ 2 ∷ 4 ∷ 6 ∷ 255 ∷ [])
    ∷ tall (four_bytes rgb_a) (argb true false) six [] seven seven
    ∷ tall three_bytes (argb false false) (1 ∷ 2 ∷ 3 ∷ 4 ∷ 5 ∷ []) [] seven seven
    ∷ tall (four_bytes rgb_a) (argb true true) six (8 ∷ []) eight eight
    ∷ tall three_bytes (header false false (AYCoCg 0 false)) six [] seven seven
    ∷ record { form = three_bytes; header = argb false false; width = 0; height = 2; planes = six; alpha = []; before = seven; after = seven }
    ∷ []
