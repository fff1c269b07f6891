-- Examples of channels, worked out by hand: one constant list, what the definitions compute for each, and what is expected.
-- proofs/Examples.antt has the one proof.
use Rattle.std.specs.Prelude.{ℕ, List, [], ◌∷◌}
use Rattle.pixel_format.specs.declared.Channel.{Channel}
use Rattle.pixel_format.specs.declared.Channel.TheVariants.{R, G, B, A}
use Rattle.pixel_format.specs.declared.Layout.{Layout}
use Rattle.pixel_format.specs.declared.Layout.TheVariants.{Planar, Pixels}
use Rattle.pixel_format.specs.declared.PixelLayout.TheVariants.{BgrA, RgbA, ARgb, ABgr}
use Rattle.pixel_format.specs.Samples.{samples_in}

-- a slice with its layout, and the samples of a channel in it
pub record Example : Type 0 where
  pub layout : Layout
  pub channel : Channel
  pub slice : List ℕ
  pub samples : List ℕ

abbrev pub example : (layout : Layout) (channel : Channel) (slice samples : List ℕ) → Example
example layout channel slice samples = record { layout = layout; channel = channel; slice = slice; samples = samples }

-- what the definitions compute, the slice as the code has it
abbrev pub computed : Example → List ℕ
computed e = samples_in (record { src = record { ref_ptr = (0, 0); now = e.slice }; layout = e.layout; channel = e.channel })

-- what is expected
abbrev pub expected : Example → List ℕ
expected e = e.samples

-- three pixels, and three bytes of a fourth
abbrev pub pixels : List ℕ
pixels = 1 ∷ 2 ∷ 3 ∷ 4 ∷ 5 ∷ 6 ∷ 7 ∷ 8 ∷ 9 ∷ 10 ∷ 11 ∷ 12 ∷ 13 ∷ 14 ∷ 15 ∷ []

-- each channel in each layout; then the same bytes as one channel
abbrev pub examples : List Example
examples =
    example (Pixels BgrA) B pixels (1 ∷ 5 ∷ 9 ∷ [])
    ∷ example (Pixels BgrA) G pixels (2 ∷ 6 ∷ 10 ∷ [])
    ∷ example (Pixels BgrA) R pixels (3 ∷ 7 ∷ 11 ∷ [])
    ∷ example (Pixels BgrA) A pixels (4 ∷ 8 ∷ 12 ∷ [])
    ∷ example (Pixels RgbA) R pixels (1 ∷ 5 ∷ 9 ∷ [])
    ∷ example (Pixels RgbA) G pixels (2 ∷ 6 ∷ 10 ∷ [])
    ∷ example (Pixels RgbA) B pixels (3 ∷ 7 ∷ 11 ∷ [])
    ∷ example (Pixels RgbA) A pixels (4 ∷ 8 ∷ 12 ∷ [])
    ∷ example (Pixels ARgb) A pixels (1 ∷ 5 ∷ 9 ∷ [])
    ∷ example (Pixels ARgb) R pixels (2 ∷ 6 ∷ 10 ∷ [])
    ∷ example (Pixels ARgb) G pixels (3 ∷ 7 ∷ 11 ∷ [])
    ∷ example (Pixels ARgb) B pixels (4 ∷ 8 ∷ 12 ∷ [])
    ∷ example (Pixels ABgr) A pixels (1 ∷ 5 ∷ 9 ∷ [])
    ∷ example (Pixels ABgr) B pixels (2 ∷ 6 ∷ 10 ∷ [])
    ∷ example (Pixels ABgr) G pixels (3 ∷ 7 ∷ 11 ∷ [])
    ∷ example (Pixels ABgr) R pixels (4 ∷ 8 ∷ 12 ∷ [])
    ∷ example Planar R pixels (1 ∷ 2 ∷ 3 ∷ 4 ∷ 5 ∷ 6 ∷ 7 ∷ 8 ∷ 9 ∷ 10 ∷ 11 ∷ 12 ∷ 13 ∷ 14 ∷ 15 ∷ [])
    ∷ []
