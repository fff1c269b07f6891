-- The planes of a picture, from the slices of its channels. Only contracts of inner functions use these.
use Rattle.std.specs.Prelude.{ℕ, List}
use Rattle.pixel_format.specs.declared.Channel.TheVariants.{R, G, B, A}
use Rattle.pixel_format.specs.declared.Layout.{Layout}
use Rattle.pixel_format.specs.Channel.{samples_of}
use Rattle.bitmap_format.specs.PackPicture.{three_planes, four_planes}

-- the samples of each channel, in the order of FORMAT 7.2
abbrev pub three_channels : Layout → (r g b : List ℕ) → List (List ℕ)
three_channels layout r g b = three_planes (samples_of layout R r) (samples_of layout G g) (samples_of layout B b)

abbrev pub four_channels : Layout → (r g b a : List ℕ) → List (List ℕ)
four_channels layout r g b a = four_planes (samples_of layout R r) (samples_of layout G g) (samples_of layout B b) (samples_of layout A a)
