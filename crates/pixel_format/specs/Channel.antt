-- The samples of a channel (FORMAT 7.1): all bytes of a slice, or one byte of each pixel.
use Rattle.std.specs.Prelude.{ℕ, zero, suc, ◌+◌, ◌*◌, ◌/◌, List, [], ◌∷◌, ◌++◌, length, get_or}
use Rattle.pixel_format.specs.declared.Channel.{Channel}
use Rattle.pixel_format.specs.declared.Channel.TheVariants.{R, G, B, A}
use Rattle.pixel_format.specs.declared.Layout.{Layout}
use Rattle.pixel_format.specs.declared.Layout.TheVariants.{Planar, Pixels}
use Rattle.pixel_format.specs.declared.PixelLayout.{PixelLayout}
use Rattle.pixel_format.specs.declared.PixelLayout.TheVariants.{BgrA, RgbA, ARgb, ABgr}

-- a pixel layout: the bytes of a pixel, and the offset of each channel in it
pub record ChannelOffsets : Type 0 where
  pub stride : ℕ
  pub r : ℕ
  pub g : ℕ
  pub b : ℕ
  pub a : ℕ

-- the four layouts; a name has the channels in the order of the bytes. They are IronRDP's BgrAChannels, RgbAChannels and so on
abbrev pub bgr_a : ChannelOffsets
bgr_a = record { stride = 4; r = 2; g = 1; b = 0; a = 3 }

abbrev pub rgb_a : ChannelOffsets
rgb_a = record { stride = 4; r = 0; g = 1; b = 2; a = 3 }

abbrev pub a_rgb : ChannelOffsets
a_rgb = record { stride = 4; r = 1; g = 2; b = 3; a = 0 }

abbrev pub a_bgr : ChannelOffsets
a_bgr = record { stride = 4; r = 3; g = 2; b = 1; a = 0 }

abbrev pub channel_offsets : PixelLayout → ChannelOffsets
channel_offsets BgrA = bgr_a
channel_offsets RgbA = rgb_a
channel_offsets ARgb = a_rgb
channel_offsets ABgr = a_bgr

-- the offset of a channel in a pixel
abbrev pub offset_of : ChannelOffsets → Channel → ℕ
offset_of p R = p.r
offset_of p G = p.g
offset_of p B = p.b
offset_of p A = p.a

-- the bytes at one offset of the first n pixels; pixel k has its byte at index k × stride + offset
unfoldable pub strided : (stride offset n : ℕ) (pixels : List ℕ) → List ℕ
strided stride offset zero pixels = []
strided stride offset (suc n) pixels = strided stride offset n pixels ++ get_or pixels (n * stride + offset) 0 ∷ []

-- a channel of a slice of pixels. Trailing bytes that make no complete pixel are ignored
unfoldable pub channel : ChannelOffsets → Channel → (pixels : List ℕ) → List ℕ
channel p c pixels = strided p.stride (offset_of p c) (length pixels / p.stride) pixels

-- the samples of a channel in a slice of either layout
abbrev pub samples_of : Layout → Channel → (slice : List ℕ) → List ℕ
samples_of Planar c slice = slice
samples_of (Pixels layout) c slice = channel (channel_offsets layout) c slice
