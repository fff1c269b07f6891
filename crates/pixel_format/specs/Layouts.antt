-- What holds for each of the four layouts (document 02, Card 2): the law of the trait PixelChannels. proofs/Layouts.antt has what follows from it.
use Rattle.std.specs.Prelude.{ℕ, zero, suc, ◌+◌, ◌<◌, ◌≡◌, eqb}
use native.Mathlib.Omega.{arith}
use Rattle.rle_format.specs.Choice.{choose}
use Rattle.pixel_format.specs.declared.PixelLayout.{PixelLayout}
use Rattle.pixel_format.specs.Channel.{ChannelOffsets, channel_offsets}

-- 1 if a channel at `offset` is at k, else 0
abbrev pub is_at : (offset k : ℕ) → ℕ
is_at offset k = choose (eqb offset k) 1 0

-- how many of R, G, B and A are at offset k
abbrev pub channels_at : ChannelOffsets → (k : ℕ) → ℕ
channels_at p k = is_at p.r k + is_at p.g k + is_at p.b k + is_at p.a k

-- a pixel has four bytes, and each of the offsets 0 to 3 is that of exactly one of R, G, B and A
pub record IsRearrangement (p : ChannelOffsets) : Type 0 where
  pub four_bytes : p.stride ≡ 4
  pub one_at : (k : ℕ) → k < 4 → channels_at p k ≡ 1

-- the four offsets one by one
pub by_offsets : (p : ChannelOffsets) → p.stride ≡ 4 → channels_at p 0 ≡ 1 → channels_at p 1 ≡ 1 → channels_at p 2 ≡ 1 → channels_at p 3 ≡ 1 → IsRearrangement p
by_offsets p s e₀ e₁ e₂ e₃ = record { four_bytes = s; one_at = at }
  where
    at : (k : ℕ) → k < 4 → channels_at p k ≡ 1
    at zero l = e₀
    at (suc zero) l = e₁
    at (suc (suc zero)) l = e₂
    at (suc (suc (suc zero))) l = e₃
    at (suc (suc (suc (suc k)))) l = absurd (omega arith)

-- each layout is such a rearrangement
abbrev pub LayoutsRearrange : Type 0
LayoutsRearrange = (layout : PixelLayout) → IsRearrangement (channel_offsets layout)
