-- The four layouts are rearrangements of R, G, B and A; and of a rearrangement every offset lies in the pixel, and no two are the same.
use Prim.Native.Nat.{ℕ, zero, suc, ◌+◌, ◌≤◌, ◌<◌}
use mathlib.Core.Path.{◌≡◌, refl, ap}
use native.Mathlib.Omega.{arith}
use borrow.Author.Tests.{ne_eqb}
use Rattle.pixel_format.specs.declared.PixelLayout.{PixelLayout}
use Rattle.pixel_format.specs.declared.PixelLayout.TheVariants.{BgrA, RgbA, ARgb, ABgr}
use Rattle.pixel_format.specs.Channel.{ChannelOffsets, bgr_a, rgb_a, a_rgb, a_bgr, channel_offsets}
use Rattle.pixel_format.specs.Layouts.{is_at, channels_at, IsRearrangement, LayoutsRearrange, by_offsets}

pub layouts_rearrange : LayoutsRearrange
layouts_rearrange BgrA = by_offsets bgr_a refl refl refl refl refl
layouts_rearrange RgbA = by_offsets rgb_a refl refl refl refl refl
layouts_rearrange ARgb = by_offsets a_rgb refl refl refl refl refl
layouts_rearrange ABgr = by_offsets a_bgr refl refl refl refl refl

-- ---- an offset is at most one of 0 to 3, and if it is one, it is below 4

abbrev places : ℕ → ℕ
places x = is_at x 0 + is_at x 1 + is_at x 2 + is_at x 3

elsewhere : (x k : ℕ) → (x ≡ k → ⊥) → is_at x k ≡ 0
elsewhere x k h = rw (ne_eqb x k h)

none_from_4 : (x : ℕ) → 4 ≤ x → places x ≡ 0
none_from_4 x l =
    let e₀ : is_at x 0 ≡ 0 = elsewhere x 0 (λ e. omega arith) in
    let e₁ : is_at x 1 ≡ 0 = elsewhere x 1 (λ e. omega arith) in
    let e₂ : is_at x 2 ≡ 0 = elsewhere x 2 (λ e. omega arith) in
    let e₃ : is_at x 3 ≡ 0 = elsewhere x 3 (λ e. omega arith) in
    omega arith

one_place : (x : ℕ) → places x ≤ 1
one_place zero = omega arith
one_place (suc zero) = omega arith
one_place (suc (suc zero)) = omega arith
one_place (suc (suc (suc zero))) = omega arith
one_place (suc (suc (suc (suc k)))) = omega (arith, none_from_4 (suc (suc (suc (suc k)))) (omega arith))

below_4 : (x : ℕ) → places x ≡ 1 → x < 4
below_4 zero e = omega arith
below_4 (suc zero) e = omega arith
below_4 (suc (suc zero)) e = omega arith
below_4 (suc (suc (suc zero))) e = omega arith
below_4 (suc (suc (suc (suc k)))) e = absurd (omega (arith, none_from_4 (suc (suc (suc (suc k)))) (omega arith)))

-- two channels cannot share an offset if neither offset of 0 to 3 has two channels
apart : (x y : ℕ) → places x ≡ 1 → is_at x 0 + is_at y 0 ≤ 1 → is_at x 1 + is_at y 1 ≤ 1 → is_at x 2 + is_at y 2 ≤ 1 → is_at x 3 + is_at y 3 ≤ 1 → x ≡ y → ⊥
apart x y one l₀ l₁ l₂ l₃ e =
    let e₀ : is_at x 0 ≡ is_at y 0 = ap (λ (n : ℕ). is_at n 0) e in
    let e₁ : is_at x 1 ≡ is_at y 1 = ap (λ (n : ℕ). is_at n 1) e in
    let e₂ : is_at x 2 ≡ is_at y 2 = ap (λ (n : ℕ). is_at n 2) e in
    let e₃ : is_at x 3 ≡ is_at y 3 = ap (λ (n : ℕ). is_at n 3) e in
    omega arith

-- any two of four numbers whose sum is 1
record Pairs (r g b a : ℕ) : Type 0 where
  rg : r + g ≤ 1
  rb : r + b ≤ 1
  ra : r + a ≤ 1
  gb : g + b ≤ 1
  ga : g + a ≤ 1
  ba : b + a ≤ 1

pairs : (r g b a : ℕ) → r + g + b + a ≡ 1 → Pairs r g b a
pairs r g b a e = record { rg = omega arith; rb = omega arith; ra = omega arith; gb = omega arith; ga = omega arith; ba = omega arith }

-- ---- of a rearrangement

pub record Apart (p : ChannelOffsets) : Type 0 where
  pub r_below : p.r < 4
  pub g_below : p.g < 4
  pub b_below : p.b < 4
  pub a_below : p.a < 4
  pub r_not_g : p.r ≡ p.g → ⊥
  pub r_not_b : p.r ≡ p.b → ⊥
  pub r_not_a : p.r ≡ p.a → ⊥
  pub g_not_b : p.g ≡ p.b → ⊥
  pub g_not_a : p.g ≡ p.a → ⊥
  pub b_not_a : p.b ≡ p.a → ⊥

pub all_apart : (p : ChannelOffsets) → IsRearrangement p → Apart p
all_apart p h =
    let e₀ : channels_at p 0 ≡ 1 = h.one_at 0 (omega arith) in
    let e₁ : channels_at p 1 ≡ 1 = h.one_at 1 (omega arith) in
    let e₂ : channels_at p 2 ≡ 1 = h.one_at 2 (omega arith) in
    let e₃ : channels_at p 3 ≡ 1 = h.one_at 3 (omega arith) in
    let r : places p.r ≡ 1 = omega (arith, one_place p.r, one_place p.g, one_place p.b, one_place p.a) in
    let g : places p.g ≡ 1 = omega (arith, one_place p.r, one_place p.g, one_place p.b, one_place p.a) in
    let b : places p.b ≡ 1 = omega (arith, one_place p.r, one_place p.g, one_place p.b, one_place p.a) in
    let a : places p.a ≡ 1 = omega (arith, one_place p.r, one_place p.g, one_place p.b, one_place p.a) in
    let q₀ = pairs (is_at p.r 0) (is_at p.g 0) (is_at p.b 0) (is_at p.a 0) e₀ in
    let q₁ = pairs (is_at p.r 1) (is_at p.g 1) (is_at p.b 1) (is_at p.a 1) e₁ in
    let q₂ = pairs (is_at p.r 2) (is_at p.g 2) (is_at p.b 2) (is_at p.a 2) e₂ in
    let q₃ = pairs (is_at p.r 3) (is_at p.g 3) (is_at p.b 3) (is_at p.a 3) e₃ in
    record {
      r_below = below_4 p.r r;
      g_below = below_4 p.g g;
      b_below = below_4 p.b b;
      a_below = below_4 p.a a;
      r_not_g = apart p.r p.g r q₀.rg q₁.rg q₂.rg q₃.rg;
      r_not_b = apart p.r p.b r q₀.rb q₁.rb q₂.rb q₃.rb;
      r_not_a = apart p.r p.a r q₀.ra q₁.ra q₂.ra q₃.ra;
      g_not_b = apart p.g p.b g q₀.gb q₁.gb q₂.gb q₃.gb;
      g_not_a = apart p.g p.a g q₀.ga q₁.ga q₂.ga q₃.ga;
      b_not_a = apart p.b p.a b q₀.ba q₁.ba q₂.ba q₃.ba;
    }

-- For users of the layouts: nothing in this repository needs it now.
pub layouts_apart : (layout : PixelLayout) → Apart (channel_offsets layout)
layouts_apart layout = all_apart (channel_offsets layout) (layouts_rearrange layout)
