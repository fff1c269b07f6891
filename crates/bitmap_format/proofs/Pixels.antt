-- Where each channel is in a four-byte pixel, for every layout that is a rearrangement of 0 to 3.
use Prim.Native.Nat.{ℕ, zero, suc, ◌<◌}
use mathlib.Core.Path.{◌≡◌, refl, sym, ◌∙◌}
use native.Mathlib.Omega.{arith}
use lib.ListN.{get_or}
use borrow.Author.Tests.{eq-eqb, ne_eqb}
use Rattle.pixel_format.specs.Channel.{ChannelOffsets}
use Rattle.pixel_format.proofs.Layouts.{Apart}
use Rattle.bitmap_format.specs.declared.Rgb.{Rgb}
use Rattle.bitmap_format.specs.Pixels.{four_bytes, byte_of_pixel, pixel_bytes}

four_at : (p : ChannelOffsets) (c : Rgb) (alpha k : ℕ) → k < 4 → get_or (pixel_bytes (four_bytes p) c alpha) k 0 ≡ byte_of_pixel p c alpha k
four_at p c alpha zero h = refl
four_at p c alpha (suc zero) h = refl
four_at p c alpha (suc (suc zero)) h = refl
four_at p c alpha (suc (suc (suc zero))) h = refl
four_at p c alpha (suc (suc (suc (suc k)))) h = absurd (omega arith)

module _ (p : ChannelOffsets) (q : Apart p) (c : Rgb) (alpha : ℕ) where
  abbrev byte_at : ℕ → ℕ
  byte_at k = get_or (pixel_bytes (four_bytes p) c alpha) k 0

  pub red_at : byte_at p.r ≡ c.r
  red_at = four_at p c alpha p.r q.r_below ∙ rw (eq-eqb p.r p.r refl)

  pub green_at : byte_at p.g ≡ c.g
  green_at =
      let ne : p.g ≡ p.r → ⊥ = λ e. q.r_not_g (sym e) in
      four_at p c alpha p.g q.g_below ∙ rw (ne_eqb p.g p.r ne, eq-eqb p.g p.g refl)

  pub blue_at : byte_at p.b ≡ c.b
  blue_at =
      let nr : p.b ≡ p.r → ⊥ = λ e. q.r_not_b (sym e) in
      let ng : p.b ≡ p.g → ⊥ = λ e. q.g_not_b (sym e) in
      four_at p c alpha p.b q.b_below ∙ rw (ne_eqb p.b p.r nr, ne_eqb p.b p.g ng, eq-eqb p.b p.b refl)

  pub alpha_at_lem : byte_at p.a ≡ alpha
  alpha_at_lem =
      let nr : p.a ≡ p.r → ⊥ = λ e. q.r_not_a (sym e) in
      let ng : p.a ≡ p.g → ⊥ = λ e. q.g_not_a (sym e) in
      let nb : p.a ≡ p.b → ⊥ = λ e. q.b_not_a (sym e) in
      four_at p c alpha p.a q.a_below ∙ rw (ne_eqb p.a p.r nr, ne_eqb p.a p.g ng, ne_eqb p.a p.b nb)
