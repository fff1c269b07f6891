-- The header byte: the loss level of a header record that was read is valid; a header record is read back from its byte; some bits have no effect.
use mathlib.Core.Path.{◌≡◌, refl, sym, ap, ◌∙◌}
use mathlib.Core.Logic.{⊎_elim}
use mathlib.Core.Bool.{Bool, true, false, not}
use Prim.Native.Nat.{ℕ, ◌+◌, ◌*◌, ◌/◌, ◌%◌, ◌≤◌, ◌<◌}
use native.Mathlib.Omega.{arith}
use lib.Dec.{eqb}
use borrow.Author.Tests.{eq-eqb, ne_eqb, le-ltb}
use Rattle.rle_format.specs.Choice.{choose}
use Rattle.rle_format.proofs.Cases.{eq_or_ne}
use Rattle.bitmap_format.specs.declared.BitmapStreamHeader.{BitmapStreamHeader}
use Rattle.bitmap_format.specs.declared.ColorPlaneDefinition.{ColorPlaneDefinition}
use Rattle.bitmap_format.specs.declared.ColorPlaneDefinition.TheVariants.{Argb, AYCoCg}
use Rattle.bitmap_format.specs.Picture.{is_loss_level_invalid_of}
use Rattle.bitmap_format.proofs.UnpackPicture.{loss_level_range}
use Rattle.bitmap_format.specs.HeaderByte.{is_set, definition_from_byte_of, header_from_byte_of, definition_bits_of, header_to_byte_of}

-- ---- a header record that was read

pub read_level_valid : (byte : ℕ) → is_loss_level_invalid_of (header_from_byte_of byte).color_plane_definition ≡ false
unfolding header_from_byte_of definition_from_byte_of is_loss_level_invalid_of
read_level_valid byte =
    ⊎_elim
    (λ (z : byte % 8 ≡ 0). rw (eq-eqb (byte % 8) 0 z))
    (λ (z : byte % 8 ≡ 0 → ⊥). let few : byte % 8 ≤ 7 = omega arith in rw (ne_eqb (byte % 8) 0 z, ne_eqb (byte % 8) 0 z, le-ltb 7 (byte % 8) few))
    (eq_or_ne (byte % 8) 0)

pub definition_argb : (byte : ℕ) → byte % 8 ≡ 0 → Argb ≡ definition_from_byte_of byte
unfolding definition_from_byte_of
definition_argb byte z = rw (eq-eqb (byte % 8) 0 z)

pub definition_aycocg : (byte : ℕ) → (byte % 8 ≡ 0 → ⊥) → AYCoCg (byte % 8) (is_set 8 byte) ≡ definition_from_byte_of byte
unfolding definition_from_byte_of
definition_aycocg byte z = rw (ne_eqb (byte % 8) 0 z)

abbrev pub header : (rle alpha : Bool) → ColorPlaneDefinition → BitmapStreamHeader
header rle alpha d = record {
  enable_rle_compression = rle;
  use_alpha = alpha;
  color_plane_definition = d;
}

pub header_from_fields : (byte : ℕ) (d : ColorPlaneDefinition) → d ≡ definition_from_byte_of byte → header (is_set 16 byte) (not (is_set 32 byte)) d ≡ header_from_byte_of byte
unfolding header_from_byte_of
header_from_fields byte d e = ap (header (is_set 16 byte) (not (is_set 32 byte))) e

-- ---- a byte as x + 8 × k: x is bits 0 to 2, and k the number that the higher bits make

module _ (x k : ℕ) (few : x < 8) where
  low : (x + 8 * k) % 8 ≡ x
  low = omega arith

  by_8 : (x + 8 * k) / 8 ≡ k
  by_8 = omega arith

  by_16 : (x + 8 * k) / 16 ≡ k / 2
  by_16 = omega arith

  by_32 : (x + 8 * k) / 32 ≡ k / 4
  by_32 = omega arith

  pub header_is : header_from_byte_of (x + 8 * k) ≡ record {
    enable_rle_compression = eqb (k / 2 % 2) 1;
    use_alpha = not (eqb (k / 4 % 2) 1);
    color_plane_definition = choose (eqb x 0) Argb (AYCoCg x (eqb (k % 2) 1));
  }
  unfolding header_from_byte_of definition_from_byte_of
  header_is = λ i. record {
    enable_rle_compression = eqb (by_16 i % 2) 1;
    use_alpha = not (eqb (by_32 i % 2) 1);
    color_plane_definition = choose (eqb (low i) 0) Argb (AYCoCg (low i) (eqb (by_8 i % 2) 1));
  }

-- ---- a header record that is written

-- k of the byte of a header record
abbrev high : (s rle alpha : Bool) → ℕ
high s rle alpha = choose s 1 0 + 2 * choose rle 1 0 + 4 * choose alpha 0 1

record Bits (s rle alpha : Bool) : Type 0 where
  sum : (x : ℕ) → x + choose s 8 0 + choose rle 16 0 + choose alpha 0 32 ≡ x + 8 * high s rle alpha
  s_is : eqb (high s rle alpha % 2) 1 ≡ s
  rle_is : eqb (high s rle alpha / 2 % 2) 1 ≡ rle
  alpha_is : not (eqb (high s rle alpha / 4 % 2) 1) ≡ alpha

bits : (s rle alpha : Bool) → Bits s rle alpha
bits true true true = record { sum = λ x. omega arith; s_is = refl; rle_is = refl; alpha_is = refl }
bits true true false = record { sum = λ x. omega arith; s_is = refl; rle_is = refl; alpha_is = refl }
bits true false true = record { sum = λ x. omega arith; s_is = refl; rle_is = refl; alpha_is = refl }
bits true false false = record { sum = λ x. omega arith; s_is = refl; rle_is = refl; alpha_is = refl }
bits false true true = record { sum = λ x. omega arith; s_is = refl; rle_is = refl; alpha_is = refl }
bits false true false = record { sum = λ x. omega arith; s_is = refl; rle_is = refl; alpha_is = refl }
bits false false true = record { sum = λ x. omega arith; s_is = refl; rle_is = refl; alpha_is = refl }
bits false false false = record { sum = λ x. omega arith; s_is = refl; rle_is = refl; alpha_is = refl }

no_alpha_bit : (alpha : Bool) → ◌≡◌ {A = ℕ} (choose (not alpha) 32 0) (choose alpha 0 32)
no_alpha_bit true = refl
no_alpha_bit false = refl

-- its byte is the sum of three parts
pub header_byte_sum : (h : BitmapStreamHeader) (definition rle no-alpha : ℕ) → definition ≡ definition_bits_of h.color_plane_definition
    → rle ≡ choose h.enable_rle_compression 16 0 → no-alpha ≡ choose (not h.use_alpha) 32 0 → definition + rle + no-alpha ≡ header_to_byte_of h
unfolding header_to_byte_of
header_byte_sum h definition rle no-alpha ed er ea = λ i. ed i + er i + (ea ∙ no_alpha_bit h.use_alpha) i

level_bits_none : (level : ℕ) (s : Bool) → level % 8 ≡ 0 → definition_bits_of (AYCoCg level s) ≡ 0
unfolding definition_bits_of
level_bits_none level s z = rw (eq-eqb (level % 8) 0 z)

level_bits_some : (level : ℕ) (s : Bool) → (level % 8 ≡ 0 → ⊥) → definition_bits_of (AYCoCg level s) ≡ level % 8 + choose s 8 0
unfolding definition_bits_of
level_bits_some level s z = rw (ne_eqb (level % 8) 0 z)

bits_max : (d : ColorPlaneDefinition) → definition_bits_of d ≤ 15
unfolding definition_bits_of
bits_max Argb = omega arith
bits_max (AYCoCg level s) =
    ⊎_elim
    (λ (z : level % 8 ≡ 0). omega (arith, level_bits_none level s z))
    (λ (z : level % 8 ≡ 0 → ⊥). some s (level_bits_some level s z))
    (eq_or_ne (level % 8) 0)
  where
    some : (s : Bool) → definition_bits_of (AYCoCg level s) ≡ level % 8 + choose s 8 0 → definition_bits_of (AYCoCg level s) ≤ 15
    some true e = omega arith
    some false e = omega arith

-- it is read back from its byte, if its loss level is valid
back : (rle alpha : Bool) (d : ColorPlaneDefinition) → is_loss_level_invalid_of d ≡ false → header_from_byte_of (header_to_byte_of (header rle alpha d)) ≡ header rle alpha d
unfolding header_to_byte_of definition_bits_of
back rle alpha Argb valid =
    let b = bits false rle alpha in
    let e : 0 + choose rle 16 0 + choose alpha 0 32 ≡ 0 + 8 * high false rle alpha = omega (arith, b.sum 0) in
    ap header_from_byte_of e
    ∙ header_is 0 (high false rle alpha) (omega arith)
    ∙ (λ i. header (b.rle_is i) (b.alpha_is i) Argb)
back rle alpha (AYCoCg level s) valid =
    let l = loss_level_range level s valid in
    let b = bits s rle alpha in
    let m : level % 8 ≡ level = omega arith in
    let e : definition_bits_of (AYCoCg level s) + choose rle 16 0 + choose alpha 0 32 ≡ level + 8 * high s rle alpha =
    ap (λ (x : ℕ). x + choose rle 16 0 + choose alpha 0 32) (level_bits_some level s (omega arith) ∙ ap (λ (x : ℕ). x + choose s 8 0) m) ∙ b.sum level in
    let some : eqb level 0 ≡ false = ne_eqb level 0 (omega arith) in
    ap header_from_byte_of e
    ∙ header_is level (high s rle alpha) (omega arith)
    ∙ (λ i. header (b.rle_is i) (b.alpha_is i) (choose (some i) Argb (AYCoCg level (b.s_is i))))

pub header_from_its_byte : (h : BitmapStreamHeader) → is_loss_level_invalid_of h.color_plane_definition ≡ false → header_from_byte_of (header_to_byte_of h) ≡ h
header_from_its_byte h valid = back h.enable_rle_compression h.use_alpha h.color_plane_definition valid

-- bits 6 and 7 are written 0
pub header_byte_below_64 : (h : BitmapStreamHeader) → header_to_byte_of h < 64
unfolding header_to_byte_of
header_byte_below_64 h = go h.enable_rle_compression h.use_alpha h.color_plane_definition
  where
    go : (rle alpha : Bool) (d : ColorPlaneDefinition) → header_to_byte_of (header rle alpha d) < 64
    go true true d = omega (arith, bits_max d)
    go true false d = omega (arith, bits_max d)
    go false true d = omega (arith, bits_max d)
    go false false d = omega (arith, bits_max d)

-- bit 3 is written 0 if bits 0 to 2 are
pub bit_3_written_0 : (h : BitmapStreamHeader) → header_to_byte_of h % 8 ≡ 0 → header_to_byte_of h / 8 % 2 ≡ 0
unfolding header_to_byte_of definition_bits_of
bit_3_written_0 h = go h.enable_rle_compression h.use_alpha h.color_plane_definition
  where
    none : (rle alpha : Bool) (x : ℕ) → x ≡ 0 → (x + choose rle 16 0 + choose alpha 0 32) / 8 % 2 ≡ 0
    none true true x z = omega arith
    none true false x z = omega arith
    none false true x z = omega arith
    none false false x z = omega arith

    some : (rle alpha s : Bool) (x y : ℕ) → 1 ≤ y → y < 8 → x ≡ y + choose s 8 0 → (x + choose rle 16 0 + choose alpha 0 32) % 8 ≡ 0 → ⊥
    some true true true x y l m e z = omega arith
    some true true false x y l m e z = omega arith
    some true false true x y l m e z = omega arith
    some true false false x y l m e z = omega arith
    some false true true x y l m e z = omega arith
    some false true false x y l m e z = omega arith
    some false false true x y l m e z = omega arith
    some false false false x y l m e z = omega arith

    go : (rle alpha : Bool) (d : ColorPlaneDefinition) → header_to_byte_of (header rle alpha d) % 8 ≡ 0 → header_to_byte_of (header rle alpha d) / 8 % 2 ≡ 0
    go rle alpha Argb z = none rle alpha 0 refl
    go rle alpha (AYCoCg level s) z =
        ⊎_elim
        (λ (n : level % 8 ≡ 0). none rle alpha (definition_bits_of (AYCoCg level s)) (level_bits_none level s n))
        (λ (n : level % 8 ≡ 0 → ⊥).
        absurd (some rle alpha s (definition_bits_of (AYCoCg level s)) (level % 8) (omega arith) (omega arith) (level_bits_some level s n) z))
        (eq_or_ne (level % 8) 0)

-- ---- bits that are ignored

parity : (x t : ℕ) → (x + 2 * t) % 2 ≡ x % 2
parity x t = omega arith

-- bits 6 and 7
pub top_bits_ignored : (byte t : ℕ) → header_from_byte_of (byte + 64 * t) ≡ header_from_byte_of byte
unfolding header_from_byte_of definition_from_byte_of
top_bits_ignored byte t =
    let e : (byte + 64 * t) % 8 ≡ byte % 8 = omega arith in
    let q₈ : (byte + 64 * t) / 8 ≡ byte / 8 + 2 * (4 * t) = omega arith in
    let q₁₆ : (byte + 64 * t) / 16 ≡ byte / 16 + 2 * (2 * t) = omega arith in
    let q₃₂ : (byte + 64 * t) / 32 ≡ byte / 32 + 2 * t = omega arith in
    let p₈ : (byte + 64 * t) / 8 % 2 ≡ byte / 8 % 2 = ap (λ (n : ℕ). n % 2) q₈ ∙ parity (byte / 8) (4 * t) in
    let p₁₆ : (byte + 64 * t) / 16 % 2 ≡ byte / 16 % 2 = ap (λ (n : ℕ). n % 2) q₁₆ ∙ parity (byte / 16) (2 * t) in
    let p₃₂ : (byte + 64 * t) / 32 % 2 ≡ byte / 32 % 2 = ap (λ (n : ℕ). n % 2) q₃₂ ∙ parity (byte / 32) t in
    λ i. header (eqb (p₁₆ i) 1) (not (eqb (p₃₂ i) 1)) (choose (eqb (e i) 0) Argb (AYCoCg (e i) (eqb (p₈ i) 1)))

-- bit 3, if bits 0 to 2 are 0
pub bit_3_ignored : (k : ℕ) → header_from_byte_of (16 * k + 8) ≡ header_from_byte_of (16 * k)
bit_3_ignored k =
    let e : 16 * k + 8 ≡ 0 + 8 * (2 * k + 1) = omega arith in
    let f : 16 * k ≡ 0 + 8 * (2 * k) = omega arith in
    let q₂ : (2 * k + 1) / 2 ≡ 2 * k / 2 = omega arith in
    let q₄ : (2 * k + 1) / 4 ≡ 2 * k / 4 = omega arith in
    ap header_from_byte_of e
    ∙ header_is 0 (2 * k + 1) (omega arith)
    ∙ (λ i. header (eqb (q₂ i % 2) 1) (not (eqb (q₄ i % 2) 1)) Argb)
    ∙ sym (ap header_from_byte_of f ∙ header_is 0 (2 * k) (omega arith))
