-- What the numbers of a C call mean: each determines its definition, and every number that is none is refused with 3. Assumes nothing.
use mathlib.Core.Path.{◌≡◌, refl}
use mathlib.Core.Bool.{Bool, true}
use Prim.Native.Nat.{ℕ, ◌≤◌, ◌<◌}
use native.Mathlib.Omega.{arith}
use borrow.Author.Tests.{le-leb, lt-leb, ne_eqb}
use Rattle.bitmap_format.specs.declared.ColorPlaneDefinition.TheVariants.{Argb, AYCoCg}
use Rattle.bitmap_format.specs.Picture.{is_loss_level_invalid_of}
use Rattle.rdp6.specs.Header.{c_level, c_definition}

-- ARGB, whatever the level is
pub c_argb : (level : ℕ) (s : Bool) → c_definition 0 level s ≡ Argb
unfolding c_definition
c_argb level s = refl

-- a level up to 7 stays as it is
pub c_aycocg : (level : ℕ) (s : Bool) → level ≤ 7 → c_definition 1 level s ≡ AYCoCg level s
unfolding c_definition c_level
c_aycocg level s h = simp (le-leb level 7 h)

-- a level over 7 is refused, however large it is
pub c_level_refused : (level : ℕ) (s : Bool) → 7 < level → is_loss_level_invalid_of (c_definition 1 level s) ≡ true
unfolding c_definition c_level is_loss_level_invalid_of
c_level_refused level s h = simp (lt-leb level 7 h)

-- so is an unknown definition
pub c_definition_refused : (definition level : ℕ) (s : Bool) → 1 < definition → is_loss_level_invalid_of (c_definition definition level s) ≡ true
unfolding c_definition is_loss_level_invalid_of
c_definition_refused definition level s h =
    simp (ne_eqb definition 0 (λ (e : definition ≡ 0). omega (arith, e)), ne_eqb definition 1 (λ (e : definition ≡ 1). omega (arith, e)))
