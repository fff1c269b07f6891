-- `four_equal`: by its one test.
use Rattle.std.proofs.Common.{◌≡◌, ◌∙◌, Bool, true, false, ◌&&◌, eqb, refl}
use Rattle.std.specs.Int.{from_bool}
use Rattle.rle_format.specs.Choice.{choose}
use Rattle.rle_encoder.specs.RunFlags.{four_equal_of}
use Rattle.rle_encoder.proofs.runs.four_equal.Goals as goal

as_number : (t : Bool) → from_bool t ≡ choose t 1 0
as_number true = refl
as_number false = refl

pub returns : goal.returns
unfolding four_equal_of
returns c = let a = c.args in c.from.ensures ∙ as_number (eqb a.a a.b && eqb a.a a.c && eqb a.a a.d)
