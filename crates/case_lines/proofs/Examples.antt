-- The examples hold: one proof for the list.
use mathlib.Core.Path.{◌≡◌, refl}
use mathlib.Core.List.{map}
use Rattle.case_lines.specs.Layouts.{layout_of}
use Rattle.case_lines.specs.Examples.{examples, computed, expected}

pub examples_hold : map computed examples ≡ map expected examples
unfolding layout_of
examples_hold = refl
