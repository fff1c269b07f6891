-- The examples hold: one proof for the list.
use Rattle.std.proofs.Common.{◌≡◌, map, refl}
use Rattle.bitmap_format.specs.Colour.{signed_byte, chroma_value_of, clip, ycocg, aycocg_colour}
use Rattle.bitmap_color.specs.ColourOrBlack.{colour_or_black}
use Rattle.bitmap_color.specs.Examples.{examples, computed, expected}

pub examples_hold : map computed examples ≡ map expected examples
unfolding signed_byte chroma_value_of clip ycocg aycocg_colour colour_or_black
examples_hold = refl
