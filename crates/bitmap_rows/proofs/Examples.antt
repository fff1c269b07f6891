-- The examples hold: one proof for the list.
use mathlib.Core.Path.{◌≡◌, refl}
use mathlib.Core.List.{map}
use Rattle.rle_format.specs.Slice.{overwrite}
use Rattle.bitmap_format.specs.Colour.{signed_byte, chroma_value_of, clip, ycocg, aycocg_colour}
use Rattle.bitmap_format.specs.Planes.{chroma_side_of}
use Rattle.bitmap_format.specs.Image.{chroma_index, concat_up_to}
use Rattle.bitmap_format.specs.Picture.{is_loss_level_invalid_of}
use Rattle.bitmap_rows.specs.Rows.{samples_fit, row_fits, write_row_of, write_doubled}
use Rattle.bitmap_rows.specs.Examples.{examples, computed, expected}

pub examples_hold : map computed examples ≡ map expected examples
unfolding overwrite signed_byte chroma_value_of clip ycocg aycocg_colour chroma_side_of chroma_index concat_up_to is_loss_level_invalid_of samples_fit row_fits write_row_of write_doubled
examples_hold = refl
