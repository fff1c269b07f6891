-- The examples hold.
use mathlib.Core.Path.{◌≡◌, refl}
use mathlib.Core.List.{map}
use Rattle.rle_format.specs.Sides.{check_sides_of}
use Rattle.rle_format.specs.Slice.{write_at}
use Rattle.bitmap_format.specs.Planes.{chroma_side_of, first_plane, second_plane, third_plane, colour_planes}
use Rattle.bitmap_format.specs.Pixels.{alpha_at}
use Rattle.bitmap_format.specs.Sizes.{sum_over, row_size, image_size_of}
use Rattle.bitmap_format.specs.Image.{sample, chroma_index, colour_at, concat_up_to, image_row, write_rows}
use Rattle.bitmap_format.specs.Picture.{is_loss_level_invalid_of}
use Rattle.bitmap_image.specs.WritePlanes.{planes_fit, write_planes_of}
use Rattle.bitmap_image.specs.Examples.{examples, computed, expected}

pub examples_hold : map computed examples ≡ map expected examples
unfolding check_sides_of write_at chroma_side_of first_plane second_plane third_plane colour_planes alpha_at sum_over row_size image_size_of sample chroma_index colour_at concat_up_to image_row write_rows is_loss_level_invalid_of planes_fit write_planes_of
examples_hold = refl
