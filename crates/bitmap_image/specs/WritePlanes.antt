-- The image of a picture, from planes and into an image of any lengths.
use Rattle.std.specs.Prelude.{ℕ, Bool, false, not, ◌&&◌, List, leb, length}
use Rattle.rle_format.specs.Choice.{choose}
use Rattle.rle_format.specs.Sides.{check_sides_of}
use Rattle.bitmap_format.specs.declared.BitmapStreamHeader.{BitmapStreamHeader}
use Rattle.bitmap_format.specs.Pixels.{PixelForm, shown_alpha_size_of}
use Rattle.bitmap_format.specs.Sizes.{colour_planes_size, row_size, image_size_of}
use Rattle.bitmap_format.specs.Image.{image_row, write_rows}
use Rattle.bitmap_format.specs.Picture.{is_loss_level_invalid_of}

-- whether a picture can be written: sides and loss level are valid, planes and image have their minimum sizes. The last three arguments are lengths
unfoldable pub planes_fit : PixelForm → BitmapStreamHeader → (width height planes alpha image : ℕ) → Bool
planes_fit form header width height planes alpha image =
    check_sides_of (λ (_ : ℕ). false) width height
    (leb (image_size_of form width height) image
    && (leb (colour_planes_size header width height) planes
    && (leb (shown_alpha_size_of form header.use_alpha width height) alpha && not (is_loss_level_invalid_of header.color_plane_definition))))

-- the image after the call: unchanged if the picture cannot be written
unfoldable pub write_planes_of : PixelForm → BitmapStreamHeader → (width height : ℕ) (planes alpha image : List ℕ) → List ℕ
write_planes_of form header width height planes alpha image =
    choose (planes_fit form header width height (length planes) (length alpha) (length image))
    (write_rows (row_size form width) (image_row form header.color_plane_definition header.use_alpha width height planes alpha) height image)
    image
