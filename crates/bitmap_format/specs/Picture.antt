-- Unpacking a picture: the refusals in their order (FORMAT 8), and the work area and the image after every outcome.
use Rattle.std.specs.Prelude.{ℕ, Bool, false, ◌||◌, List, [], ◌∷◌, length, drop, ltb, eqb}
use Rattle.rle_format.specs.Choice.{choose}
use Rattle.rle_format.specs.Sides.{check_sides_of}
use Rattle.rle_format.specs.Answer.{Answer, counted, refused}
use Rattle.pixel_format.specs.Channel.{ChannelOffsets}
use Rattle.bitmap_format.specs.declared.BitmapStreamHeader.{BitmapStreamHeader}
use Rattle.bitmap_format.specs.declared.ColorPlaneDefinition.{ColorPlaneDefinition}
use Rattle.bitmap_format.specs.declared.ColorPlaneDefinition.TheVariants.{Argb, AYCoCg}
use Rattle.bitmap_format.specs.Checks.{Check, check, first_refusal_of}
use Rattle.bitmap_format.specs.Planes.{PlaneAt, alpha_planes, planes_with_alpha_at}
use Rattle.bitmap_format.specs.Pixels.{PixelForm, three_bytes, four_bytes}
use Rattle.bitmap_format.specs.Sizes.{sample_count_of, sum_over, min_body_size_of, alpha_offset_of, work_size_of, row_size, image_size_of}
use Rattle.bitmap_format.specs.Image.{image_row, write_rows}
use Rattle.bitmap_format.specs.UnpackPlanes.{PlanesOutcome, unpack_planes}

-- the work area and the image after the call, and its answer: the number of bytes written to the image, or a refusal
pub record PictureOutcome : Type 0 where
  pub work : List ℕ
  pub image : List ℕ
  pub answer : Answer

-- a refusal. The image is what it was
abbrev pub refused_picture : (work image : List ℕ) (number : ℕ) → PictureOutcome
refused_picture work image r = record { work = work; image = image; answer = refused r }

-- the condition of refusal 3 (FORMAT 8.1)
unfoldable pub is_loss_level_invalid_of : ColorPlaneDefinition → Bool
is_loss_level_invalid_of Argb = false
is_loss_level_invalid_of (AYCoCg level subsampling) = eqb level 0 || ltb 7 level

-- the checks of a picture, after those of the sides. The last three arguments are the lengths of the slices
abbrev pub picture_checks : PixelForm → BitmapStreamHeader → (width height body work image : ℕ) → List Check
picture_checks form header width height body work image =
    check 3 (is_loss_level_invalid_of header.color_plane_definition)
    ∷ check 4 (ltb body (min_body_size_of header width height))
    ∷ check 5 (ltb work (work_size_of form header width height))
    ∷ check 6 (ltb image (image_size_of form width height))
    ∷ []

-- the answer of all checks: the first refusal, or the size of the image, which is the picture's answer unless one of its planes is refused
unfoldable pub check_picture : PixelForm → BitmapStreamHeader → (width height body work image : ℕ) → Answer
check_picture form header width height body work image =
    check_sides_of refused width height
    (first_refusal_of (picture_checks form header width height body work image) (counted (image_size_of form width height)))

-- the image written from the colour planes at the start of `planes`, and from alpha, if flagged, at the start of `alpha`
unfoldable pub write_image : PixelForm → BitmapStreamHeader → (width height : ℕ) (planes alpha work image : List ℕ) → PictureOutcome
write_image form header width height planes alpha work image = record {
  work = work;
  image = write_rows (row_size form width)
      (image_row form header.color_plane_definition header.use_alpha width height planes alpha)
      height
      image;
  answer = counted (image_size_of form width height);
}

-- a raw picture has its planes in the body, alpha first, and does not use the work area
unfoldable pub unpack_raw : PixelForm → BitmapStreamHeader → (width height : ℕ) (body work image : List ℕ) → PictureOutcome
unpack_raw form header width height body work image =
    write_image form header width height (drop (sum_over sample_count_of (alpha_planes header.use_alpha width height)) body) body work image

-- an RLE picture has its planes in the work area, unless one was refused
unfoldable pub image_from_work : PixelForm → BitmapStreamHeader → (width height : ℕ) (work image : List ℕ) → Answer → PictureOutcome
image_from_work form header width height work image (counted n) =
    write_image form header width height work (drop (alpha_offset_of form header width height) work) work image
image_from_work form header width height work image (refused r) = refused_picture work image r

-- the planes of an RLE picture in the order of the body, with alpha where the pixels need it
abbrev pub planes_for : PixelForm → BitmapStreamHeader → (width height : ℕ) → List PlaneAt
planes_for form header width height = planes_with_alpha_at (alpha_offset_of form header width height) header width height

-- an RLE picture (FORMAT 2.4, 2.5)
unfoldable pub unpack_rle : PixelForm → BitmapStreamHeader → (width height : ℕ) (body work image : List ℕ) → PictureOutcome
unpack_rle form header width height body work image =
    let u : PlanesOutcome = unpack_planes (planes_for form header width height) work body in
    image_from_work form header width height u.work image u.answer

-- unpacking a picture to pixels of either form: refusals 1 to 6, which change nothing, then 7, 8, 9 (FORMAT 8.2, 8.3)
unfoldable pub unpack_to : PixelForm → BitmapStreamHeader → (width height : ℕ) (body work image : List ℕ) → PictureOutcome
unpack_to form header width height body work image =
    elim (check_picture form header width height (length body) (length work) (length image)) [
      | refused r ↦ refused_picture work image r
      | counted n ↦ choose header.enable_rle_compression (unpack_rle form header width height body work image)
          (unpack_raw form header width height body work image)
    ]

-- to R, G and B
abbrev pub unpack_picture : BitmapStreamHeader → (width height : ℕ) (body work image : List ℕ) → PictureOutcome
unpack_picture header width height body work image = unpack_to three_bytes header width height body work image

-- to four-byte pixels with R, G, B and A at these offsets
abbrev pub unpack_pixels : ChannelOffsets → BitmapStreamHeader → (width height : ℕ) (body work image : List ℕ) → PictureOutcome
unpack_pixels p header width height body work image = unpack_to (four_bytes p) header width height body work image
