-- The loop that writes the rows of an image: rows of planes passed as parts of a slice, their bounds, and the invariant.
use Prim.Native.Nat.{ℕ, suc, ◌+◌, ◌*◌, ◌%◌, ◌<◌, ◌≤◌}
use mathlib.Core.Bool.{Bool, true, false, ◌&&◌}
use mathlib.Core.Path.{◌≡◌, refl, sym, ap, ◌∙◌}
use mathlib.Core.List.{List}
use native.Mathlib.Nat.{zero-mul, suc-mul, mul-le-mul, mul-le-mul_right, mul_comm, zero-add}
use native.Mathlib.Numerals.{add-one}
use native.Mathlib.Omega.{arith}
use lib.Dec.{eqb}
use lib.ListN.{length, drop, get_or}
use lib.Seq.{get_or-drop}
use Rattle.rle_format.specs.Choice.{choose}
use Rattle.rle_format.specs.Slice.{overwrite, write_at}
use Rattle.rle_format.proofs.Slice.{suffix, replace_suffix, suffix_drop, length-replace_suffix, suffix_overwrite}
use Rattle.rle_format.proofs.Plane.{area_max}
use Rattle.bitmap_format.specs.declared.ColorPlaneDefinition.{ColorPlaneDefinition}
use Rattle.bitmap_format.specs.declared.ColorPlaneDefinition.TheVariants.{Argb, AYCoCg}
use Rattle.bitmap_format.specs.Colour.{rgb, aycocg_colour}
use Rattle.bitmap_format.specs.Planes.{PlaneAt, subsampled, chroma_side_of, first_plane, second_plane, third_plane, colour_planes}
use Rattle.bitmap_format.specs.Pixels.{PixelForm, bytes_per_pixel_of, pixel_bytes}
use Rattle.bitmap_format.specs.Sizes.{sample_count_of, sum_over, row_size, image_size_of}
use Rattle.bitmap_format.specs.Image.{sample, chroma_index, colour_at, concat_up_to, write_rows}
use Rattle.bitmap_format.specs.Counting.{counter_step, IsChromaStart}
use Rattle.bitmap_format.proofs.Counting.{start_is}
use Rattle.bitmap_format.proofs.Sizes.{chroma_side-max, colour_sum_sides, bytes_per_pixel-max}
use Rattle.bitmap_format.proofs.PixelAt.{place_below}
use Rattle.bitmap_rows.specs.Rows.{row_pixels}
use Rattle.bitmap_image.specs.Rows.{row_with}

-- ---- a row of a plane, passed as the part of the slice from its first sample on

suffix_at : (l : List ℕ) (from column : ℕ) → get_or (suffix l from) column 0 ≡ get_or l (from + column) 0
suffix_at l from column = ap (λ (m : List ℕ). get_or m column 0) (suffix_drop l from) ∙ get_or-drop from l column 0

suffix_sample : (planes : List ℕ) (from : ℕ) (p : PlaneAt) (row : ℕ) → from ≡ p.offset + row * p.width → (column : ℕ) → get_or (suffix planes from) column 0 ≡ sample planes p row column
unfolding sample
suffix_sample planes from p row e column = suffix_at planes from column ∙ ap (λ (k : ℕ). get_or planes (k + column) 0) e

-- the rows of the planes for a row of the picture: cw and ch are the sides of a chroma plane, the chroma rows start at `second` and `third`
module _ (planes : List ℕ) (s : Bool) (width height row cw ch second third : ℕ) (ew : cw ≡ chroma_side_of s width) (eh : ch ≡ chroma_side_of s height)
    (es : IsChromaStart s width (width * height) row second) (et : IsChromaStart s width (width * height + cw * ch) row third) where
  first_is : (column : ℕ) → get_or (suffix planes (row * width)) column 0 ≡ sample planes (first_plane width height) row column
  unfolding first_plane
  first_is = suffix_sample planes (row * width) (first_plane width height) row (sym (zero-add (row * width)))

  second_is : (column : ℕ) → get_or (suffix planes second) column 0 ≡ sample planes (second_plane s width height) (chroma_index s row) column
  unfolding second_plane
  second_is = suffix_sample planes second (second_plane s width height) (chroma_index s row) (start_is s width (width * height) row second es)

  third_is : (column : ℕ) → get_or (suffix planes third) column 0 ≡ sample planes (third_plane s width height) (chroma_index s row) column
  unfolding third_plane
  third_is =
      suffix_sample planes third (third_plane s width height) (chroma_index s row)
      (start_is s width (width * height + cw * ch) row third et ∙ (λ i. width * height + ew i * eh i + chroma_index s row * chroma_side_of s width))

-- where a chroma row starts in another plane, `size` samples behind
pub chroma_behind : (s : Bool) (width offset row start size : ℕ) → IsChromaStart s width offset row start → IsChromaStart s width (offset + size) row (start + size)
chroma_behind s width offset row start size e = omega (arith, e)

-- a row of pixels
suffix_row_is : (form : PixelForm) (d : ColorPlaneDefinition) (flagged : Bool) (planes alpha : List ℕ) (width height row step cw ch second third : ℕ) → cw ≡ chroma_side_of (subsampled d) width
    → ch ≡ chroma_side_of (subsampled d) height → IsChromaStart (subsampled d) width (width * height) row second → IsChromaStart (subsampled d) width (width * height + cw * ch) row third
    → row_pixels form d flagged (suffix planes (row * width)) (suffix planes second) (suffix planes third) (suffix alpha (row * step)) width
    ≡ row_with form d flagged width height planes alpha step row
unfolding colour_at chroma_index
suffix_row_is form Argb flagged planes alpha width height row step cw ch second third ew eh es et =
    λ i. concat_up_to width
    (λ (column : ℕ).
    pixel_bytes form
    (rgb (first_is planes false width height row cw ch second third ew eh es et column i) (second_is planes false width height row cw ch second third ew eh es et column i)
    (third_is planes false width height row cw ch second third ew eh es et column i)) (suffix_at alpha (row * step) column i))
suffix_row_is form (AYCoCg level s) flagged planes alpha width height row step cw ch second third ew eh es et =
    λ i. concat_up_to width
    (λ (column : ℕ).
    pixel_bytes form
    (aycocg_colour flagged level (first_is planes s width height row cw ch second third ew eh es et column i)
    (second_is planes s width height row cw ch second third ew eh es et (chroma_index s column) i)
    (third_is planes s width height row cw ch second third ew eh es et (chroma_index s column) i)) (suffix_at alpha (row * step) column i))

-- the same for rows that a call gave
pub row_is : (form : PixelForm) (d : ColorPlaneDefinition) (flagged : Bool) (planes alpha : List ℕ) (width height row step second third : ℕ) (first_row second_row third_row : List ℕ)
    → IsChromaStart (subsampled d) width (width * height) row second
    → IsChromaStart (subsampled d) width (width * height + chroma_side_of (subsampled d) width * chroma_side_of (subsampled d) height) row third
    → first_row ≡ drop (row * width) planes → second_row ≡ drop second planes → third_row ≡ drop third planes
    → row_pixels form d flagged first_row second_row third_row (suffix alpha (row * step)) width ≡ row_with form d flagged width height planes alpha step row
row_is form d flagged planes alpha width height row step second third first_row second_row third_row counted counted_third ef es et =
    (λ i. row_pixels form d flagged ((ef ∙ sym (suffix_drop planes (row * width))) i) ((es ∙ sym (suffix_drop planes second)) i) ((et ∙ sym (suffix_drop planes third)) i) (suffix alpha (row * step)) width)
    ∙ suffix_row_is form d flagged planes alpha width height row step (chroma_side_of (subsampled d) width) (chroma_side_of (subsampled d) height) second third refl refl counted counted_third

-- ---- where rows start

-- the rows of the image, `pitch` bytes apart
pub index_first : (pitch : ℕ) → 0 ≡ 0 * pitch
index_first pitch = sym (zero-mul pitch)

pub index_next : (row pitch to : ℕ) → to ≡ row * pitch → to + pitch ≡ (row + 1) * pitch
index_next row pitch to e = ap (λ (k : ℕ). k + pitch) e ∙ sym (suc-mul row pitch) ∙ ap (λ (k : ℕ). k * pitch) (sym (add-one row))

-- ---- the room of a row

pub row_within : (row width height : ℕ) → row < height → row * width + width ≤ width * height
row_within row width height h =
    let m : suc row * width ≤ height * width = mul-le-mul_right width (omega arith) in
    omega (arith, suc-mul row width, mul_comm height width)

-- the chroma row of a row lies within its plane
pub chroma_row_within : (s : Bool) (width height row start : ℕ) → row < height → IsChromaStart s width (width * height) row start
    → start + chroma_side_of s width ≤ width * height + chroma_side_of s width * chroma_side_of s height
chroma_row_within s width height row start lr es =
    let within = row_within (chroma_index s row) (chroma_side_of s width) (chroma_side_of s height) (place_below s row height lr) in
    omega (arith, within, start_is s width (width * height) row start es)

-- the planes before the third are small
pub third_start_small : (s : Bool) (width height : ℕ) → width ≤ 8192 → height ≤ 8192 → width * height + chroma_side_of s width * chroma_side_of s height ≤ 134217728
third_start_small s width height lw lh =
    let most : width * height ≤ 67108864 = area_max width height lw lh in
    let chroma_most : chroma_side_of s width * chroma_side_of s height ≤ 67108864 =
    area_max (chroma_side_of s width) (chroma_side_of s height) (omega (arith, chroma_side-max s width)) (omega (arith, chroma_side-max s height)) in
    omega arith

-- so the next chroma row is small as an index, in the third plane too
pub next_start_small : (s : Bool) (width height row start : ℕ) → width ≤ 8192 → height ≤ 8192 → row < height → IsChromaStart s width (width * height) row start
    → start + chroma_side_of s width * chroma_side_of s height + counter_step s (chroma_side_of s width) row ≤ 536870912
unfolding counter_step
next_start_small s width height row start lw lh lr es =
    omega (arith, third_start_small s width height lw lh, chroma_row_within s width height row start lr es, step_most s (chroma_side_of s width) row)
  where
    step_most : (s : Bool) (step n : ℕ) → counter_step s step n ≤ step
    step_most s step n = go (s && eqb (n % 2) 0)
      where
        go : (t : Bool) → choose t 0 step ≤ step
        go true = omega arith
        go false = omega arith

-- the row of the first plane lies within planes of `len` samples
pub first_row_within : (s : Bool) (width height len row : ℕ) → sum_over sample_count_of (colour_planes s width height) ≤ len → row < height → row * width + width ≤ len
first_row_within s width height len row l lr =
    let all : width * height + 2 * (chroma_side_of s width * chroma_side_of s height) ≤ len = rw (colour_sum_sides false s width height) at l in
    omega (arith, row_within row width height lr)

-- where the rows of the planes are, for a row whose chroma row starts at `start`: cw and ch are the sides of a chroma plane, len the length of the planes
pub record RowPlaces (width row start cw ch len : ℕ) : Type 0 where
  pub first_row : row * width + width ≤ len
  pub second_row : start + cw ≤ len
  pub third_row : start + cw * ch + cw ≤ len
  pub small : start + cw * ch ≤ 536870912

pub row_places : (s : Bool) (width height cw ch len row start : ℕ) → width ≤ 8192 → height ≤ 8192 → cw ≡ chroma_side_of s width → ch ≡ chroma_side_of s height
    → sum_over sample_count_of (colour_planes s width height) ≤ len → row < height → start + chroma_side_of s width ≤ width * height + chroma_side_of s width * chroma_side_of s height
    → RowPlaces width row start cw ch len
row_places s width height cw ch len row start lw lh ew eh l lr ls =
    let most : width * height ≤ 67108864 = area_max width height lw lh in
    let chroma_most : cw * ch ≤ 67108864 = area_max cw ch (omega (arith, ew, chroma_side-max s width)) (omega (arith, eh, chroma_side-max s height)) in
    let all : width * height + 2 * (cw * ch) ≤ len = rw (ew, eh) (rw (colour_sum_sides false s width height) at l) in
    let place : start + cw ≤ width * height + cw * ch = rw (ew, eh) ls in
    record { first_row = omega (arith, row_within row width height lr); second_row = omega arith; third_row = omega arith; small = omega arith }

-- the room of a part, which begins at a small number
pub record PartRoom (from need len : ℕ) : Type 0 where
  pub fits : from + need ≤ len
  pub small : from ≤ 536870912

-- a row of the image: `size` is its number of bytes
pub image_room : (form : PixelForm) (row width height len size to : ℕ) → row < height → width ≤ 8192 → height ≤ 8192 → size ≡ bytes_per_pixel_of form * width → image_size_of form width height ≤ len
    → to ≡ row * size → PartRoom to size len
unfolding image_size_of
image_room form row width height len size to lr lw lh es l et =
    let within : row * size + size ≤ size * height = row_within row size height lr in
    let all : size * height ≡ bytes_per_pixel_of form * width * height = ap (λ (k : ℕ). k * height) es in
    let bytes : bytes_per_pixel_of form * width ≤ 4 * 8192 = mul-le-mul (bytes_per_pixel-max form) lw in
    let most : bytes_per_pixel_of form * width * height ≤ 4 * 8192 * 8192 = mul-le-mul bytes lh in
    record { fits = omega arith; small = omega arith }

-- a row of alpha
pub alpha_room : (row step need height len : ℕ) → row < height → height ≤ 8192 → step ≤ 8192 → row * step + need ≤ len → PartRoom (row * step) need len
alpha_room row step need height len lr lh ls l =
    let low : row ≤ 8192 = omega arith in
    let most : row * step ≤ 8192 * 8192 = mul-le-mul low ls in
    record { fits = l; small = omega arith }

-- ---- the rows of an image: d₀ is the image before, d the slice now; f gives a row, `size` is the size of one

pub record ImageInvariant (d₀ d : List ℕ) (row size : ℕ) (f : ℕ → List ℕ) : Type 0 where
  pub len : length d ≡ length d₀
  pub image : d ≡ write_rows size f row d₀

pub image_start : (d : List ℕ) (size : ℕ) (f : ℕ → List ℕ) → ImageInvariant d d 0 size f
unfolding write_rows
image_start d size f = record { len = refl; image = refl }

-- one more row, written to a part of the image
pub image_step : (d₀ d ys vs : List ℕ) (row size to : ℕ) (f : ℕ → List ℕ) → ImageInvariant d₀ d row size f → to ≡ row * size → ys ≡ overwrite (suffix d to) vs → vs ≡ f row
    → length ys ≡ length (suffix d to) → ImageInvariant d₀ (replace_suffix d to ys) (row + 1) size f
unfolding write_rows
image_step d₀ d ys vs row size to f h et e ev same = record {
  len = length-replace_suffix d ys to same ∙ h.len;
  image = suffix_overwrite d ys vs to e
      ∙ (λ i. write_at (h.image i) (et i) (ev i))
      ∙ ap (λ (k : ℕ). write_rows size f k d₀) (sym (add-one row));
}

pub image_end : (d₀ d : List ℕ) (row size height : ℕ) (f : ℕ → List ℕ) → ImageInvariant d₀ d row size f → row ≡ height → d ≡ write_rows size f height d₀
image_end d₀ d row size height f h e = h.image ∙ ap (λ (k : ℕ). write_rows size f k d₀) e

-- the size of a row as the code computes it
pub row_size_is : (form : PixelForm) (width size : ℕ) → size ≡ bytes_per_pixel_of form * width → size ≡ row_size form width
unfolding row_size
row_size_is form width size e = e
