-- Where the chroma samples of each pixel are, found by counting from pixel to pixel (FORMAT 6.3; document 02, Card 3), and the claim that `chroma_index`
-- gives the same. proofs/Counting.antt has its proof. The invariants of the loops over rows use these, what the loops over columns require of each
-- column (bitmap_rows), and the contracts of the private functions that count (bitmap_image/src/planes.rt).
use Rattle.std.specs.Prelude.{ℕ, zero, suc, ◌+◌, ◌*◌, ◌%◌, ◌<◌, Bool, ◌&&◌, ◌≡◌, eqb, ltb}
use Rattle.rle_format.specs.Choice.{choose}
use Rattle.bitmap_format.specs.Planes.{chroma_side_of}
use Rattle.bitmap_format.specs.Image.{chroma_index}

-- a pixel, with two counters: the index in a chroma plane where its chroma row starts, and its chroma column
pub record CountedPixel : Type 0 where
  pub row : ℕ
  pub column : ℕ
  pub chroma_start : ℕ
  pub chroma_column : ℕ

-- the index of its sample in a chroma plane
abbrev pub sample_index : CountedPixel → ℕ
sample_index p = p.chroma_start + p.chroma_column

-- how far a counter goes on behind row or column n: by `step` or, if subsampled and n is even, not at all
unfoldable pub counter_step : (subsampling : Bool) (step n : ℕ) → ℕ
counter_step s step n = choose (s && eqb (n % 2) 0) 0 step

-- the first pixel of the image
abbrev pub first_pixel : CountedPixel
first_pixel = record { row = 0; column = 0; chroma_start = 0; chroma_column = 0 }

-- the next pixel of the row
unfoldable pub next_in_row : (subsampling : Bool) → CountedPixel → CountedPixel
next_in_row s p = record {
  row = p.row;
  column = p.column + 1;
  chroma_start = p.chroma_start;
  chroma_column = p.chroma_column + counter_step s 1 p.column;
}

-- the first pixel of the next row
unfoldable pub next_row : (subsampling : Bool) (width : ℕ) → CountedPixel → CountedPixel
next_row s width p = record {
  row = p.row + 1;
  column = 0;
  chroma_start = p.chroma_start + counter_step s (chroma_side_of s width) p.row;
  chroma_column = 0;
}

-- the next pixel in the order of the image
unfoldable pub next_pixel : (subsampling : Bool) (width : ℕ) → CountedPixel → CountedPixel
next_pixel s width p = choose (ltb (p.column + 1) width) (next_in_row s p) (next_row s width p)

-- pixel n of the image, from 0 on
unfoldable pub counted_pixel : (subsampling : Bool) (width n : ℕ) → CountedPixel
counted_pixel s width zero = first_pixel
counted_pixel s width (suc n) = next_pixel s width (counted_pixel s width n)

-- ---- the claim

-- the pixel at a row and a column, with its chroma samples by FORMAT 6.3
abbrev pub pixel_by_index : (subsampling : Bool) (width row column : ℕ) → CountedPixel
pixel_by_index s width row column = record {
  row = row;
  column = column;
  chroma_start = chroma_index s row * chroma_side_of s width;
  chroma_column = chroma_index s column;
}

-- what counting gives for the pixel at a row and a column: all of `pixel_by_index`; so the index of its sample, which lies within the chroma plane
pub record FoundByCounting (s : Bool) (width height row column : ℕ) : Type 0 where
  pub pixel : counted_pixel s width (row * width + column) ≡ pixel_by_index s width row column
  pub index : sample_index (counted_pixel s width (row * width + column)) ≡ chroma_index s row * chroma_side_of s width + chroma_index s column
  pub within : sample_index (counted_pixel s width (row * width + column)) < chroma_side_of s width * chroma_side_of s height

-- for every pixel of every picture, odd sides included, subsampled or not
abbrev pub ChromaIndexByCounting : Type 0
ChromaIndexByCounting = (s : Bool) (width height row column : ℕ) → row < height → column < width → FoundByCounting s width height row column

-- ---- what loops say of a counter

-- it is where the chroma row of a row starts, in a plane that starts at `offset`: the one of the row's first pixel
abbrev pub IsChromaStart : (subsampling : Bool) (width offset row counter : ℕ) → Type 0
IsChromaStart s width offset row counter = offset + (counted_pixel s width (row * width)).chroma_start ≡ counter

-- it is the chroma column of a column: the one of the pixel there, in each row of each picture that has this column
abbrev pub IsChromaColumn : (subsampling : Bool) (column counter : ℕ) → Type 0
IsChromaColumn s column counter = (width row : ℕ) → column < width → (counted_pixel s width (row * width + column)).chroma_column ≡ counter
