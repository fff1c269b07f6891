-- The coded values of one row, from its samples and those of the row above (FORMAT 4.2). Only contracts of inner functions use this.
use Rattle.std.specs.Prelude.{◌≡◌, ℕ, zero, suc, ◌-◌, ◌<◌, List, take, ◌≢◌}
use Rattle.rle_format.specs.Delta.{delta_code, zip_with}
use Rattle.rle_format.specs.Pack.{row_at}
use Rattle.pixel_format.specs.declared.Layout.{Layout}
use Rattle.pixel_format.specs.declared.Layout.TheVariants.{Planar}

-- the coded values of row r; row 0 is not delta coded
abbrev pub code_row_of : (r : ℕ) (above row : List ℕ) → List ℕ
code_row_of zero above row = row
code_row_of (suc r) above row = zip_with delta_code above row

-- an array has the samples of the row above row r, if there is one
abbrev pub HasRowAbove : (width : ℕ) (samples : List ℕ) (r : ℕ) (above : List ℕ) → Type 0
HasRowAbove width samples r above = 0 < r → take width above ≡ row_at width samples (r - 1)

-- the same, if the samples are those of a channel in pixels. Those of a plane are read from its own slice
abbrev pub KeepsRowAbove : Layout → (width : ℕ) (samples : List ℕ) (r : ℕ) (above : List ℕ) → Type 0
KeepsRowAbove layout width samples r above = (layout ≢ Planar) → HasRowAbove width samples r above
