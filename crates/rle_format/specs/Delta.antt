-- Delta coding of rows (FORMAT 4.2, 4.3; MS-RDPEGDI 3.1.9.2). Document 01's term for a row as it is coded: coded values.
use Rattle.std.specs.Prelude.{ℕ, ◌+◌, ◌*◌, ◌-◌, ◌/◌, ◌%◌, List, [], ◌∷◌, ltb, eqb}
use Rattle.std.proofs.Math.Option.{Option, none, some}
use Rattle.rle_format.specs.Choice.{choose}

-- d of FORMAT 4.2: sample − sample above, modulo 256. Subtraction of naturals stops at 0, so 256 is added first
unfoldable pub difference : (above value : ℕ) → ℕ
difference above value = (value + 256 - above) % 256

-- the code of d (FORMAT 4.2)
unfoldable pub delta_code : (above value : ℕ) → ℕ
delta_code above value =
    choose (ltb (difference above value) 128)
    (2 * difference above value)
    (2 * (255 - difference above value) + 1)

-- d from its code (FORMAT 4.3)
unfoldable pub difference_from_code : (code : ℕ) → ℕ
difference_from_code code = choose (eqb (code % 2) 0) (code / 2) (255 - (code - 1) / 2)

-- a sample from its code and the sample above (FORMAT 4.3)
unfoldable pub undo_delta : (above code : ℕ) → ℕ
undo_delta above code = (above + difference_from_code code) % 256

-- f of the values at the same index of two lists
abbrev pub zip_with : (ℕ → ℕ → ℕ) → List ℕ → List ℕ → List ℕ
zip_with f [] ys = []
zip_with f (x ∷ xs) [] = []
zip_with f (x ∷ xs) (y ∷ ys) = f x y ∷ zip_with f xs ys

-- the samples of a row from its coded values; the first row, which has none above it, is not delta coded
abbrev pub restore_row_of : (above : Option (List ℕ)) (codes : List ℕ) → List ℕ
restore_row_of none codes = codes
restore_row_of (some above) codes = zip_with undo_delta above codes
