-- The header record, from the arguments of a C function.
use Rattle.std.specs.Prelude.{ℕ, Bool, eqb, leb}
use Rattle.rle_format.specs.Choice.{choose}
use Rattle.bitmap_format.specs.declared.BitmapStreamHeader.{BitmapStreamHeader}
use Rattle.bitmap_format.specs.declared.ColorPlaneDefinition.{ColorPlaneDefinition}
use Rattle.bitmap_format.specs.declared.ColorPlaneDefinition.TheVariants.{Argb, AYCoCg}

-- the loss level. A number over 7 is taken for 0, since neither is a level: both are refused with 3 (FORMAT 8.1)
unfoldable pub c_level : (level : ℕ) → ℕ
c_level level = choose (leb level 7) level 0

-- 0 is ARGB, 1 is AYCoCg. An unknown number is taken for AYCoCg with level 0, which is refused with 3
unfoldable pub c_definition : (definition level : ℕ) (subsampling : Bool) → ColorPlaneDefinition
c_definition definition level s = choose (eqb definition 0) Argb (AYCoCg (choose (eqb definition 1) (c_level level) 0) s)

-- the header record (FORMAT 1.3)
abbrev pub c_header : (rle alpha : Bool) (definition level : ℕ) (subsampling : Bool) → BitmapStreamHeader
c_header rle alpha definition level s = record {
  enable_rle_compression = rle;
  use_alpha = alpha;
  color_plane_definition = c_definition definition level s;
}
