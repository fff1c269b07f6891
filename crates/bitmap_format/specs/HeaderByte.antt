-- The header byte of a stream (FORMAT 1.2; MS-RDPEGDI 2.2.2.5.1), read and written.
use Rattle.std.specs.Prelude.{ℕ, ◌+◌, ◌/◌, ◌%◌, Bool, not, eqb}
use Rattle.rle_format.specs.Choice.{choose}
use Rattle.bitmap_format.specs.declared.BitmapStreamHeader.{BitmapStreamHeader}
use Rattle.bitmap_format.specs.declared.ColorPlaneDefinition.{ColorPlaneDefinition}
use Rattle.bitmap_format.specs.declared.ColorPlaneDefinition.TheVariants.{Argb, AYCoCg}

-- whether a bit is set: 8 is the value of bit 3, 16 that of bit 4, 32 that of bit 5
abbrev pub is_set : (value byte : ℕ) → Bool
is_set value byte = eqb (byte / value % 2) 1

-- the plane definition, from bits 0 to 3. Loss level 0 is ARGB, for which bit 3 is ignored
unfoldable pub definition_from_byte_of : (byte : ℕ) → ColorPlaneDefinition
definition_from_byte_of byte = choose (eqb (byte % 8) 0) Argb (AYCoCg (byte % 8) (is_set 8 byte))

-- the header record. Bit 4 is RLE, bit 5 is no alpha; bits 6 and 7 are ignored
unfoldable pub header_from_byte_of : (byte : ℕ) → BitmapStreamHeader
header_from_byte_of byte = record {
  enable_rle_compression = is_set 16 byte;
  use_alpha = not (is_set 32 byte);
  color_plane_definition = definition_from_byte_of byte;
}

-- bits 0 to 3: three bits of the loss level, then subsampling, which is 0 if those three are
unfoldable pub definition_bits_of : ColorPlaneDefinition → ℕ
definition_bits_of Argb = 0
definition_bits_of (AYCoCg level subsampling) = choose (eqb (level % 8) 0) 0 (level % 8 + choose subsampling 8 0)

-- the byte of a header record. Bits 6 and 7 are 0
unfoldable pub header_to_byte_of : BitmapStreamHeader → ℕ
header_to_byte_of header =
    definition_bits_of header.color_plane_definition
    + choose header.enable_rle_compression 16 0
    + choose header.use_alpha 0 32
