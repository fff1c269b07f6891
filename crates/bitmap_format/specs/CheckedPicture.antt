-- What checking a picture returns, as numbers (FORMAT 8.1).
use Rattle.std.specs.Prelude.{ℕ, Result, Ok, Err}
use Rattle.rle_format.specs.declared.Refusal.{Refusal}
use Rattle.rle_format.specs.Answer.{number}
use Rattle.pixel_format.specs.declared.PixelFormat.{PixelFormat}
use Rattle.bitmap_format.specs.declared.BitmapStreamHeader.{BitmapStreamHeader}
use Rattle.bitmap_format.specs.declared.picture.Picture.{Picture}

-- the picture's parts, or the number of the refusal
abbrev pub picture_or_number : Result Picture Refusal → Result (PixelFormat × BitmapStreamHeader × ℕ × ℕ) ℕ
picture_or_number (Ok p) = Ok (p.format, p.header, p.width, p.height)
picture_or_number (Err r) = Err (number r)
