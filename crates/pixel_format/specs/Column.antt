-- One byte of each pixel of a slice. Only contracts of inner functions use these.
use Rattle.std.specs.Prelude.{◌≡◌, ℕ, ◌+◌, ◌/◌, ◌<◌, List, length, get_or}
use Rattle.pixel_format.specs.declared.column.Column.{Column}
use Rattle.pixel_format.specs.Channel.{strided}

-- the bytes at its offset, of each complete pixel
abbrev pub samples_at : Column → List ℕ
samples_at c = strided 4 c.offset (length c.pixels.now / 4) c.pixels.now

-- the first n bytes of d are the samples from sample `from` on
abbrev pub IsCopied : (samples : List ℕ) (from : ℕ) (d : List ℕ) (n : ℕ) → Type 0
IsCopied samples from d n = (k : ℕ) → k < n → get_or d k 0 ≡ get_or samples (from + k) 0
