-- What the code returns for a split stream.
use Rattle.std.specs.Prelude.{ℕ, List, take, drop, Result, Ok, Err}
use Rattle.rle_format.specs.declared.Refusal.{Refusal}
use Rattle.rle_format.specs.Answer.{number}
use Rattle.bitmap_format.specs.Stream as format
use Rattle.bitmap_stream.specs.declared.Split.{Split}

abbrev pub split_of : Result Split Refusal → format.Split
split_of (Ok s) = format.split s.header s.body.now
split_of (Err r) = format.split_refused (number r)

-- the body of a stream, from how many bytes it has: it begins behind the header byte
abbrev pub body_of : (stream : List ℕ) (length : ℕ) → List ℕ
body_of stream length = take length (drop 1 stream)
