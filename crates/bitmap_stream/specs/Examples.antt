-- Examples of what the code returns for a split stream, worked out by hand: one constant list, what the definitions compute for each, and what is
-- expected. proofs/Examples.antt has the one proof.
use Rattle.std.specs.Prelude.{ℕ, true, false, List, [], ◌∷◌, length, Result, Ok, Err}
use Rattle.rle_format.specs.declared.Refusal.{Refusal}
use Rattle.rle_format.specs.declared.Refusal.TheVariants.{EmptyStream, MissingPad}
use Rattle.bitmap_format.specs.declared.BitmapStreamHeader.{BitmapStreamHeader}
use Rattle.bitmap_format.specs.declared.ColorPlaneDefinition.TheVariants.{Argb}
use Rattle.bitmap_format.specs.Examples as pictures
use Rattle.bitmap_format.specs.Stream as format
use Rattle.bitmap_stream.specs.declared.Split.{Split}
use Rattle.bitmap_stream.specs.Split.{split_of, body_of}

-- a stream, what the code returns for it, and what that means
pub record Example : Type 0 where
  pub stream : List ℕ
  pub returned : Result Split Refusal
  pub meaning : format.Split

abbrev pub example : (stream : List ℕ) (returned : Result Split Refusal) (meaning : format.Split) → Example
example stream returned meaning = record { stream = stream; returned = returned; meaning = meaning }

-- what it means if the body is read from the stream
abbrev pub read : (stream : List ℕ) → Result Split Refusal → format.Split
read stream (Ok s) = format.split s.header (body_of stream (length s.body.now))
read stream (Err r) = split_of (Err r)

-- what the definitions compute
abbrev pub computed : Example → List format.Split
computed e = split_of e.returned ∷ read e.stream e.returned ∷ format.split_stream_of e.stream ∷ []

-- what is expected
abbrev pub expected : Example → List format.Split
expected e = e.meaning ∷ e.meaning ∷ e.meaning ∷ []

-- ARGB without alpha, RLE and raw
abbrev pub rle : BitmapStreamHeader
rle = pictures.header true false Argb

abbrev pub raw : BitmapStreamHeader
raw = pictures.header false false Argb

-- a body; where it lies in memory does not matter
abbrev pub body : BitmapStreamHeader → List ℕ → Result Split Refusal
body header bytes = Ok (record { header = header; body = record { ref_ptr = (0, 0); now = bytes } })

-- an RLE body up to the end of the stream, and an empty one; a raw body without the pad byte, and an empty one; the two refusals
abbrev pub examples : List Example
examples =
    example (48 ∷ 16 ∷ 7 ∷ 16 ∷ 8 ∷ 16 ∷ 9 ∷ []) (body rle (16 ∷ 7 ∷ 16 ∷ 8 ∷ 16 ∷ 9 ∷ [])) (format.split rle (16 ∷ 7 ∷ 16 ∷ 8 ∷ 16 ∷ 9 ∷ []))
    ∷ example (48 ∷ []) (body rle []) (format.split rle [])
    ∷ example (32 ∷ 7 ∷ 8 ∷ 9 ∷ 0 ∷ []) (body raw (7 ∷ 8 ∷ 9 ∷ [])) (format.split raw (7 ∷ 8 ∷ 9 ∷ []))
    ∷ example (32 ∷ 0 ∷ []) (body raw []) (format.split raw [])
    ∷ example [] (Err EmptyStream) (format.split_refused 13)
    ∷ example (32 ∷ []) (Err MissingPad) (format.split_refused 14)
    ∷ []
