-- Examples of rows, worked out by hand: one constant list, what the definitions compute for each, and what is expected.
-- proofs/Examples.antt has the one proof.
use Rattle.std.specs.Prelude.{ℕ, Bool, true, false, List, [], ◌∷◌}
use Rattle.pixel_format.specs.Channel.{bgr_a, a_rgb}
use Rattle.bitmap_format.specs.declared.ColorPlaneDefinition.{ColorPlaneDefinition}
use Rattle.bitmap_format.specs.declared.ColorPlaneDefinition.TheVariants.{Argb, AYCoCg}
use Rattle.bitmap_format.specs.Pixels.{PixelForm, three_bytes, four_bytes}
use Rattle.bitmap_rows.specs.Rows.{write_row_of, full_chroma, write_doubled}

pub data Example : Type 0 where
  -- a row with its destination, and the destination after the call
  row : PixelForm → ColorPlaneDefinition → (flagged : Bool) (first second third alpha : List ℕ) (width : ℕ) (dst after : List ℕ) → Example
  -- the same for a row whose chroma rows have a sample for each column
  full : PixelForm → ColorPlaneDefinition → (flagged : Bool) (first second third alpha : List ℕ) (width : ℕ) (dst after : List ℕ) → Example
  -- chroma samples with their destination, and the destination after the call
  samples : (samples : List ℕ) (width : ℕ) (dst after : List ℕ) → Example

-- what the definitions compute
abbrev pub computed : Example → List ℕ
computed (row form d flagged first second third alpha width dst after) = write_row_of form d flagged first second third alpha width dst
computed (full form d flagged first second third alpha width dst after) = write_row_of form (full_chroma d) flagged first second third alpha width dst
computed (samples s width dst after) = write_doubled s width dst

-- what is expected
abbrev pub expected : Example → List ℕ
expected (row form d flagged first second third alpha width dst after) = after
expected (full form d flagged first second third alpha width dst after) = after
expected (samples s width dst after) = after

-- two columns of ARGB in three bytes, with a byte behind them, and in four, with alpha behind the colour and before it
abbrev pub argb_examples : List Example → List Example
argb_examples rest =
    row three_bytes Argb true (1 ∷ 2 ∷ []) (3 ∷ 4 ∷ []) (5 ∷ 6 ∷ []) [] 2 (0 ∷ 0 ∷ 0 ∷ 0 ∷ 0 ∷ 0 ∷ 9 ∷ []) (1 ∷ 3 ∷ 5 ∷ 2 ∷ 4 ∷ 6 ∷ 9 ∷ [])
    ∷ row (four_bytes bgr_a) Argb true (1 ∷ 2 ∷ []) (3 ∷ 4 ∷ []) (5 ∷ 6 ∷ []) (7 ∷ 8 ∷ []) 2 (0 ∷ 0 ∷ 0 ∷ 0 ∷ 0 ∷ 0 ∷ 0 ∷ 0 ∷ 9 ∷ []) (5 ∷ 3 ∷ 1 ∷ 7 ∷ 6 ∷ 4 ∷ 2 ∷ 8 ∷ 9 ∷ [])
    ∷ full (four_bytes a_rgb) Argb false (1 ∷ 2 ∷ []) (3 ∷ 4 ∷ []) (5 ∷ 6 ∷ []) (7 ∷ 8 ∷ []) 2 (0 ∷ 0 ∷ 0 ∷ 0 ∷ 0 ∷ 0 ∷ 0 ∷ 0 ∷ []) (7 ∷ 1 ∷ 3 ∷ 5 ∷ 8 ∷ 2 ∷ 4 ∷ 6 ∷ [])
    ∷ rest

-- three columns of AYCoCg: subsampled, with chroma samples for two columns and for one; full; and full because its samples are doubled
abbrev pub aycocg_examples : List Example → List Example
aycocg_examples rest =
    row three_bytes (AYCoCg 1 true) true (100 ∷ 101 ∷ 102 ∷ []) (10 ∷ 0 ∷ []) (20 ∷ 0 ∷ []) [] 3 (0 ∷ 0 ∷ 0 ∷ 0 ∷ 0 ∷ 0 ∷ 0 ∷ 0 ∷ 0 ∷ [])
    (90 ∷ 120 ∷ 70 ∷ 91 ∷ 121 ∷ 71 ∷ 102 ∷ 102 ∷ 102 ∷ [])
    ∷ row three_bytes (AYCoCg 1 false) false (100 ∷ 101 ∷ []) (10 ∷ 0 ∷ []) (20 ∷ 0 ∷ []) [] 2 (0 ∷ 0 ∷ 0 ∷ 0 ∷ 0 ∷ 0 ∷ []) (70 ∷ 120 ∷ 90 ∷ 101 ∷ 101 ∷ 101 ∷ [])
    ∷ full (four_bytes bgr_a) (AYCoCg 1 true) true (100 ∷ 101 ∷ []) (10 ∷ 0 ∷ []) (20 ∷ 0 ∷ []) (7 ∷ 8 ∷ []) 2 (0 ∷ 0 ∷ 0 ∷ 0 ∷ 0 ∷ 0 ∷ 0 ∷ 0 ∷ [])
    (70 ∷ 120 ∷ 90 ∷ 7 ∷ 101 ∷ 101 ∷ 101 ∷ 8 ∷ [])
    ∷ rest

-- a loss level that is refused; a row too short of each kind; a destination too short
abbrev pub unfit_examples : List Example → List Example
unfit_examples rest =
    row three_bytes (AYCoCg 0 false) true (1 ∷ []) (2 ∷ []) (3 ∷ []) [] 1 (4 ∷ 5 ∷ 6 ∷ []) (4 ∷ 5 ∷ 6 ∷ [])
    ∷ row three_bytes Argb true (1 ∷ []) (2 ∷ 2 ∷ []) (3 ∷ 3 ∷ []) [] 2 (4 ∷ 5 ∷ 6 ∷ 7 ∷ 8 ∷ 9 ∷ []) (4 ∷ 5 ∷ 6 ∷ 7 ∷ 8 ∷ 9 ∷ [])
    ∷ row three_bytes Argb true (1 ∷ 1 ∷ []) (2 ∷ []) (3 ∷ 3 ∷ []) [] 2 (4 ∷ 5 ∷ 6 ∷ 7 ∷ 8 ∷ 9 ∷ []) (4 ∷ 5 ∷ 6 ∷ 7 ∷ 8 ∷ 9 ∷ [])
    ∷ row three_bytes Argb true (1 ∷ 1 ∷ []) (2 ∷ 2 ∷ []) (3 ∷ []) [] 2 (4 ∷ 5 ∷ 6 ∷ 7 ∷ 8 ∷ 9 ∷ []) (4 ∷ 5 ∷ 6 ∷ 7 ∷ 8 ∷ 9 ∷ [])
    ∷ row (four_bytes bgr_a) Argb true (1 ∷ []) (2 ∷ []) (3 ∷ []) [] 1 (4 ∷ 5 ∷ 6 ∷ 7 ∷ []) (4 ∷ 5 ∷ 6 ∷ 7 ∷ [])
    ∷ row three_bytes Argb true (1 ∷ []) (2 ∷ []) (3 ∷ []) [] 1 (4 ∷ 5 ∷ []) (4 ∷ 5 ∷ [])
    ∷ rest

-- then samples doubled for three columns, with a byte behind them; too few samples; too little room
abbrev pub examples : List Example
examples =
    argb_examples (aycocg_examples (unfit_examples
    (samples (1 ∷ 2 ∷ []) 3 (0 ∷ 0 ∷ 0 ∷ 9 ∷ []) (1 ∷ 1 ∷ 2 ∷ 9 ∷ [])
    ∷ samples (1 ∷ []) 3 (7 ∷ 8 ∷ 9 ∷ []) (7 ∷ 8 ∷ 9 ∷ [])
    ∷ samples (1 ∷ 2 ∷ []) 3 (8 ∷ 9 ∷ []) (8 ∷ 9 ∷ [])
    ∷ [])))
