-- What unpacking a prefix of a packing gives (FORMAT 9; document 01, "Words of demand 3"). It is defined from the samples and the packing
-- rules alone, not from what the unpacker does.
use Rattle.std.specs.Prelude.{◌≡◌, ℕ, suc, ◌+◌, ◌*◌, ◌-◌, ◌≤◌, ◌<◌, List, [], ◌∷◌, ◌++◌, leb, length, take, get_or}
use Rattle.rle_format.specs.Choice.{choose}
use Rattle.rle_format.specs.Answer.{Answer, counted, refused}
use Rattle.rle_format.specs.Slice.{overwrite}
use Rattle.rle_format.specs.Segment.{Segment, segment_size, value_count}
use Rattle.rle_format.specs.Pack.{row_segments, row_at, codes_at, packing}

-- a plane that can be packed: sides from 1 to 8,192, and samples enough, each a byte
pub record ValidPlane (width height : ℕ) (samples : List ℕ) : Type 0 where
  pub wide : (1 ≤ width) × (width ≤ 8192)
  pub high : (1 ≤ height) × (height ≤ 8192)
  pub enough : width * height ≤ length samples
  pub are_bytes : (i : ℕ) → get_or samples i 0 < 256

-- the body is the first m of the n bytes of the packing, with anything behind them if m = n and nothing if m < n
pub record PackingPrefix (width height : ℕ) (samples : List ℕ) (m : ℕ) (body : List ℕ) : Type 0 where
  pub following : List ℕ
  pub most : m ≤ length (packing width height samples)
  pub none_if_less : m < length (packing width height samples) → following ≡ []
  pub is : body ≡ take m (packing width height samples) ++ following

-- row r is complete within the m bytes (FORMAT 9.1; document 01: its segments all lie within them)
abbrev pub RowComplete : (width : ℕ) (samples : List ℕ) (m r : ℕ) → Type 0
RowComplete width samples m r = length (packing width (suc r) samples) ≤ m

-- row r is the first that is not complete (document 01: the next row)
abbrev pub FirstIncompleteRow : (width : ℕ) (samples : List ℕ) (m r : ℕ) → Type 0
FirstIncompleteRow width samples m r = (length (packing width r samples) ≤ m) × (m < length (packing width (suc r) samples))

-- how many values the segments have that are complete within the first m bytes (FORMAT 9.1; document 01: a segment that lies whole within
-- them)
unfoldable pub covered_values : List Segment → (m : ℕ) → ℕ
covered_values [] m = 0
covered_values (s ∷ ss) m = choose (leb (segment_size s) m) (value_count s + covered_values ss (m - segment_size s)) 0

-- the same for row r of a plane, whose segments begin where the packing of the rows above it ends
unfoldable pub covered_in_row : (width : ℕ) (samples : List ℕ) (r m : ℕ) → ℕ
covered_in_row width samples r m = covered_values (row_segments (codes_at width samples r)) (m - length (packing width r samples))

-- a plane was packed in n bytes, of which the first m were unpacked into dst: `left` is the destination afterwards, `given` the answer. For
-- every m from 0 to n these fields leave one `left` and one `given` (proofs/Determined.antt)
pub record PrefixResult (width height : ℕ) (samples dst : List ℕ) (m : ℕ) (left : List ℕ) (given : Answer) : Type 0 where
  -- FORMAT 9.2: complete rows have their samples
  pub rows : (r : ℕ) → r < height → RowComplete width samples m r → row_at width left r ≡ row_at width samples r
  -- FORMAT 9.3 and 9.5: if m = n all rows are complete, the answer is n, and the bytes behind the plane are unchanged
  pub all : m ≡ length (packing width height samples)
      → ((r : ℕ) → r < height → RowComplete width samples m r) × (given ≡ counted m) × (left ≡ overwrite dst (take (width * height) samples))
  -- FORMAT 9.4: if m < n the answer is refusal 7, and some row is the first that is not complete
  pub part : m < length (packing width height samples) → (given ≡ refused 7) × ((r : ℕ) × (r < height) × FirstIncompleteRow width samples m r)
  -- FORMAT 9.4 and 9.5: that row has the coded values of its complete segments, and the bytes behind them are unchanged
  pub next : (r : ℕ) → r < height → FirstIncompleteRow width samples m r
      → left ≡ overwrite dst (take (r * width) samples ++ take (covered_in_row width samples r m) (codes_at width samples r))
