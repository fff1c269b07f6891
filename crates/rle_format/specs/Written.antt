-- Segments written into a slice from an index on, as one packer after the other does. Only contracts of inner functions use these.
use Rattle.std.specs.Prelude.{ℕ, ◌-◌, List, length}
use Rattle.rle_format.specs.Answer.{Answer, add_count}
use Rattle.rle_format.specs.Slice.{write_at}
use Rattle.rle_format.specs.Segment.{Segment}
use Rattle.rle_format.specs.Pack.{write_segments}

-- the answer of writing segments into d from index `at` on: the index behind the last, or refusal 12
unfoldable pub answer_at : List Segment → (d : List ℕ) (at : ℕ) → Answer
answer_at ss d at = add_count at (write_segments ss (length d - at)).answer

-- and the slice afterwards
unfoldable pub slice_at : List Segment → (d : List ℕ) (at : ℕ) → List ℕ
slice_at ss d at = write_at d at (write_segments ss (length d - at)).written
