-- The prefix theorem (FORMAT 9; demand 3 of the customer), as one claim about every plane, every m and every destination.
-- proofs/Theorem.antt proves it.
use Rattle.std.specs.Prelude.{ℕ, ◌*◌, ◌≤◌, List, length}
use Rattle.rle_format.specs.Slice.{overwrite}
use Rattle.rle_format.specs.Unpack.{unpack_plane}
use Rattle.rle_round_trip.specs.Prefix.{ValidPlane, PackingPrefix, PrefixResult}

-- the destination afterwards and the answer are those that the contract of `decompress_8bpp_plane` gives
abbrev pub PrefixClaim : Type 0
PrefixClaim =
    (width height : ℕ) (samples : List ℕ) → ValidPlane width height samples
    → (m : ℕ) (body : List ℕ) → PackingPrefix width height samples m body
    → (dst : List ℕ) → width * height ≤ length dst
    → PrefixResult width height samples dst m
    (overwrite dst (unpack_plane width height (length dst) body).written)
    (unpack_plane width height (length dst) body).answer
