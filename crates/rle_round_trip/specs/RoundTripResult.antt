-- The prefix theorem on real slices: a plane is packed into a slice, and the first `end` bytes of that slice are unpacked into dst. With
-- m = min(end, n) these are the first m bytes of the packing, with whatever the slice held behind them if m = n, and nothing if m < n.
use Rattle.std.specs.Prelude.{◌≡◌, ℕ, ◌*◌, ◌≤◌, ◌<◌, min, List, length, take, Result, Ok, Err}
use Rattle.rle_format.specs.Answer.{Answer, counted, refused, number}
use Rattle.rle_format.specs.Slice.{overwrite}
use Rattle.rle_format.specs.Unpack.{unpack_plane}
use Rattle.rle_format.specs.Pack.{packing}
use Rattle.rle_round_trip.specs.declared.RoundTripError.{RoundTripError}
use Rattle.rle_round_trip.specs.declared.RoundTripError.TheVariants.{NotPacked, TooLong, NotUnpacked}
use Rattle.rle_round_trip.specs.Prefix.{PrefixResult}

-- unpacking the first `end` bytes of `packed` was begun: `given` is its answer and `left` dst afterwards, as `unpack_plane` says
abbrev pub UnpackDone : (width height : ℕ) (packed : List ℕ) (end : ℕ) (dst left : List ℕ) (given : Answer) → Type 0
UnpackDone width height packed end dst left given =
    (end ≤ length packed)
    × (given ≡ (unpack_plane width height (length dst) (take end packed)).answer)
    × (left ≡ overwrite dst (unpack_plane width height (length dst) (take end packed)).written)

-- unpacking the first `end` bytes of `packed`: TooLong if there are fewer, else as `unpack_plane`; `left` is dst afterwards
abbrev pub UnpackResult : (width height : ℕ) (packed : List ℕ) (end : ℕ) (dst left : List ℕ) → Result ℕ RoundTripError → Type 0
UnpackResult width height packed end dst left (Ok n) = UnpackDone width height packed end dst left (counted n)
UnpackResult width height packed end dst left (Err (NotPacked k)) = ⊥
UnpackResult width height packed end dst left (Err TooLong) = (length packed < end) × (left ≡ dst)
UnpackResult width height packed end dst left (Err (NotUnpacked k)) = UnpackDone width height packed end dst left (refused (number k))

-- `made` is the answer of packing and `packed` the slice after it, of which the first `end` bytes were unpacked with the answer `given`. If n bytes
-- were written, they are the packing
abbrev pub TripDone : (width height : ℕ) (samples : List ℕ) (made : Answer) (packed : List ℕ) (end : ℕ) (dst left : List ℕ) (given : Answer) → Type 0
TripDone width height samples made packed end dst left given =
    ((n : ℕ)
    × (made ≡ counted n)
    × (n ≡ length (packing width height samples))
    × (take n packed ≡ packing width height samples)
    × (width * height ≤ length dst → PrefixResult width height samples dst (min end n) left given))
    × UnpackDone width height packed end dst left given

-- `made` is the answer of packing and `packed` the slice after it. One result and one `left` are possible (proofs/RoundTripResult.antt:
-- round_trip_determined)
abbrev pub RoundTripResult : (width height : ℕ) (samples : List ℕ) (made : Answer) (packed : List ℕ) (end : ℕ) (dst left : List ℕ) → Result ℕ RoundTripError → Type 0
RoundTripResult width height samples made packed end dst left (Ok n) = TripDone width height samples made packed end dst left (counted n)
RoundTripResult width height samples made packed end dst left (Err (NotPacked k)) = (made ≡ refused (number k)) × (left ≡ dst)
RoundTripResult width height samples made packed end dst left (Err TooLong) =
    ((n : ℕ) × (made ≡ counted n)) × UnpackResult width height packed end dst left (Err TooLong)
RoundTripResult width height samples made packed end dst left (Err (NotUnpacked k)) = TripDone width height samples made packed end dst left (refused (number k))
