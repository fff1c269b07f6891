-- `round_trip`: the prefix theorem for the slices of the call. Assumes nothing.
use Rattle.std.proofs.Common.{sym, ◌∙◌, arith}
use Rattle.rle_round_trip.proofs.RoundTripResult.{count_of_ok, round_trip_result}
use Rattle.rle_round_trip.proofs.round_trip.Goals as goal

pub returns-clause-trip : goal.returns-clause-trip
returns-clause-trip c =
    let a = c.args in
    let pack = c.compress_8bpp_plane in
    let un = c.unpack_prefix in
    let packed = count_of_ok pack.result (sym c.in_ok-map_err.ensures.variant) in
    round_trip_result a.width a.height a.src.now a.packed.now pack.new.dst (λ i. omega (arith, c.type_inv.src i)) pack.ensures.slice packed.0 a.end a.dst.now un.new.dst un.result (sym pack.ensures.answer ∙ packed.1) un.ensures
