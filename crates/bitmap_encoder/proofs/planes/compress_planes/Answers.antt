-- `compress_planes`: each turn writes the segments of one plane.
use Rattle.std.proofs.Common.{Ok, Err, ◌+◌, ◌*◌, map, drop, refl, arith}
use Rattle.std.proofs.lemmas.Result.{err_from_is_err_and}
use Rattle.rle_format.proofs.WriteLoop.{write_start, write_end, write_same_rest}
use Rattle.pixel_format.specs.Samples.{samples_in}
use Rattle.bitmap_format.specs.PackPicture.{picture_segments}
use Rattle.bitmap_encoder.proofs.RleBody.{plane_refused, plane_written, plane_within, planes_step, planes_refused, segments_split, long_enough, rest_long_enough_behind, no_segments}
use Rattle.bitmap_encoder.proofs.planes.compress_planes.Goals as goal

pub loop-plane-init : goal.loop-plane-init
loop-plane-init c = (c.requires, write_start (picture_segments c.args.sides.width c.args.sides.height (map samples_in c.args.planes.now)) c.args.dst.now 0 (omega arith))

pub slice_bounds-compress_8bpp_channel-count : goal.slice_bounds-compress_8bpp_channel-count
slice_bounds-compress_8bpp_channel-count c = c.loop-plane.invariant.1.within

pub returns-in_err-at : goal.returns-in_err-at
returns-in_err-at c =
    let a = c.args in
    let s = a.sides in
    let l = c.loop-plane in
    let why = c.in_err-at in
    let now = c.compress_8bpp_channel.new.dst in
    let long = long_enough s.width s.height a.planes.now l.plane-index _ c.loop-plane-test.true l.invariant.0 in
    let wrote = plane_refused s.width s.height _ l.dst now l.at (Err why.field-0.0) s.allowed long why.ensures.answer why.ensures.slice why.field-0.0 refl in
    let head = write_same_rest l.invariant.1 _ (segments_split s.width s.height a.planes.now l.plane-index _ c.loop-plane-test.true) in
    let w = planes_refused s.width s.height _ _ (Err why.field-0.0) wrote (map samples_in (drop (l.plane-index + 1) a.planes.now)) head why.field-0.0 refl in
    let p = err_from_is_err_and c.from_residual.result c.from_residual.ensures.1 in
    record { answer = rw (p.1, p.2) w.0; slice = w.1 }

pub overflow_add-at : goal.overflow_add-at
overflow_add-at c =
    let a = c.args in
    let s = a.sides in
    let l = c.loop-plane in
    let row = c.in_ok-at in
    let long = long_enough s.width s.height a.planes.now l.plane-index _ c.loop-plane-test.true l.invariant.0 in
    let most = plane_within s.width s.height _ l.dst c.compress_8bpp_channel.new.dst l.at (Ok row.field-0) s.allowed long row.ensures.answer row.ensures.slice row.field-0 refl in
    omega (arith, l.invariant.1.within)

pub loop-plane-preserved : goal.loop-plane-preserved
loop-plane-preserved c =
    let a = c.args in
    let s = a.sides in
    let l = c.loop-plane in
    let row = c.in_ok-at in
    let now = c.compress_8bpp_channel.new.dst in
    let long = long_enough s.width s.height a.planes.now l.plane-index _ c.loop-plane-test.true l.invariant.0 in
    let wrote = plane_written s.width s.height _ l.dst now l.at (Ok row.field-0) s.allowed long row.ensures.answer row.ensures.slice row.field-0 refl in
    let head = write_same_rest l.invariant.1 _ (segments_split s.width s.height a.planes.now l.plane-index _ c.loop-plane-test.true) in (
      rest_long_enough_behind (s.width * s.height) a.planes.now l.plane-index c.loop-plane-test.true l.invariant.0,
      planes_step s.width s.height _ _ (Ok (l.at + row.field-0)) wrote (map samples_in (drop (l.plane-index + 1) a.planes.now)) head (l.at + row.field-0) refl,
    )

pub returns : goal.returns
returns c =
    let a = c.args in
    let s = a.sides in
    let l = c.loop-plane in
    let w = write_end l.invariant.1 (no_segments s.width s.height a.planes.now l.plane-index (omega arith)) in
    record { answer = w.0; slice = w.1 }
