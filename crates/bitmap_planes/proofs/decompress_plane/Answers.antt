-- `decompress_plane`: the plane unpacker's contract on a part of the work area, as a write to the work area. Assumes nothing.
use Rattle.bitmap_planes.proofs.PlaneSequence.{plane_is_read}
use Rattle.bitmap_planes.proofs.decompress_plane.Goals as goal

pub returns : goal.returns
returns c =
    let d = c.decompress_8bpp_plane in
    let p = c.args.plane in
    let r = plane_is_read c.args.body.now c.args.work.now d.new.dst p.offset _ p.width p.height c.min-start.ensures d.result d.ensures.answer d.ensures.slice in
    record { answer = r.0; slice = r.1 }
