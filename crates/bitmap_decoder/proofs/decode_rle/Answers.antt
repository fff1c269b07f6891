-- `decode_rle`: a refused plane leaves the image; planes that are read are shown. Assumes nothing.
use Rattle.std.proofs.Common.{length, arith}
use Rattle.bitmap_format.specs.Pixels.{format_to_form}
use Rattle.bitmap_decoder.proofs.Pictures.{WorkRoom, work_room, rle_refused, rle_written}
use Rattle.bitmap_decoder.proofs.decode_rle.Goals as goal
use Rattle.bitmap_decoder.proofs.decode_rle.Goals.{After-alpha_offset-offset}

-- the work area has room for the planes
room : (c : After-alpha_offset-offset) → WorkRoom (format_to_form c.args.picture.format) c.args.picture.header c.args.picture.width c.args.picture.height c.alpha_offset-offset.result (length c.args.work.now)
room c =
    let p = c.args.picture in
    work_room (format_to_form p.format) p.header p.width p.height c.alpha_offset-offset.result (length c.args.work.now) c.requires.0 c.requires.1 c.alpha_offset-offset.ensures

pub returns-in_err-decompress_planes : goal.returns-in_err-decompress_planes
returns-in_err-decompress_planes c =
    let a = c.args in
    let p = c.args.picture in
    let d = c.decompress_planes in
    let o = c.alpha_offset-offset in
    let r = rle_refused (format_to_form p.format) p.header p.width p.height o.result o.ensures a.body.now a.work.now d.new.work a.image.now d.result (d.ensures.answer, d.ensures.slice) _ c.in_err-decompress_planes.was _ c.from_residual.ensures.1 in
    record { answer = r.0; work = r.1.0; image = r.1.1 }

pub slice_bounds-write_planes-count-2 : goal.slice_bounds-write_planes-count-2
slice_bounds-write_planes-count-2 c = omega (arith, (room (goal.at.slice_bounds-write_planes-count-2 c).After-alpha_offset-offset).alpha, c.decompress_planes.auto.work)

pub slice_bounds-write_planes-start-2 : goal.slice_bounds-write_planes-start-2
slice_bounds-write_planes-start-2 c = omega (arith, (room (goal.at.slice_bounds-write_planes-start-2 c).After-alpha_offset-offset).alpha, c.decompress_planes.auto.work)

pub returns : goal.returns
returns c =
    let a = c.args in
    let p = c.args.picture in
    let d = c.decompress_planes in
    let o = c.alpha_offset-offset in
    let m = room (goal.at.returns c).After-alpha_offset-offset in
    let r = rle_written (format_to_form p.format) p.header p.width p.height o.result o.ensures a.body.now a.work.now d.new.work a.image.now d.result (d.ensures.answer, d.ensures.slice) _ c.in_ok-decompress_planes.was p.allowed p.level
    (record { colour = omega (arith, m.colour, d.auto.work); alpha = omega (arith, m.alpha, d.auto.work) }) c.requires.2 c.write_planes.new.image c.write_planes.ensures c.image_size.result c.image_size.ensures in
    record { answer = r.0; work = r.1.0; image = r.1.1 }
