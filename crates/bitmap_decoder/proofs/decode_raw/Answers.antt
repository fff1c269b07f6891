-- `decode_raw`: the colour planes follow alpha in the body. Assumes nothing.
use Rattle.std.proofs.Common.{◌≤◌, length, arith}
use Rattle.bitmap_format.specs.Pixels.{format_to_form}
use Rattle.bitmap_decoder.proofs.Pictures.{start_within, raw_rows}
use Rattle.bitmap_decoder.proofs.decode_raw.Goals as goal
use Rattle.bitmap_decoder.proofs.decode_raw.Goals.{After-alpha_size-start}

-- alpha ends within the body
start : (c : After-alpha_size-start) → c.alpha_size-start.result ≤ length c.args.body.now
start c =
    let p = c.args.picture in
    start_within p.header p.width p.height c.alpha_size-start.result (length c.args.body.now) c.requires.0 c.requires.1 c.alpha_size-start.ensures

pub slice_bounds-write_planes-count : goal.slice_bounds-write_planes-count
slice_bounds-write_planes-count c = start c

pub slice_bounds-write_planes-start : goal.slice_bounds-write_planes-start
slice_bounds-write_planes-start c = omega (arith, start c)

pub returns : goal.returns
returns c =
    let a = c.args in
    let p = c.args.picture in
    let z = c.alpha_size-start in
    raw_rows (format_to_form p.format) p.header p.width p.height z.result a.body.now a.image.now c.write_planes.new.image c.requires.0 p.allowed p.level c.requires.1 c.requires.2 z.ensures c.write_planes.ensures
