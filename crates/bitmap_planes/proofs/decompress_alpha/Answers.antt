-- `decompress_alpha`: one plane, or none. Assumes nothing.
use Rattle.bitmap_planes.proofs.PlaneSequence.{alpha_plane, no_alpha_plane}
use Rattle.bitmap_planes.proofs.decompress_alpha.Goals as goal

pub returns-then-alpha : goal.returns-then-alpha
returns-then-alpha c =
    let a = c.args in
    let d = c.decompress_plane in
    let r = alpha_plane a.plane.width a.plane.height a.plane.offset a.body.now a.work.now d.new.work a.alpha d.result c.if-alpha.true (d.ensures.answer, d.ensures.slice) in
    record { answer = r.0; slice = r.1 }

pub returns : goal.returns
returns c =
    let a = c.args in
    let r = no_alpha_plane a.plane.width a.plane.height a.plane.offset a.body.now a.work.now a.alpha c.if-alpha.false in
    record { answer = r.0; slice = r.1 }
