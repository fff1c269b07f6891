use Rattle.std.proofs.Common.{refl, ◌∙◌, sym, arith}
use Rattle.bitmap_rows.proofs.PixelLoop.{pixels_start, pixels_step, pixels_end}
use Rattle.bitmap_rows.proofs.pixel.write_each.Goals as goal

pub loop-i-init : goal.loop-i-init
loop-i-init g c = λ f sized is. pixels_start _ f

pub loop-i-preserved : goal.loop-i-preserved
loop-i-preserved g c =
    λ f sized is.
    pixels_step c.SIZE.result c.args.dst.now f (λ i. sized i ∙ sym c.SIZE.ensures) c.loop-i.dst c.store.new.dst c.loop-i.i _ _ (c.loop-i.invariant f sized is)
    (is c.loop-i.i c.pixel.result c.loop-i-test.true c.pixel.ensures) refl c.store.auto.dst c.store.ensures

pub returns : goal.returns
returns g c = λ f sized is. pixels_end _ _ _ _ f (c.loop-i.invariant f sized is) (omega arith)
