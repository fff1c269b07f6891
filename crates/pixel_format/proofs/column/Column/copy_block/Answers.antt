-- `Column::copy_block`: one more word, and one more sample from its word.
use Rattle.std.proofs.Common.{◌≡◌, ◌≢◌, ℕ, ◌+◌, ◌*◌, ◌/◌, ◌<◌, length, get_or, arith, ◌∙◌, get_or-set_other, get_or-set_same, below_more}
use Rattle.std.proofs.Math.ListN.{length-set}
use Rattle.pixel_format.specs.Column.{samples_at}
use Rattle.pixel_format.proofs.ChannelSamples.{strided_at}
use Rattle.pixel_format.proofs.column.Column.copy_block.Goals as goal

pub loop-i-preserved : goal.loop-i-preserved
loop-i-preserved g c =
    let i = c.loop-i.i in
    let p = c.args.self.pixels.now in
    let sample : (at : ℕ) → at ≡ (c.args.from + i) * 4 + c.args.self.offset → get_or p at 0 ≡ get_or (samples_at c.args.self) (c.args.from + i) 0 =
    λ at. strided_at 4 c.args.self.offset (length p / 4) p (c.args.from + i) at (omega arith) in (
      simp length-set c.loop-i.invariant.0,
      below_more _ _
          (λ j h. let ne : j ≢ i = omega arith in rw get_or-set_other (c.loop-i.invariant.1 j h))
          (let lt : i < length c.loop-i.word-items = omega arith in rw get_or-set_same (c.word.ensures ∙ sample _ (omega arith))),
    )

pub loop-k-preserved : goal.loop-k-preserved
loop-k-preserved g c =
    let k = c.loop-k.k in
    below_more _ _
    (λ j h. let ne : j ≢ k = omega arith in rw get_or-set_other (c.loop-k.invariant j h))
    (let lt : k < length c.loop-k.dst = omega arith in rw get_or-set_same (c.sample_of.ensures ∙ c.loop-i.invariant.1 k (omega arith)))
