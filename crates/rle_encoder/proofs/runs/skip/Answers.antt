-- `skip`: four words of which none has a flag that is not V.
use Rattle.std.proofs.Common.{◌+◌, arith}
use Rattle.rle_encoder.proofs.Flags.{all_both, four_words_none}
use Rattle.rle_encoder.proofs.runs.skip.Goals as goal

pub loop-p-preserved : goal.loop-p-preserved
loop-p-preserved g c =
    let l = c.loop-p in
    let a = c.args in (
      omega arith,
      omega arith,
      all_both g.row.V a.flags.now a.from l.p (l.p + 32) l.invariant.2
          (four_words_none a.flags.now l.p (λ j f h. c.requires.3 j (omega arith) (omega arith)) g.row.V c.requires.0
          c.others.result c.others-in-loop-p.result c.others-in-loop-p-2.result c.others-in-loop-p-3.result
          c.others.ensures.word c.others-in-loop-p.ensures.word c.others-in-loop-p-2.ensures.word c.others-in-loop-p-3.ensures.word (omega arith)),
    )
