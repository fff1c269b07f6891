-- `next_other`: a word that is not 0 has the first flag that is not V.
use Rattle.std.proofs.Common.{◌+◌, ◌/◌, refl, arith}
use lib.Count.{count_trailing_zeros}
use Rattle.rle_encoder.proofs.Flags.{all_both, word_first, word_none}
use Rattle.rle_encoder.proofs.runs.next_other.Goals as goal

pub returns-then-w-ne0 : goal.returns-then-w-ne0
returns-then-w-ne0 g c =
    let l = c.loop-p in
    let a = c.args in
    let t = count_trailing_zeros 64 c.others-w.result / 8 in
    let f = word_first a.flags.now l.p (λ j f h. c.requires.3 j (omega arith) (omega arith)) g.row.V c.others-w.result c.requires.0 c.others-w.ensures.word t c.if-w-ne0.true refl in
    (omega arith, omega (arith, f.0), all_both g.row.V a.flags.now a.from l.p (l.p + t) l.invariant.2 f.1, λ h. f.2)

pub loop-p-preserved : goal.loop-p-preserved
loop-p-preserved g c =
    let l = c.loop-p in
    let a = c.args in
    let skip = c.skip-p in
    let none = word_none a.flags.now l.p (λ j f h. c.requires.3 j (omega arith) (omega arith)) g.row.V c.others-w.result c.requires.0 c.others-w.ensures.word c.if-w-ne0.false in (
      omega (arith, skip.ensures.0),
      skip.ensures.1,
      all_both g.row.V a.flags.now a.from l.p skip.result l.invariant.2 (all_both g.row.V a.flags.now l.p (l.p + 8) skip.result none skip.ensures.2),
    )
