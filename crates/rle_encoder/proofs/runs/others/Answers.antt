-- `others`: no word of flags is greater than that of flags that are all set.
use Rattle.std.proofs.Common.{arith}
use Rattle.rle_encoder.proofs.Flags.{word_most}
use Rattle.rle_encoder.proofs.runs.others.Goals as goal

pub overflow_sub-result : goal.overflow_sub-result
overflow_sub-result g c =
    let w = c.word-else-this-eq0 in
    word_most c.args.flags.now c.args.at c.requires.2 w.result w.ensures

pub returns-then-this-eq0-clause-most : goal.returns-then-this-eq0-clause-most
returns-then-this-eq0-clause-most g c = word_most c.args.flags.now c.args.at c.requires.2 c.word.result c.word.ensures

pub returns-else-this-eq0-clause-word : goal.returns-else-this-eq0-clause-word
returns-else-this-eq0-clause-word g c =
    let w = c.word-else-this-eq0 in
    let most = word_most c.args.flags.now c.args.at c.requires.2 w.result w.ensures in
    (λ e. absurd (omega arith), λ e. omega arith)
