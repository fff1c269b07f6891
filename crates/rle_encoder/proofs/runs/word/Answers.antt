-- `word`: the eight bytes of the array, as one number.
use Rattle.std.proofs.Common.{◌+◌, ◌-◌, take, drop, ◌∙◌}
use Rattle.std.specs.Array.{IsWholeChunk}
use Rattle.rle_encoder.proofs.Words.{eight_as_word}
use Rattle.rle_encoder.proofs.runs.word.Goals as goal

pub returns : goal.returns
returns c =
    let a = c.args in
    let eight : IsWholeChunk (take (a.at + 8 - a.at) (drop a.at a.flags.now)) c.unwrap-eight.result.now 8 = rw c.unwrap-eight.ensures at c.as_array.ensures.cases in
    c.from_le_bytes.ensures ∙ eight_as_word a.flags.now c.unwrap-eight.result.now a.at eight.same
