-- `copy_16`: the bytes go to the array, and from there to the slice. Assumes nothing.
use Rattle.std.proofs.Common.{◌≡◌, ℕ, ◌+◌, ◌-◌, take, drop, ap, ◌∙◌, arith, length-drop, length-take-le}
use Rattle.std.specs.Array.{IsWholeChunk}
use Rattle.rle_decoder.proofs.Copied.{copied_write_at}
use Rattle.rle_decoder.proofs.copy.copy_16.Goals as goal

pub returns : goal.returns
returns c =
    let from = c.args.from in
    let s = c.args.src.now in
    let array : IsWholeChunk (take (from + 16 - from) (drop from s)) c.unwrap.result.now 16 = rw c.unwrap.ensures at c.as_array.ensures.cases in
    let rest = length-drop from s in
    let n : from + 16 - from ≡ 16 = omega arith in
    let bytes = take 16 (drop from s) in
    let is = c.copy_from_slice.ensures.after ∙ array.same ∙ ap (λ (k : ℕ). take k (drop from s)) n in
    let l = length-take-le 16 (drop from s) (omega arith) in
    copied_write_at c.args.codes.now c.copy_from_slice.new.self bytes c.args.at _ is (omega arith)
