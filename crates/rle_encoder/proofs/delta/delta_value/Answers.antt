-- `delta_value`: the code of the difference that the wrapping subtraction gives.
use Rattle.std.proofs.Common.{◌≡◌, ℕ, ◌+◌, ◌-◌, ◌*◌, ◌%◌, ◌∙◌, arith}
use Rattle.rle_format.proofs.Delta.{delta_code_small, delta_code_large}
use Rattle.rle_encoder.proofs.delta.delta_value.Goals as goal

pub returns-then-d-lt128 : goal.returns-then-d-lt128
returns-then-d-lt128 c =
    let a = c.args in
    let d : ℕ = (a.next + (256 - a.prev)) % 256 in
    let same : (d + d) % 256 ≡ 2 * d = omega arith in
    same ∙ delta_code_small a.prev a.next d (omega arith) (omega arith) (omega arith) c.if-d-lt128.true

pub returns-else-d-lt128 : goal.returns-else-d-lt128
returns-else-d-lt128 c =
    let a = c.args in
    let d : ℕ = (a.next + (256 - a.prev)) % 256 in
    let same : 255 - (d + d) % 256 ≡ 2 * (255 - d) + 1 = omega arith in
    same ∙ delta_code_large a.prev a.next d (omega arith) (omega arith) (omega arith) c.if-d-lt128.false
