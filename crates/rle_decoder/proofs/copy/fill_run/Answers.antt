-- `fill_run`: the library's fill, as a write. Assumes nothing.
use Rattle.std.proofs.Common.{◌≡◌, ℕ, ◌+◌, ◌-◌, length, take, drop, replicate, ap, ◌∙◌, arith, length-drop, length-take-le}
use lib.ListN.{length-replicate}
use Rattle.rle_decoder.proofs.Copied.{copied_write_at}
use Rattle.rle_decoder.proofs.copy.fill_run.Goals as goal

pub returns : goal.returns
returns c =
    let a = c.args in
    let n : a.at + a.run - a.at ≡ a.run = omega arith in
    let rest = length-drop a.at a.codes.now in
    let long = length-take-le a.run (drop a.at a.codes.now) (omega arith) in
    let is : c.fill.new.self ≡ replicate a.run a.value =
    c.fill.ensures.after (λ y e. e) ∙ ap (λ (k : ℕ). replicate k a.value) (ap (λ (k : ℕ). length (take k (drop a.at a.codes.now))) n ∙ long) in
    copied_write_at a.codes.now c.fill.new.self (replicate a.run a.value) a.at (a.at + a.run - a.at) is (omega (arith, length-replicate a.run a.value))
