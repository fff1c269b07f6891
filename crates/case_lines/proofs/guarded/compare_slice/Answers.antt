-- What `compare_slice` tests of the parts is what is claimed of the array. Assumes nothing.
use Rattle.std.proofs.Common.{◌≡◌, arith, rules}
use Rattle.case_lines.specs.Results.{Tests}
use Rattle.case_lines.proofs.Compared.{compared}
use Rattle.case_lines.proofs.guarded.compare_slice.Goals as goal

pub returns-then-before_unchanged : goal.returns-then-before_unchanged
returns-then-before_unchanged c =
    let a = c.args in
    let bytes : Tests c.eq-bytes_equal.result (c.split_at-2.result.0.now ≡ a.expected.now) = search rules in
    compared a.array.now a.expected.now c.split_at.result.0.now c.split_at.result.1.now c.split_at-2.result.0.now c.split_at-2.result.1.now _ _ (omega arith) c.split_at.ensures.front c.split_at.ensures.back c.split_at-2.ensures.front c.split_at-2.ensures.back bytes c.if-before_unchanged.true c.is_guard_unchanged-before_unchanged.ensures c.is_guard_unchanged-after_unchanged.ensures
