-- Each number that is read is the next one of the line. Assumes nothing.
use Rattle.std.proofs.Common.{◌≡◌, length-set, Some, sym, ap, ◌∙◌}
use Rattle.case_lines.specs.Counts.{IsRest}
use Rattle.case_lines.specs.Fields.{to_read, number_at}
use Rattle.case_lines.proofs.Numbers.{numbers_step, rest_of_rest}
use Rattle.case_lines.proofs.read.next_numbers.Goals as goal

pub loop-number-preserved : goal.loop-number-preserved
loop-number-preserved g c =
    let l = c.loop-number in
    let v = c.in_ok-number.field-0-0 in
    let left = c.in_ok-number.field-0-1.now in
    let read : number_at l.rest.now ≡ Some (v, left) = sym c.next_number.ensures.meaning ∙ ap to_read c.in_ok-number.was in
    let rest : IsRest c.args.line.now left = rest_of_rest c.args.line.now l.rest.now left l.invariant.0 c.in_ok-number.ensures.rest in
    (rest, (simp length-set (l.invariant.1.0), numbers_step l.number-items l.number-index g.row.N v l.rest.now left c.loop-number-test.true l.invariant.1.0 read ∙ l.invariant.1.1))
