-- A line that begins with `#` is a comment, and the first other line is the case. Assumes nothing.
use Rattle.std.proofs.Common.{sym, ◌∙◌, arith}
use Rattle.std.proofs.lemmas.Grind.{common_steps}
use Rattle.case_lines.proofs.Numbers.{rest_of_rest}
use Rattle.case_lines.proofs.Cases.{case_here, case_later, rest_behind}
use Rattle.case_lines.proofs.file.next_case.Goals as goal

pub returns-then-not-starts_with-clause-meaning : goal.returns-then-not-starts_with-clause-meaning
returns-then-not-starts_with-clause-meaning c =
    let l = c.loop-rest in
    let parts = c.split_line.result in
    sym (case_here l.comments l.rest.now parts.0.now parts.1.now c.split_line.ensures.lines (sym c.if-not-starts_with.ensures.value)) ∙ l.invariant.1.1

pub loop-rest-preserved : goal.loop-rest-preserved
loop-rest-preserved c =
    let l = c.loop-rest in
    let parts = c.split_line.result in
    let rest = rest_of_rest c.args.text.now l.rest.now parts.1.now l.invariant.0 (rest_behind l.rest.now parts.0.now parts.1.now c.split_line.ensures.parts.0) in
    let later = case_later l.comments l.rest.now parts.0.now parts.1.now c.split_line.ensures.lines (sym c.if-not-starts_with.ensures.value) in
    (rest, (grind (arith, common_steps), sym later ∙ l.invariant.1.1))
