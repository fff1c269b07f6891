-- The first line of a text goes to the first newline, or to the end of the text. Assumes nothing.
use Rattle.std.proofs.Common.{sym}
use Rattle.case_lines.proofs.Cases.{first_line, last_line}
use Rattle.case_lines.proofs.file.split_line.Goals as goal

pub returns-in-Some-clause-lines : goal.returns-in-Some-clause-lines
returns-in-Some-clause-lines c = rw (c.split_at.ensures.front, c.split_at.ensures.back) (first_line c.args.text.now c.in-Some.end (sym c.in-Some.ensures.value))

pub returns-in-None-clause-lines : goal.returns-in-None-clause-lines
returns-in-None-clause-lines c = rw c.as_slice.ensures (last_line c.args.text.now c.requires (sym c.in-None.ensures.value))
