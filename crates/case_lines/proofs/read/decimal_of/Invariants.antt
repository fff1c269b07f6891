-- `decimal_of`: the number so far and the digits that are left make the number of the field. Assumes nothing.
use Rattle.std.proofs.Common.{◌≡◌, drop}
use Rattle.case_lines.specs.Fields.{decimal_from, decimal_in}
use Rattle.case_lines.proofs.read.decimal_of.Given as goal

abbrev pub invariant-loop-byte : goal.invariant-loop-byte
invariant-loop-byte l = decimal_from l.value (drop l.byte-index l.field) ≡ decimal_in l.field
