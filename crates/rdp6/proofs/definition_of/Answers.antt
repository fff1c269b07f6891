-- `definition_of`: each return is a case of `c_definition`.
use Rattle.std.proofs.Common.{eq-eqb, ne_eqb}
use Rattle.rdp6.specs.Header.{c_definition}
use Rattle.rdp6.proofs.definition_of.Goals as goal

pub returns-then-definition-eq0 : goal.returns-then-definition-eq0
unfolding c_definition
returns-then-definition-eq0 c = simp (eq-eqb _ _ c.if-definition-eq0.true)

pub returns-then-definition-eq1 : goal.returns-then-definition-eq1
unfolding c_definition
returns-then-definition-eq1 c = simp (ne_eqb _ _ c.if-definition-eq0.false, eq-eqb _ _ c.if-definition-eq1.true, c.level_of.ensures)

pub returns : goal.returns
unfolding c_definition
returns c = simp (ne_eqb _ _ c.if-definition-eq0.false, ne_eqb _ _ c.if-definition-eq1.false)
