-- `level_of`: each return is a case of `c_level`.
use Rattle.std.proofs.Common.{le-leb}
use borrow.Author.Tests.{lt-leb}
use Rattle.rdp6.specs.Header.{c_level}
use Rattle.rdp6.proofs.level_of.Goals as goal

pub returns-then-level-gt7 : goal.returns-then-level-gt7
unfolding c_level
returns-then-level-gt7 c = simp (lt-leb _ _ c.if-level-gt7.true)

pub returns : goal.returns
unfolding c_level
returns c = simp (le-leb _ _ c.if-level-gt7.false)
