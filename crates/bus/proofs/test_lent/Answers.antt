-- 1 before 3.
use Rattle.bus.specs.Tested.{tested}
use borrow.Author.Tests.{eq-eqb, ne_eqb}
use mathlib.Core.Path.{sym, ◌∙◌}
use Rattle.bus.proofs.test_lent.Goals as goal

pub returns-then-not-are_lent : goal.returns-then-not-are_lent
unfolding tested
returns-then-not-are_lent c = rw (sym c.are_lent.ensures ∙ c.if-not-are_lent.true)

pub returns-then-key-eq-INVALID : goal.returns-then-key-eq-INVALID
unfolding tested
returns-then-key-eq-INVALID c = rw (sym c.are_lent.ensures ∙ c.if-not-are_lent.false, eq-eqb _ _ c.if-key-eq-INVALID.true)

pub returns : goal.returns
unfolding tested
returns c = rw (sym c.are_lent.ensures ∙ c.if-not-are_lent.false, ne_eqb _ _ c.if-key-eq-INVALID.false)
