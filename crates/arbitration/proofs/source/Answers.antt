-- A slot from the removed frame's on, up to the last one, takes what the next one has.
use Rattle.operation.proofs.Tests.{both}
use borrow.Author.Tests.{ltb-true}
use lib.Dec.{leb, ltb}
use native.Mathlib.Omega.{arith}
use borrow.Author.Rules.{rules}
use Rattle.arbitration.proofs.source.Goals as goal

pub returns-then-position-i : goal.returns-then-position-i
returns-then-position-i c =
    let a = c.args in
    (rw c.if-position-i.true, omega (arith, ltb-true a.i a.last (both (leb a.position a.i) (ltb a.i a.last) c.if-position-i.true).1))

pub returns : goal.returns
returns c = (rw c.if-position-i.false, search rules)
