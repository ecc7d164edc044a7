-- By the kind.
use Rattle.submission.proofs.Settings.{behaviour_byte, rate_kind}
use borrow.Author.Tests.{eq-eqb, ne_eqb}
use borrow.Author.Rules.{rules}
use Rattle.submission.proofs.configuration_effect.Goals as goal

pub overflow_cast-result : goal.overflow_cast-result
overflow_cast-result c = let h = behaviour_byte _ _ c.requires c.if-kind.true in search rules

pub returns-then-kind : goal.returns-then-kind
returns-then-kind c = rw (eq-eqb _ _ c.if-kind.true)

pub overflow_sub-result : goal.overflow_sub-result
overflow_sub-result c = let h = rate_kind _ _ c.requires c.if-kind.false in search rules

pub returns : goal.returns
returns c = rw (ne_eqb _ _ c.if-kind.false)
