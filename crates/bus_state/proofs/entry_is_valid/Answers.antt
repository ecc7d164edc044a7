-- The first test that fails decides.
use Rattle.bus_state.specs.Valid.{valid_entry}
use Rattle.operation.specs.Rules.{all_after, rules, legal}
use borrow.Author.Tests.{le-leb}
use mathlib.Core.Path.{sym, ◌∙◌}
use Rattle.bus_state.proofs.entry_is_valid.Goals as goal

pub returns-then-not-status_is_legal : goal.returns-then-not-status_is_legal
unfolding valid_entry all_after rules legal
returns-then-not-status_is_legal c = rw (sym c.status_is_legal.ensures ∙ c.if-not-status_is_legal.true)

pub returns : goal.returns
unfolding valid_entry all_after rules legal
returns c = rw (sym c.status_is_legal.ensures ∙ c.if-not-status_is_legal.false, sym c.is_behaviour.ensures ∙ c.if-not-is_behaviour.false, sym c.are_non_zero.ensures ∙ c.if-not-are_non_zero.false, le-leb _ _ c.if-d-gt-QUEUE_CAPACITY.false, le-leb _ _ c.if-d-gt-MAX_PENDING.false, c.is_off.ensures)
