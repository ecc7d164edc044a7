-- The fill grows by what is owed, and the losers stay or go.
use Rattle.arbitration.specs.After.{entry_after}
use native.Mathlib.Omega.{arith}
use Rattle.arbitration.proofs.News.entry_after.Goals as goal

pub overflow_cast-fill : goal.overflow_cast-fill
overflow_cast-fill c = omega (arith, c.owed_length.ensures, c.requires)

pub overflow_add-fill : goal.overflow_add-fill
overflow_add-fill c = omega (arith, c.owed_length.ensures, c.requires)

pub returns : goal.returns
unfolding entry_after
returns c = rw (c.with_pending.ensures, c.with_fill.ensures, c.stay_count-pending.ensures, c.owed_length.ensures)
