-- The line has gained a blank a turn.
use Rattle.std.proofs.Common.{◌≡◌}
use Rattle.lines.specs.Text.{after_all, blanks}
use Rattle.lines.proofs.Line.fill.Given as goal

abbrev pub invariant-loop : goal.invariant-loop
invariant-loop l = l.self ≡ after_all l.fn.self (blanks l.counter)
