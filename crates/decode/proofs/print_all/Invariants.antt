-- Each reading moves on, and not past the end.
use Rattle.std.proofs.Common.{length, ◌-◌}
use Rattle.decode.proofs.print_all.Given as goal

abbrev pub decreases-loop-item : goal.decreases-loop-item
decreases-loop-item l = length l.s - l.cursor.at
