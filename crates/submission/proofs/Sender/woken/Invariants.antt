-- The loop's invariant: the nodes from j on, from the present entries, give what all give from the first.
use Prim.Native.Nat.{◌-◌}
use Rattle.submission.specs.Counting.{wakeup_room, woken_from}
use lib.ListN.{length}
use mathlib.Core.Bool.{true}
use mathlib.Core.Path.{◌≡◌}
use Rattle.submission.proofs.Sender.woken.Given as goal

abbrev pub invariant-loop-j : goal.invariant-loop-j
invariant-loop-j l = record {
  size : length l.nodes ≡ 8;
  room : wakeup_room l.nodes l.self.node l.u l.j (l.j-end - l.j) ≡ true;
  given : woken_from l.nodes l.self.node l.u l.j (l.j-end - l.j) ≡ woken_from l.initial.nodes l.self.node l.u 0 l.j-end;
}
