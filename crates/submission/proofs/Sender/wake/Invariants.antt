-- The loop's invariant: the nodes from j on, from the present queues, give what all give from the first.
use Prim.Native.Nat.{◌-◌, ◌+◌}
use Rattle.submission.specs.Carrying.{wakeups_laid}
use Rattle.submission.specs.Counting.{wakeup_room}
use mathlib.Core.Bool.{true}
use mathlib.Core.Path.{◌≡◌}
use Rattle.submission.proofs.Sender.wake.Given as goal

abbrev pub invariant-loop-j : goal.invariant-loop-j
invariant-loop-j l = record {
  room : wakeup_room l.self.state.now.nodes l.self.node (l.u + 1) l.j (l.j-end - l.j) ≡ true;
  given : wakeups_laid l.self.state.now.nodes l.self.node l.u l.j (l.j-end - l.j) l.queues ≡ wakeups_laid l.self.state.now.nodes l.self.node l.u 0 l.j-end l.initial.queues;
}
