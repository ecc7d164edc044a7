-- The loop's invariant: the queues from j on decide as all do.
use Prim.Native.Nat.{◌-◌}
use Rattle.submission.specs.Counting.{wakeup_room}
use mathlib.Core.Path.{◌≡◌}
use Rattle.submission.proofs.Sender.wakeups_have_room.Given as goal

abbrev pub invariant-loop-j : goal.invariant-loop-j
invariant-loop-j l = wakeup_room l.self.state.now.nodes l.self.node l.u l.j (l.j-end - l.j) ≡ wakeup_room l.self.state.now.nodes l.self.node l.u 0 l.j-end
