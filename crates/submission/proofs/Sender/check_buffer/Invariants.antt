-- The loop's invariant: the items from the position on, from where the pass stands, decide as all do.
use Prim.Native.Nat.{◌-◌}
use Rattle.submission.proofs.Turns.{Checking}
use lib.ListN.{length}
use Rattle.submission.proofs.Sender.check_buffer.Given as goal

abbrev pub invariant-loop-step : goal.invariant-loop-step
invariant-loop-step l = Checking l.self.state.now l.self.node l.buffer l.at l.wakeups l.d

abbrev pub decreases-loop-step : goal.decreases-loop-step
decreases-loop-step l = length l.buffer - l.at
