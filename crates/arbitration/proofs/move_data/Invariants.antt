-- The loop's invariant: the data from q on move as all do.
use Prim.Native.Nat.{◌-◌}
use Rattle.arbitration.specs.After.{payload_without}
use mathlib.Core.Path.{◌≡◌}
use Rattle.arbitration.proofs.move_data.Given as goal

abbrev pub invariant-loop-q : goal.invariant-loop-q
invariant-loop-q l =
    payload_without l.four l.at l.q (l.last - l.q) l.payload ≡ payload_without l.four l.at l.position (l.last - l.position) l.initial.payload
