-- The loop's invariant: the nodes from j on decide as all attached ones do.
use Prim.Native.Nat.{◌-◌}
use Rattle.arbitration.specs.Owed.{room_from}
use mathlib.Core.Path.{◌≡◌}
use Rattle.arbitration.proofs.News.has_room.Given as goal

abbrev pub invariant-loop-j : goal.invariant-loop-j
invariant-loop-j l = room_from l.self.error l.nodes l.self.owner l.self.size l.j (l.attached - l.j) ≡ room_from l.self.error l.nodes l.self.owner l.self.size 0 l.attached
