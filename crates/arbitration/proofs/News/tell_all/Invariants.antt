-- The invariants: the entries and the queues from j on become what all do; for one node, the notices from p on, laid from `to` on,
-- give the same as all of its.
use Prim.Native.Nat.{ℕ, ◌+◌, ◌≤◌, ◌-◌}
use Rattle.arbitration.specs.After.{entries_after, queues_after}
use Rattle.bus_state.specs.Memory.{node_state, no_node}
use Rattle.arbitration.specs.Owed.{notices_but}
use Rattle.buffers.specs.Parts.{over}
use lib.ListN.{length, get_or}
use mathlib.Core.Path.{◌≡◌}
use Rattle.arbitration.proofs.News.tell_all.Given as goal

abbrev pub invariant-loop-p : goal.invariant-loop-p
invariant-loop-p l = record {
  few : l.p-end ≤ 32;
  laid :
      over l.queues l.to (notices_but l.ids l.slot l.p (l.p-end - l.p))
      ≡ over l.initial.queues l.initial.to (notices_but l.ids l.slot l.first (l.p-end - l.first));
  room : l.to + length (notices_but l.ids l.slot l.p (l.p-end - l.p)) ≤ length l.queues;
}

abbrev pub invariant-loop-j : goal.invariant-loop-j
invariant-loop-j l = record {
  entries :
      entries_after l.self.error l.s.nodes l.self.owner l.self.size l.j (l.count - l.j) l.after
      ≡ entries_after l.self.error l.s.nodes l.self.owner l.self.size 0 l.count l.s.nodes;
  queues :
      queues_after l.self.error l.s.nodes l.self.owner l.position l.self.op l.ids l.self.bytes.now l.j (l.count - l.j) l.queues
      ≡ queues_after l.self.error l.s.nodes l.self.owner l.position l.self.op l.ids l.self.bytes.now 0 l.count l.initial.queues;
  same : (i : ℕ) → l.j ≤ i → get_or l.after i no_node ≡ node_state l.s i;
}
