-- Node by node, each by its own length.
use Rattle.arbitration.proofs.Lengths.{owed-short, size_short}
use Rattle.arbitration.proofs.Rooms.{room_bad, room-good, room-end}
use Rattle.bus_state.specs.Memory.{node_state}
use lib.Dec.{eqb}
use mathlib.Core.Path.{sym, ◌∙◌}
use native.Mathlib.Numerals.{add-one}
use native.Mathlib.Omega.{arith}
use Rattle.arbitration.proofs.News.has_room.Goals as goal

pub overflow_add-d : goal.overflow_add-d
overflow_add-d c =
    let j = c.loop-j.j in
    let n = c.args.self.now in
    rw c.owed_length.ensures (omega (arith, owed-short n.error (node_state c.args.s j) (eqb j n.owner) n.size (size_short n.op n.sized n.short)))

pub returns-then-d-owed_length-gt-BYTES_PER_QUEUE : goal.returns-then-d-owed_length-gt-BYTES_PER_QUEUE
returns-then-d-owed_length-gt-BYTES_PER_QUEUE c =
    let l = c.loop-j in
    let a = c.args in
    let n = a.self.now in
    let h = rw c.owed_length.ensures at c.if-d-owed_length-gt-BYTES_PER_QUEUE.true in
    sym (room_bad n.error a.s.nodes n.owner n.size l.j a.s.count (omega arith) (omega (arith, h))) ∙ l.invariant

pub loop-j-preserved : goal.loop-j-preserved
loop-j-preserved c =
    let l = c.loop-j in
    let a = c.args in
    let n = a.self.now in
    let h = rw c.owed_length.ensures at c.if-d-owed_length-gt-BYTES_PER_QUEUE.false in
    let now = room-good n.error a.s.nodes n.owner n.size l.j a.s.count (omega arith) (omega (arith, h)) in
    rw (add-one l.j) (sym now ∙ l.invariant)

pub returns : goal.returns
returns c =
    let a = c.args in
    let n = a.self.now in
    let l = c.loop-j in
    sym (room-end n.error a.s.nodes n.owner n.size l.j a.s.count (omega arith)) ∙ l.invariant
