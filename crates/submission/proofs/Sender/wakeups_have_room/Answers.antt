use Prim.Native.Nat.{◌-◌}
use Rattle.submission.proofs.Wakes.{room-end, room_bad, room-good}
use mathlib.Core.Path.{◌≡◌, sym, ◌∙◌}
use native.Mathlib.Numerals.{add-one}
use native.Mathlib.Omega.{arith}
use Rattle.submission.proofs.Sender.wakeups_have_room.Goals as goal

pub loop-j-init : goal.loop-j-init
loop-j-init c =
    let count = c.args.self.now.state.now.count in
    let all : count - 0 ≡ count = omega arith in
    rw all

pub returns-then-fill_woken-gt-BYTES_PER_QUEUE : goal.returns-then-fill_woken-gt-BYTES_PER_QUEUE
returns-then-fill_woken-gt-BYTES_PER_QUEUE c =
    let l = c.loop-j in
    let a = c.args in
    let n = a.self.now in
    let s = n.state.now in
    sym (room_bad s.nodes n.node a.u l.j s.count (omega arith) (rw (← c.fill_woken.ensures) c.if-fill_woken-gt-BYTES_PER_QUEUE.true)) ∙ l.invariant

pub loop-j-preserved : goal.loop-j-preserved
loop-j-preserved c =
    let l = c.loop-j in
    let a = c.args in
    let n = a.self.now in
    let s = n.state.now in
    rw (add-one l.j) (sym (room-good s.nodes n.node a.u l.j s.count (omega arith) (rw (← c.fill_woken.ensures) c.if-fill_woken-gt-BYTES_PER_QUEUE.false)) ∙ l.invariant)

pub returns : goal.returns
returns c =
    let l = c.loop-j in
    let a = c.args in
    let n = a.self.now in
    let s = n.state.now in
    sym (room-end s.nodes n.node a.u l.j s.count (omega arith)) ∙ l.invariant
