use Prim.Native.Nat.{◌-◌}
use Rattle.submission.proofs.Wakes.{room-here, room-past, woken_step, woken_end}
use lib.ListN.{length-set}
use mathlib.Core.Path.{◌≡◌, sym, ◌∙◌}
use native.Mathlib.Numerals.{add-one}
use native.Mathlib.Omega.{arith}
use Rattle.submission.proofs.Sender.woken.Goals as goal

pub loop-j-init : goal.loop-j-init
loop-j-init c =
    let count = c.args.self.now.state.now.count in
    let all : count - 0 ≡ count = omega arith in
    record { size = c.args.self.now.eight; room = rw all c.requires; given = rw all }

pub entry_woken-requires : goal.entry_woken-requires
entry_woken-requires c =
    let l = c.loop-j in
    let a = c.args in
    let n = a.self.now in
    let s = n.state.now in
    (room-here l.nodes n.node a.u l.j s.count (omega arith) l.invariant.room).0

pub loop-j-preserved : goal.loop-j-preserved
loop-j-preserved c =
    let l = c.loop-j in
    let a = c.args in
    let n = a.self.now in
    let s = n.state.now in
    record {
      size = rw length-set l.invariant.size;
      room = rw (add-one l.j) (room-past l.nodes n.node a.u l.j s.count _ (omega arith) l.invariant.room);
      given = rw (add-one l.j, c.entry_woken.ensures) (sym (woken_step l.nodes n.node a.u l.j s.count (omega arith)) ∙ l.invariant.given);
    }

pub returns : goal.returns
returns c =
    let l = c.loop-j in
    let a = c.args in
    let n = a.self.now in
    let s = n.state.now in
    rw (sym (woken_end l.nodes n.node a.u l.j s.count (omega arith)) ∙ l.invariant.given)
