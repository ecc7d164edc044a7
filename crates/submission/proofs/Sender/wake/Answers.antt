use Prim.Native.Nat.{◌-◌, ◌+◌}
use Rattle.submission.proofs.Wakes.{room-here, laid_step, laid_end}
use mathlib.Core.Path.{◌≡◌, sym, ◌∙◌}
use native.Mathlib.Numerals.{add-one}
use native.Mathlib.Omega.{arith}
use Rattle.submission.proofs.Sender.wake.Goals as goal

pub loop-j-init : goal.loop-j-init
loop-j-init c =
    let count = c.args.self.now.state.now.count in
    let all : count - 0 ≡ count = omega arith in
    record { room = rw all c.requires; given = rw all }

pub wake_at-requires : goal.wake_at-requires
wake_at-requires c =
    let l = c.loop-j in
    let a = c.args in
    let n = a.self.now in
    let s = n.state.now in
    (omega arith, (room-here s.nodes n.node (a.u + 1) l.j s.count (omega arith) l.invariant.room).0)

pub loop-j-preserved : goal.loop-j-preserved
loop-j-preserved c =
    let l = c.loop-j in
    let a = c.args in
    let n = a.self.now in
    let s = n.state.now in
    record {
      room = rw (add-one l.j) (room-here s.nodes n.node (a.u + 1) l.j s.count (omega arith) l.invariant.room).1;
      given = rw (add-one l.j, c.wake_at.ensures) (sym (laid_step s.nodes n.node a.u l.j s.count _ (omega arith)) ∙ l.invariant.given);
    }

pub returns : goal.returns
returns c =
    let l = c.loop-j in
    let a = c.args in
    let n = a.self.now in
    let s = n.state.now in
    sym (laid_end s.nodes n.node a.u l.j s.count _ (omega arith)) ∙ l.invariant.given
