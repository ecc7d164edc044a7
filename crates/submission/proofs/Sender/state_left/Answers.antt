-- Without a Wakeup the sender's entry alone changes.
use Rattle.submission.proofs.Wakes.{woken_none}
use native.Mathlib.Omega.{arith}
use Rattle.submission.proofs.Sender.state_left.Goals as goal

pub returns-then-u-eq0 : goal.returns-then-u-eq0
returns-then-u-eq0 c =
    let a = c.args in
    let n = a.self.now in
    let s = n.state.now in
    rw (c.with_entry.ensures, c.if-u-eq0.true, woken_none s.nodes n.node 0 s.count)

pub woken-requires : goal.woken-requires
woken-requires c = c.requires (omega (arith, c.if-u-eq0.false))

pub returns : goal.returns
returns c = rw (c.with_entry-2.ensures, c.woken.ensures)
