use Rattle.submission.proofs.Stands.{stand}
use Rattle.submission.proofs.Takes.{step-smaller}
use Rattle.submission.proofs.Turns.{checking_first, full-checked, wakeup-checked, entry-refused, entry-checked}
use Rattle.submission.proofs.Walks.{check-end}
use Rattle.std.proofs.lemmas.Result.{err_from_is_err_and}
use mathlib.Core.Path.{sym, ◌∙◌}
use native.Mathlib.Omega.{arith}
use Rattle.submission.proofs.Sender.check_buffer.Goals as goal

pub loop-step-init : goal.loop-step-init
loop-step-init c =
    let n = c.args.self.now in
    let s = n.state.now in
    let e = c.requires.1 in
    checking_first s n.node c.args.buffer.now c.args.entry n.few n.eight n.number c.requires.0 e (rw e n.own)

pub overflow_sub-size : goal.overflow_sub-size
overflow_sub-size c = omega (arith, c.in-Some.ensures.forward)

pub returns-then-not-wakeups_have_room : goal.returns-then-not-wakeups_have_room
returns-then-not-wakeups_have_room c =
    sym (full-checked c.loop-step.invariant _ c.in-Some.ensures (sym c.is_wakeup.ensures ∙ c.if-is_wakeup.true) (sym c.wakeups_have_room.ensures ∙ c.if-not-wakeups_have_room.true))

pub overflow_add-wakeups-then-is_wakeup : goal.overflow_add-wakeups-then-is_wakeup
overflow_add-wakeups-then-is_wakeup c =
    let g = c.loop-step.invariant.stood in
    omega (arith, g.counted, g.within, g.short)

pub overflow_add-wakeups : goal.overflow_add-wakeups
overflow_add-wakeups c =
    let g = c.loop-step.invariant.stood in
    omega (arith, g.counted, g.within, g.short)

pub loop-step-smaller-else-not-wakeups_have_room : goal.loop-step-smaller-else-not-wakeups_have_room
loop-step-smaller-else-not-wakeups_have_room c = step-smaller c.in-Some.ensures

pub loop-step-preserved-else-not-wakeups_have_room : goal.loop-step-preserved-else-not-wakeups_have_room
loop-step-preserved-else-not-wakeups_have_room c =
    wakeup-checked c.loop-step.invariant _ c.in-Some.ensures (sym c.is_wakeup.ensures ∙ c.if-is_wakeup.true) (sym c.wakeups_have_room.ensures ∙ c.if-not-wakeups_have_room.false)

pub entry_check-requires : goal.entry_check-requires
entry_check-requires c = omega (arith, c.in-Some.ensures.within)

pub returns-in_err-entry_check : goal.returns-in_err-entry_check
returns-in_err-entry_check c =
    let p = err_from_is_err_and c.from_residual.result c.from_residual.ensures.1 in
    rw (p.1, p.2) (sym (entry-refused c.loop-step.invariant _ c.in-Some.ensures (sym c.is_wakeup.ensures ∙ c.if-is_wakeup.false) (sym c.entry_check.ensures ∙ c.in_err-entry_check.was)))

pub entry_after-d-requires : goal.entry_after-d-requires
entry_after-d-requires c =
    let t = c.in-Some.ensures in
    (omega (arith, t.within), sym c.entry_check.ensures ∙ c.in_ok-entry_check.was, t.rate)

pub loop-step-smaller : goal.loop-step-smaller
loop-step-smaller c = step-smaller c.in-Some.ensures

pub loop-step-preserved : goal.loop-step-preserved
loop-step-preserved c =
    entry-checked c.loop-step.invariant _ c.in-Some.ensures (sym c.is_wakeup.ensures ∙ c.if-is_wakeup.false) (sym c.entry_check.ensures ∙ c.in_ok-entry_check.was) c.entry_after-d.ensures

pub returns : goal.returns
returns c =
    let l = c.loop-step in
    let a = c.args in
    sym (check-end a.buffer.now l.at a.self.now.node (stand a.self.now.state.now a.self.now.node l.wakeups l.d) c.in_default.ensures) ∙ l.invariant.decides
