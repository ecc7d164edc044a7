-- A refusal leaves the slots that were there; else all steps were carried out.
use Rattle.submission.proofs.Submits.{first_slot_of, laid_again, laid-same, all-taken}
use Prim.Native.Nat.{◌*◌}
use mathlib.Core.Path.{◌∙◌}
use native.Mathlib.Omega.{arith}
use Rattle.submission.proofs.submit.Goals as goal

pub carry_buffer-requires : goal.carry_buffer-requires
carry_buffer-requires c =
    let t = c.in-Ok.ensures.passed in
    record {
      value = (t.short, t.entry);
      goes = t.goes;
    }

pub returns-in-Err : goal.returns-in-Err
returns-in-Err c =
    let a = c.args in
    let f = c.first_slot-at.ensures in
    rw c.refused.ensures
    (record {
      ended = λ l e. laid-same a.s a.node a.buffer.now c.in-Err.ensures.refused l _ e a.payload.now a.queues.now;
      place = f.0;
      inside = f.1;
    })

pub returns-in-Ok : goal.returns-in-Ok
returns-in-Ok c =
    let t = c.in-Ok.ensures.passed in
    let r = c.carry_buffer.ensures in
    let n = c.first_slot-at.ensures.0 ∙ first_slot_of c.args.node (omega (arith, t.attached)) in
    record {
      ended = λ a e. rw (r.outcome.0, r.outcome.1) (all-taken c.args.s a c.args.payload.now c.args.queues.now c.args.node c.args.buffer.now t (rw n (r.memory a ∙ rw (laid_again a (4 * c.args.node) (rw (r.outcome.1, n) at e)))));
      place = r.outcome.1 ∙ c.first_slot-at.ensures.0;
      inside = rw r.outcome.1 c.first_slot-at.ensures.1;
    }
