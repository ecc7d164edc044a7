-- One more step, and none that is left.
use Rattle.std.proofs.Common.{◌*◌, ◌+◌, add-one}
use Rattle.scan.proofs.Passes.{steps_next, steps_end}
use Rattle.lent_scan.proofs.frames_key.Goals as goal

pub loop-p-preserved : goal.loop-p-preserved
loop-p-preserved c =
    let n = steps_next c.args.slots.now c.args.j c.loop-p.p (4 * c.args.j + c.args.n) c.loop-p.run c.loop-p-test.true in
    rw (c.step-run.ensures, add-one, n) c.loop-p.invariant

pub returns : goal.returns
returns c =
    let n = steps_end c.args.slots.now c.args.j c.loop-p.p (4 * c.args.j + c.args.n) c.loop-p.run c.loop-p-test.false in
    rw (c.end.ensures, ← n, c.loop-p.invariant)
