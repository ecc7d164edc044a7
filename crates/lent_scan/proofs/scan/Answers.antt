-- One more node, and none that is left.
use Rattle.std.proofs.Common.{add-one}
use native.Mathlib.Nat.{sub-zero}
use Rattle.scan.proofs.Passes.{nodes-next, nodes-end, nodes-start}
use Rattle.lent_scan.proofs.scan.Goals as goal

pub loop-j-init : goal.loop-j-init
loop-j-init c = rw (c.attached-j-end.ensures.0, c.first_key-key.ensures, sub-zero) (nodes-start c.args.s c.args.slots.now)

pub loop-j-preserved : goal.loop-j-preserved
loop-j-preserved c =
    let n = nodes-next c.args.s c.args.slots.now c.loop-j.j c.attached-j-end.result c.loop-j.key c.loop-j-test.true in
    rw (
      c.frames_key-key.ensures,
      c.entry_key.ensures,
      c.frame_count.ensures.0,
      add-one,
      n,
    ) c.loop-j.invariant

pub returns : goal.returns
returns c =
    let n = nodes-end c.args.s c.args.slots.now c.loop-j.j c.attached-j-end.result c.loop-j.key c.loop-j-test.false in
    rw (← n, c.loop-j.invariant)
