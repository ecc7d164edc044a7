-- The Wakeup is laid at the queue's fill behind the others.
use Rattle.submission.specs.Carrying.{wakeup_laid}
use Rattle.submission.specs.Counting.{wakeup_length}
use borrow.Author.Rules.{rules}
use lib.ListN.{length}
use mathlib.Core.Path.{◌≡◌}
use native.Mathlib.Omega.{arith}
use Rattle.submission.proofs.wake_at.Goals as goal

pub returns-then-is_unreached : goal.returns-then-is_unreached
unfolding wakeup_laid
returns-then-is_unreached c = rw (← c.is_unreached.ensures, c.if-is_unreached.true)

pub lay_wakeup-requires : goal.lay_wakeup-requires
unfolding wakeup_length
lay_wakeup-requires c =
    let p = rw (← c.is_unreached.ensures, c.if-is_unreached.false) at c.requires.1 in
    let f = rw (← c.is_unreached.ensures, c.if-is_unreached.false) at c.fill_woken.ensures in
    let room : length c.args.queues.now ≡ 32_768 = search rules in
    omega arith

pub returns : goal.returns
unfolding wakeup_laid
returns c =
    rw (← c.is_unreached.ensures, c.if-is_unreached.false) (rw (c.lay_wakeup.ensures, c.fill_woken.ensures))
