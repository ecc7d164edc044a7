-- The news, and twelve bytes a notice.
use Rattle.arbitration.proofs.Lengths.{news_short, size_short}
use Rattle.arbitration.specs.Owed.{owed_length}
use native.Mathlib.Omega.{arith}
use Rattle.arbitration.proofs.News.owed_length.Goals as goal

pub overflow_add-result : goal.overflow_add-result
overflow_add-result c =
    let n = c.args.self.now in
    omega (arith, c.length.ensures, news_short n.error c.args.mine c.is_off-off.result n.size (size_short n.op n.sized n.short))

pub returns : goal.returns
unfolding owed_length
returns c = rw (c.told_count.ensures, c.length.ensures, c.is_off-off.ensures)
