-- Each slot by where it comes from.
use Rattle.arbitration.proofs.block_without.Goals as goal

pub returns : goal.returns
returns c = rw (c.source-4.ensures.0, c.source-3.ensures.0, c.source-2.ensures.0, c.source.ensures.0)
