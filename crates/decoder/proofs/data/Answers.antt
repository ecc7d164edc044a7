-- Each return by the tests that led there.
use Prim.Native.Nat.{◌≤◌}
use Rattle.decoder.proofs.Payload.{part_or}
use Rattle.decoder.specs.Reading.{data_at}
use borrow.Author.Tests.{lt-leb, le-leb}
use mathlib.Core.Path.{refl}
use native.Mathlib.Omega.{arith}
use Rattle.decoder.proofs.data.Goals as goal

pub returns-then-end-head_length : goal.returns-then-end-head_length
unfolding data_at
returns-then-end-head_length c = rw (← c.data_length-n.ensures, ← c.head_length.ensures.0, lt-leb _ _ c.if-end-head_length.true)

pub returns : goal.returns
unfolding data_at
returns c =
    let h : c.data_length-n.result ≤ c.args.next.at = omega arith in
    rw (← c.data_length-n.ensures, ← c.head_length.ensures.0, le-leb _ _ c.if-end-head_length.false, c.unwrap_or.ensures)
    (part_or c.args.s.now c.data_length-n.result c.args.next.at c.get.result _ h c.get.ensures.lookup refl)
