-- The news at the fill.
use Prim.Native.Nat.{ℕ, ◌+◌, ◌*◌}
use Rattle.arbitration.proofs.Lengths.{news_length_is}
use Rattle.bus_state.specs.Memory.{is_off}
use mathlib.Core.Path.{sym, ap, ◌∙◌}
use native.Mathlib.Omega.{arith}
use Rattle.arbitration.proofs.News.tell.Goals as goal

pub put-requires : goal.put-requires
put-requires c = rw c.is_off-off.ensures c.requires.1

pub overflow_add-result : goal.overflow_add-result
overflow_add-result c =
    let n = c.args.self.now in
    let k = news_length_is n.error c.args.j n.owner (is_off c.args.d) n.op n.bytes.now n.size n.whole n.sized in
    rw (c.length.ensures, c.is_off-off.ensures, ← k) (omega (arith, c.requires.1))

pub returns : goal.returns
returns c =
    let a = c.args in
    let n = a.self.now in
    let k = news_length_is n.error a.j n.owner (is_off a.d) n.op n.bytes.now n.size n.whole n.sized in
    let o = c.is_off-off.ensures in
    record {
      value = ap (λ (i : ℕ). 4_096 * a.j + a.d.fill + i) (c.length.ensures ∙ rw o (sym k));
      queues_after = rw o at c.put.ensures;
    }
