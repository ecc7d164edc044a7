-- By whether the frame is the winner.
use Rattle.arbitration.proofs.Bytes.{over_none}
use Rattle.arbitration.proofs.Told.{lost-lawful}
use Rattle.operation.proofs.Sizes.{encode-length}
use Rattle.operation.specs.declared.Operation.TheVariants.{ArbitrationLost}
use mathlib.Core.List.{[]}
use mathlib.Core.Path.{sym}
use native.Mathlib.Nat.{add-zero}
use native.Mathlib.Omega.{arith}
use Rattle.arbitration.proofs.put_notice.Goals as goal

pub returns-then-wins : goal.returns-then-wins
returns-then-wins c = rw c.if-wins.true (record { value = sym (add-zero _); queues_after = sym (over_none _ _) })

pub put_lost-requires : goal.put_lost-requires
put_lost-requires c =
    let l = encode-length (ArbitrationLost c.args.id) [] in
    (lost-lawful _ c.requires.0, omega (arith, rw (c.if-wins.false, l) at c.requires.1))

pub overflow_add-result : goal.overflow_add-result
overflow_add-result c =
    let l = encode-length (ArbitrationLost c.args.id) [] in
    omega (arith, rw (c.if-wins.false, l) at c.requires.1)

pub returns : goal.returns
returns c =
    let l = encode-length (ArbitrationLost c.args.id) [] in
    rw c.if-wins.false (record { value = rw l; queues_after = c.put_lost.ensures })
