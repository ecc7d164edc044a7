-- The part of the buffer behind the position is written at its front.
use Rattle.encoder.proofs.Behind.{laid_behind}
use Rattle.operation.specs.declared.Operation.TheVariants.{ArbitrationLost}
use mathlib.Core.List.{[]}
use mathlib.Core.Path.{refl}
use native.Mathlib.Omega.{arith}
use Rattle.arbitration.proofs.put_lost.Goals as goal

pub returns : goal.returns
returns c =
    let a = c.args in
    laid_behind (ArbitrationLost a.id) [] a.buffer.now _ a.at c.requires.0 refl (omega arith) c.requires.1
    c.write_arbitration_lost.ensures.written
