-- The part of the buffer behind the position is written at its front.
use Rattle.encoder.proofs.Behind.{laid_behind}
use native.Mathlib.Omega.{arith}
use Rattle.arbitration.proofs.put_operation.Goals as goal

pub returns : goal.returns
returns c =
    let a = c.args in
    laid_behind a.op a.bytes.now a.buffer.now _ a.at c.requires.op_value.0 c.requires.op_value.1
    (omega (arith, c.requires.op_value.1, c.requires.op_value.2)) c.requires.op_in_bounds c.write.ensures.written
