-- The runs of the header, one behind the other.
use Rattle.buffers.proofs.Laying.{in_turn_lem}
use Rattle.operation.specs.Number.{little_endian}
use Rattle.operation.specs.Tables.{code_number}
use mathlib.Core.List.{[], ◌∷◌, ◌++◌}
use Rattle.encoder.proofs.write_id.Goals as goal

pub returns-clause-written : goal.returns-clause-written
returns-clause-written c =
    let a = c.args in
    rw (c.put_number.ensures, c.put_start.ensures, c.in_ok-size.ensures.accepted.0)
    (in_turn_lem a.buffer.now ((little_endian 4 (code_number a.code) ++ little_endian 4 12) ∷ (little_endian 4 a.id) ∷ []))
