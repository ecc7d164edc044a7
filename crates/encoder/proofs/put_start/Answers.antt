-- The two runs, one behind the other.
use Rattle.buffers.proofs.Laying.{behind}
use Rattle.operation.specs.Number.{little_endian}
use Rattle.operation.specs.Tables.{code_number}
use Rattle.encoder.proofs.put_start.Goals as goal

pub returns : goal.returns
returns c = rw (c.put_number-2.ensures, c.put_number.ensures, c.from.ensures) (behind c.args.buffer.now (little_endian 4 (code_number c.args.code)) (little_endian 4 c.args.size))
