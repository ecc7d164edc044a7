-- Internal. Any call of a session on the state and the lent memory.
-- Assumes nothing.
use Rattle.operation.specs.Number.{Bytes}
use Rattle.plain_bus.specs.Session.{Call, submission, round, collection}
use Rattle.bus_state.specs.Memory.{Memory}
use Rattle.bus_model.specs.Calls.{Result, submit_in, round_in, collect_in}

unfoldable pub call_in : Memory → Call → Result
call_in m (submission k buffer) = submit_in m k buffer
call_in m (round e) = round_in m e
call_in m (collection k room) = collect_in m k room

-- a submitted buffer holds bytes
abbrev pub ByteCall : Call → Type 0
ByteCall (submission k buffer) = Bytes buffer
ByteCall (round e) = Unit {0}
ByteCall (collection k room) = Unit {0}
