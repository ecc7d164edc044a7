-- What a call of the session leaves by its contract: the model's result, and the bytes that it gives.
-- Assumes nothing.
use Prim.Native.Nat.{ℕ}
use mathlib.Core.List.{List, []}
use lib.ListN.{length, take}
use Rattle.bus_state.specs.Memory.{Memory, held}
use Rattle.bus_model.specs.Calls.{submit_in, round_in, collect_in, buffer_after}
use Rattle.plain_bus.specs.Round.{injection_from}
use Rattle.bus.specs.Left.{Left, leaves}
use Rattle.claims.specs.Demands.{Call, submits, arbitrates, collects}

unfoldable pub left_by : Memory → Call → Left
left_by m (submits node buffer u) = leaves (submit_in m node buffer)
left_by m (arbitrates present code detector) = leaves (round_in m (injection_from present code detector))
left_by m (collects node buffer) = leaves (collect_in m node (length buffer))

-- the state that was given back and the lent memory as it was left
abbrev pub memory_of : Left → Memory
memory_of l = held l.answer.state l.slots l.payload l.queues

-- as much of the caller's buffer after the call as the answer's length says
unfoldable pub given_by : Memory → Call → List ℕ
given_by m (submits node buffer u) = []
given_by m (arbitrates present code detector) = []
given_by m (collects node buffer) =
    let r = collect_in m node (length buffer) in take (leaves r).answer.length (buffer_after r.reply buffer)
