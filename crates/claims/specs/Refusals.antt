-- Examples. Numbers that writing and the calls of the bus answer with, by their rows.
-- Assumes nothing.
use Rattle.std.specs.Prelude.{ℕ, ◌≡◌, List, [], ◌∷◌, Some, replicate}
use Rattle.operation.specs.declared.Operation.{Operation}
use Rattle.operation.specs.declared.Operation.TheVariants.{CanTransmit}
use Rattle.slots.specs.Slots.{slot_row, free_slot}
use Rattle.plain_bus.specs.Held.{error_active, buffer_and_retransmit}
use Rattle.plain_bus.specs.Session.{collection}
use Rattle.bus_state.specs.Memory.{Memory, held, payload_bytes, queue_bytes}
use Rattle.bus_state.specs.declared.NodeState.{NodeState}
use Rattle.claims.specs.Numbers.{first_row, write_rows, call_rows}

-- writing an operation with so many data bytes to a buffer of so many bytes
abbrev pub writing_number : Operation → ℕ → ℕ → ℕ
writing_number op given room = first_row (write_rows (Some op) given room)

-- a call of the bus with some state and lent memory: node 1's queue is collected
abbrev pub collecting_number : Memory → ℕ
collecting_number m = first_row (call_rows m (collection 1 0))

-- an entry with so many frames pending, and nothing queued
abbrev pub entry_with : ℕ → NodeState
entry_with pending =
    record { rates = 1 ∷ 1 ∷ 1 ∷ []; fill = 0; status = error_active; behaviour = buffer_and_retransmit; pending = pending }

-- two nodes; node 0 has one frame pending, a CAN Transmit of ID 5 with an Rtr and a DL
abbrev pub memory_with : ℕ → ℕ → Memory
memory_with rtr dl =
    held
    (record { count = 2; round = 0; nodes = entry_with 1 ∷ replicate 7 (entry_with 0) })
    (slot_row 0 5 0 dl 0x10 0 0 rtr 0 0 ∷ replicate 31 free_slot)
    (replicate payload_bytes 0)
    (replicate queue_bytes 0)

-- a remote frame with 0, 1 and 8 data bytes and a data frame with 8: written, with room and without; then held in a state
unfoldable pub refusal_numbers : List ℕ
refusal_numbers =
    writing_number (CanTransmit 5 0 1 0) 0 16
    ∷ writing_number (CanTransmit 5 0 1 1) 1 17
    ∷ writing_number (CanTransmit 5 0 1 8) 8 24
    ∷ writing_number (CanTransmit 5 0 1 8) 8 23
    ∷ writing_number (CanTransmit 5 0 0 8) 8 24
    ∷ writing_number (CanTransmit 5 0 0 8) 8 23
    ∷ collecting_number (memory_with 1 0)
    ∷ collecting_number (memory_with 1 1)
    ∷ collecting_number (memory_with 1 8)
    ∷ collecting_number (memory_with 0 8)
    ∷ []

abbrev pub RefusalsHold : Type 0
RefusalsHold = refusal_numbers ≡ 0 ∷ 7 ∷ 7 ∷ 7 ∷ 0 ∷ 11 ∷ 0 ∷ 3 ∷ 3 ∷ 0 ∷ []
