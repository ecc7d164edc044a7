-- Contract. The slot that holds a Transmit, and four slots of a list.
-- Assumes nothing.
use Rattle.std.specs.Prelude.{ℕ, ◌+◌, List, [], ◌∷◌, get_or, set}
use Rattle.operation.specs.declared.Operation.{Operation}
use Rattle.operation.specs.declared.Operation.TheVariants.{FormatError, CanTransmit, FdTransmit, XlTransmit, Confirm, ArbitrationLost, BusError, Configuration, Status, Wakeup}
use Rattle.slots.specs.Slots.{slot_row, free_slot}
use Rattle.slots.specs.declared.Slot.{Slot}

-- the slot of an operation: of a Transmit one that holds it, of any other a free one
unfoldable pub slot_of : Operation → ℕ → ℕ → Slot
slot_of (FormatError n) owner accepted = free_slot
slot_of (CanTransmit id ide rtr dl) owner accepted = slot_row accepted id 0 dl 0x10 owner ide rtr 0 0
slot_of (FdTransmit id ide brs esi dl) owner accepted = slot_row accepted id 0 dl 0x11 owner ide brs esi 0
slot_of (XlTransmit id ide sec sdt vcid af dl) owner accepted = slot_row accepted id af dl 0x12 owner ide sec sdt vcid
slot_of (Confirm id) owner accepted = free_slot
slot_of (ArbitrationLost id) owner accepted = free_slot
slot_of (BusError id code flag sender) owner accepted = free_slot
slot_of (Configuration kind value) owner accepted = free_slot
slot_of (Status status) owner accepted = free_slot
slot_of Wakeup owner accepted = free_slot

-- the four slots of a list from a position on
abbrev pub block_at : List Slot → ℕ → List Slot
block_at l at =
    get_or l at free_slot ∷ get_or l (at + 1) free_slot ∷ get_or l (at + 2) free_slot ∷ get_or l (at + 3) free_slot ∷ []

-- four slots laid over a list from a position on
unfoldable pub set_block : List Slot → ℕ → List Slot → List Slot
set_block l at b =
    set (set (set (set l at (get_or b 0 free_slot)) (at + 1) (get_or b 1 free_slot)) (at + 2) (get_or b 2 free_slot)) (at + 3) (get_or b 3 free_slot)
