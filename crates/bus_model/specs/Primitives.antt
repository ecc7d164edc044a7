-- Contract. The changes that the calls are made of, each on the state and the lent memory. What is not named stays as it was: the bytes
-- of a removed frame, and those of a queue past its fill.
-- Assumes nothing.
use Rattle.std.specs.Prelude.{ℕ, zero, suc, ◌+◌, ◌-◌, ◌*◌, List, Bool, length, set, replicate}
use Rattle.operation.specs.declared.Operation.{Operation}
use Rattle.buffers.specs.Parts.{over}
use Rattle.slots.specs.Slots.{free_slot}
use Rattle.slots.specs.Blocks.{slot_of}
use Rattle.slots.specs.declared.Slot.{Slot}
use Rattle.plain_bus.specs.Held.{new_node}
use Rattle.bus_state.specs.Memory.{Memory, slot_count, slots_per_node, bytes_per_slot, bytes_per_queue, node_state, slot_at, data_at_slot, is_off}
use Rattle.bus_state.specs.Entries.{entry_fill, entry_pending, with_entry}
use Rattle.bus_state.specs.declared.State.{State}
use Rattle.bus_state.specs.declared.NodeState.{NodeState}

-- ---- one node's entry

abbrev pub entry_at : Memory → ℕ → NodeState
entry_at m j = node_state m.state j

abbrev pub off_at : Memory → ℕ → Bool
off_at m j = is_off (entry_at m j)

-- ---- the parts of the memory

abbrev pub with_state : Memory → State → Memory
with_state m x = record { state = x; slots = m.slots; payload = m.payload; queues = m.queues }

abbrev pub with_slot : Memory → ℕ → Slot → Memory
with_slot m p x = record { state = m.state; slots = set m.slots p x; payload = m.payload; queues = m.queues }

abbrev pub with_payload : Memory → List ℕ → Memory
with_payload m x = record { state = m.state; slots = m.slots; payload = x; queues = m.queues }

abbrev pub with_queues : Memory → List ℕ → Memory
with_queues m x = record { state = m.state; slots = m.slots; payload = m.payload; queues = x }

unfoldable pub set_entry : Memory → ℕ → NodeState → Memory
set_entry m j d = with_state m (with_entry m.state j d)

unfoldable pub set_round : Memory → ℕ → Memory
set_round m x = with_state m (record { count = m.state.count; round = x; nodes = m.state.nodes })

-- bytes over those of slot p, and over those of node j's queue from its fill on
abbrev pub lay_data : Memory → ℕ → List ℕ → Memory
lay_data m p bytes = with_payload m (over m.payload (bytes_per_slot * p) bytes)

abbrev pub lay_queue : Memory → ℕ → List ℕ → Memory
lay_queue m j bytes = with_queues m (over m.queues (bytes_per_queue * j + (entry_at m j).fill) bytes)

-- a slot with its data
unfoldable pub fill_slot : Memory → ℕ → Slot → List ℕ → Memory
fill_slot m p x bytes = lay_data (with_slot m p x) p bytes

-- ---- what the calls do

-- the slot after the last of node j's pending frames
abbrev pub next_slot : Memory → ℕ → ℕ
next_slot m j = slots_per_node * j + (entry_at m j).pending

-- a Transmit of node j becomes pending
unfoldable pub put_frame : Memory → ℕ → Operation → List ℕ → Memory
put_frame m j op bytes =
    set_entry (fill_slot m (next_slot m j) (slot_of op j m.state.round) bytes) j
    (entry_pending (entry_at m j) ((entry_at m j).pending + 1))

-- bytes are added to node j's queue
unfoldable pub append : Memory → ℕ → List ℕ → Memory
append m j bytes = set_entry (lay_queue m j bytes) j (entry_fill (entry_at m j) ((entry_at m j).fill + length bytes))

-- node j's frames are removed, or its queue emptied, or both
unfoldable pub drop_frames : Memory → ℕ → Memory
drop_frames m j = set_entry m j (entry_pending (entry_at m j) 0)

unfoldable pub empty_queue : Memory → ℕ → Memory
empty_queue m j = set_entry m j (entry_fill (entry_at m j) 0)

unfoldable pub clear_node : Memory → ℕ → Memory
clear_node m j = set_entry m j (entry_fill (entry_pending (entry_at m j) 0) 0)

-- the frames of the n slots after p move one slot down: each slot whole, of its data as many bytes as its frame has
unfoldable pub move_down : Memory → ℕ → ℕ → Memory
move_down m p zero = m
move_down m p (suc n) = move_down (fill_slot m p (slot_at m (suc p)) (data_at_slot m (suc p))) (suc p) n

-- node j's frame q is removed
unfoldable pub remove_frame : Memory → ℕ → ℕ → Memory
remove_frame m j q =
    set_entry (move_down m (slots_per_node * j + q) ((entry_at m j).pending - 1 - q)) j
    (entry_pending (entry_at m j) ((entry_at m j).pending - 1))

-- a change at each of n nodes from number j on, in turn
unfoldable pub in_turn : (Memory → ℕ → Memory) → ℕ → ℕ → Memory → Memory
in_turn change j zero m = m
in_turn change j (suc n) m = in_turn change (suc j) n (change m j)

-- ---- the start

abbrev pub new_entry : NodeState
new_entry = record { rates = new_node.rates; fill = 0; status = new_node.status; behaviour = new_node.behaviour; pending = 0 }

unfoldable pub new_state : ℕ → State
new_state count = record { count = count; round = 0; nodes = replicate 8 new_entry }

-- all slots are free; the other lent bytes stay
unfoldable pub start_memory : Memory → ℕ → Memory
start_memory m count =
    record { state = new_state count; slots = replicate slot_count free_slot; payload = m.payload; queues = m.queues }
