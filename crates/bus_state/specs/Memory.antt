-- Believed. The state and the lent memory together, and what the plain bus reads from them: its view (01, "What the bus holds").
-- Assumes nothing.
use Rattle.std.specs.Prelude.{ℕ, zero, suc, ◌*◌, List, [], ◌∷◌, Bool, ◌&&◌, eqb, length, get_or}
use Rattle.buffers.specs.Parts.{part}
use Rattle.operation.specs.Format.{data_length, encode}
use Rattle.operation.specs.declared.Operation.{Operation}
use Rattle.slots.specs.Slots.{free_slot, content_of, held_in}
use Rattle.slots.specs.declared.Slot.{Slot}
use Rattle.plain_bus.specs.Held.{Frame, Node, Bus, bus_off}
use Rattle.bus_state.specs.declared.State.{State}
use Rattle.bus_state.specs.declared.NodeState.{NodeState}

pub record Memory : Type 0 where
  pub state : State
  pub slots : List Slot
  pub payload : List ℕ
  pub queues : List ℕ

abbrev pub held : State → List Slot → List ℕ → List ℕ → Memory
held s slots payload queues = record { state = s; slots = slots; payload = payload; queues = queues }

-- how much is lent, and what one node and one slot have of it
abbrev pub slot_count : ℕ
slot_count = 32

abbrev pub payload_bytes : ℕ
payload_bytes = 65_536

abbrev pub queue_bytes : ℕ
queue_bytes = 32_768

abbrev pub slots_per_node : ℕ
slots_per_node = 4

abbrev pub bytes_per_slot : ℕ
bytes_per_slot = 2_048

abbrev pub bytes_per_queue : ℕ
bytes_per_queue = 4_096

-- as much is lent as there has to be
unfoldable pub lent_well : Memory → Bool
lent_well m = eqb (length m.slots) slot_count && eqb (length m.payload) payload_bytes && eqb (length m.queues) queue_bytes

-- an entry that says nothing, for numbers past the last
abbrev pub no_node : NodeState
no_node = record { rates = []; fill = 0; status = 0; behaviour = 0; pending = 0 }

abbrev pub node_state : State → ℕ → NodeState
node_state s j = get_or s.nodes j no_node

abbrev pub is_off : NodeState → Bool
is_off d = eqb d.status bus_off

abbrev pub slot_at : Memory → ℕ → Slot
slot_at m p = get_or m.slots p free_slot

-- ---- the view

abbrev pub operation_at : Memory → ℕ → Operation
operation_at m p = held_in (content_of (slot_at m p))

-- the data of slot p lie at 2,048 p
abbrev pub data_at_slot : Memory → ℕ → List ℕ
data_at_slot m p = part (bytes_per_slot * p) (data_length (operation_at m p)) m.payload

unfoldable pub frame_at : Memory → ℕ → Frame
frame_at m p = record {
  op = operation_at m p;
  bytes = encode (operation_at m p) (data_at_slot m p);
  accepted = (slot_at m p).accepted;
}

-- the frames of n slots from slot p on
unfoldable pub frames_from : Memory → ℕ → ℕ → List Frame
frames_from m p zero = []
frames_from m p (suc n) = frame_at m p ∷ frames_from m (suc p) n

-- node j's frames are slots 4 j on, oldest first; its queue lies at 4,096 j
unfoldable pub node_view : Memory → ℕ → Node
node_view m j = record {
  status = (node_state m.state j).status;
  behaviour = (node_state m.state j).behaviour;
  rates = (node_state m.state j).rates;
  pending = frames_from m (slots_per_node * j) (node_state m.state j).pending;
  queue = part (bytes_per_queue * j) (node_state m.state j).fill m.queues;
}

-- n nodes from number j on
unfoldable pub nodes_from : Memory → ℕ → ℕ → List Node
nodes_from m j zero = []
nodes_from m j (suc n) = node_view m j ∷ nodes_from m (suc j) n

unfoldable pub view : Memory → Bus
view m = record { nodes = nodes_from m 0 m.state.count; round = m.state.round }
