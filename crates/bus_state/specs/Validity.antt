-- Believed. When state and lent memory are valid (01: sound, "What the bus holds"): a field for each clause of 01, in 01's order. Refusal
-- 3 goes by a test (Valid.antt); `ValidityTested`, below, says that the test passes exactly what is valid.
-- Assumes nothing.
use Rattle.std.specs.Prelude.{ℕ, ◌+◌, ◌*◌, ◌≤◌, ◌<◌, ◌≡◌, true, length, get_or}
use Rattle.operation.specs.Format.{data_length}
use Rattle.operation.specs.Rules.{one_of, statuses, behaviours}
use Rattle.slots.specs.Slots.{content_of, legal_content}
use Rattle.slots.specs.declared.Slot.{Slot}
use Rattle.plain_bus.specs.Held.{max_pending, queue_capacity, bus_off}
use Rattle.bus_state.specs.Memory.{Memory, slots_per_node, bytes_per_slot, node_state, slot_at, operation_at, lent_well}
use Rattle.bus_state.specs.Valid.{valid_state}

-- ---- nodes and pending frames

-- the attached nodes are those with a number below the node count
abbrev pub Attached : Memory → ℕ → Type 0
Attached m j = j < m.state.count

-- a pending frame is named by its node j and its position q among that node's frames, oldest first; the node's entry counts them
abbrev pub PendingAt : Memory → ℕ → ℕ → Type 0
PendingAt m j q = Attached m j × (q < (node_state m.state j).pending)

-- its slot (01: its place): the number, and what is held there
abbrev pub slot_number : ℕ → ℕ → ℕ
slot_number j q = slots_per_node * j + q

abbrev pub frame_slot : Memory → ℕ → ℕ → Slot
frame_slot m j q = slot_at m (slot_number j q)

-- its data: the bytes of the payload from data_start up to data_end, this one not included
abbrev pub data_start : ℕ → ℕ → ℕ
data_start j q = bytes_per_slot * slot_number j q

abbrev pub data_end : Memory → ℕ → ℕ → ℕ
data_end m j q = data_start j q + data_length (operation_at m (slot_number j q))

-- byte x of the payload is one of them
abbrev pub StoredAt : Memory → ℕ → ℕ → ℕ → Type 0
StoredAt m j q x = (data_start j q ≤ x) × (x < data_end m j q)

-- ---- validity

pub record ValidMemory (m : Memory) : Type 0 where
  -- node count is 2 to 8
  pub least : 2 ≤ m.state.count
  pub most : m.state.count ≤ 8
  -- the attached nodes' statuses, behaviours and baud rates are allowed
  pub status : (j : ℕ) → Attached m j → one_of (node_state m.state j).status statuses ≡ true
  pub behaviour : (j : ℕ) → Attached m j → one_of (node_state m.state j).behaviour behaviours ≡ true
  pub rates : (j i : ℕ) → Attached m j → i < length (node_state m.state j).rates → 1 ≤ get_or (node_state m.state j).rates i 0
  -- and their queues filled to at most 4,096 (nothing is asked of the other entries)
  pub fill : (j : ℕ) → Attached m j → (node_state m.state j).fill ≤ queue_capacity
  -- each pending frame belongs to an attached node: its slot names the node as its owner
  pub owner : (j q : ℕ) → PendingAt m j q → (frame_slot m j q).owner ≡ j
  -- meets the content rules: its slot holds a Transmit that does
  pub content : (j q : ℕ) → PendingAt m j q → legal_content (content_of (frame_slot m j q)) ≡ true
  -- and was accepted at a round not above the present one
  pub accepted : (j q : ℕ) → PendingAt m j q → (frame_slot m j q).accepted ≤ m.state.round
  -- no node has more than four
  pub few : (j : ℕ) → Attached m j → (node_state m.state j).pending ≤ max_pending
  -- a Bus-Off node has none
  pub silent : (j : ℕ) → Attached m j → (node_state m.state j).status ≡ bus_off → (node_state m.state j).pending ≡ 0
  -- pending frames lie in the lent memory: the slot among the slots, the data in the payload
  pub slot_lent : (j q : ℕ) → PendingAt m j q → slot_number j q < length m.slots
  pub data_lent : (j q : ℕ) → PendingAt m j q → data_end m j q ≤ length m.payload
  -- no two sharing a place or a stored byte: frames that share one are one frame
  pub own_slot : (j q i p : ℕ) → PendingAt m j q → PendingAt m i p → slot_number j q ≡ slot_number i p → (j ≡ i) × (q ≡ p)
  pub own_bytes : (j q i p x : ℕ) → PendingAt m j q → PendingAt m i p → StoredAt m j q x → StoredAt m i p x → (j ≡ i) × (q ≡ p)
  -- and the order of acceptance among one node's frames can be read from the state, as that of their positions, and agrees with their
  -- acceptance rounds
  pub order : (j q p : ℕ) → PendingAt m j p → q < p → (frame_slot m j q).accepted ≤ (frame_slot m j p).accepted

-- the test passes exactly what is valid; it is asked only where as much is lent as there has to be, since refusal 1 comes before 3
abbrev pub ValidityTested : Type 0
ValidityTested =
    (m : Memory) → lent_well m ≡ true
    → (valid_state m.state m.slots ≡ true → ValidMemory m) × (ValidMemory m → valid_state m.state m.slots ≡ true)
