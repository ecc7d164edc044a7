-- Internal. What a round that is carried out leaves: the entries, the queues, and, once these are written, the slots and the payload
-- without the winner (01, "One round").
-- Assumes nothing.
use Rattle.std.specs.Prelude.{ℕ, zero, suc, ◌+◌, ◌*◌, List, [], ◌∷◌, Bool, cond, ◌&&◌, leb, ltb, eqb, get_or, set, Option}
use Rattle.operation.specs.Format.{data_length}
use Rattle.operation.specs.declared.Operation.{Operation}
use Rattle.buffers.specs.Parts.{part, over}
use Rattle.slots.specs.Slots.{free_slot}
use Rattle.slots.specs.declared.Slot.{Slot}
use Rattle.bus_state.specs.Memory.{bytes_per_slot, bytes_per_queue}
use Rattle.bus_state.specs.Entries.{entry_fill, entry_pending}
use Rattle.bus_state.specs.declared.State.{State}
use Rattle.bus_state.specs.declared.NodeState.{NodeState}
use Rattle.arbitration.specs.declared.Injection.{Injection}
use Rattle.scan.specs.Winner.{held_at, entry_of}
use Rattle.arbitration.specs.Owed.{owed_length, owed_to, stay_count}

-- a node's entry after the round
unfoldable pub entry_after : Option Injection → NodeState → Bool → ℕ → NodeState
entry_after e d mine size = entry_pending (entry_fill d (d.fill + owed_length e d mine size)) (stay_count d mine)

-- the entries of n nodes from number j on, set one by one
unfoldable pub entries_after : Option Injection → List NodeState → ℕ → ℕ → ℕ → ℕ → List NodeState → List NodeState
entries_after e nodes owner size j zero l = l
entries_after e nodes owner size j (suc n) l =
    entries_after e nodes owner size (suc j) n (set l j (entry_after e (entry_of nodes j) (eqb j owner) size))

-- the state after the round
unfoldable pub state_after : Option Injection → State → ℕ → ℕ → State
state_after e s owner size =
    record { count = s.count; round = s.round + 1; nodes = entries_after e s.nodes owner size 0 s.count s.nodes }

-- the queues of n nodes from number j on, each with what its node is owed behind its fill
unfoldable pub queues_after : Option Injection → List NodeState → ℕ → ℕ → Operation → List ℕ → List ℕ → ℕ → ℕ → List ℕ → List ℕ
queues_after e nodes owner position op ids bytes j zero q = q
queues_after e nodes owner position op ids bytes j (suc n) q =
    queues_after e nodes owner position op ids bytes (suc j) n
    (over q (bytes_per_queue * j + (entry_of nodes j).fill) (owed_to e (entry_of nodes j) j owner position op ids bytes))

-- ---- without the winner

-- where what stands at i of a node's slots comes from: the frames after the removed one, up to the last, move down by one
abbrev pub source : ℕ → ℕ → ℕ → ℕ
source position last i = cond (leb position i && ltb i last) (i + 1) i

-- four slots without the frame at a position of them
abbrev pub block_without : List Slot → ℕ → ℕ → List Slot
block_without four position last =
    get_or four (source position last 0) free_slot
    ∷ get_or four (source position last 1) free_slot
    ∷ get_or four (source position last 2) free_slot
    ∷ get_or four (source position last 3) free_slot
    ∷ []

-- the data of the frames at the n positions after q of the four slots from a slot on, moved down by one slot
unfoldable pub payload_without : List Slot → ℕ → ℕ → ℕ → List ℕ → List ℕ
payload_without four at q zero payload = payload
payload_without four at q (suc n) payload =
    payload_without four at (suc q) n
    (over payload (bytes_per_slot * (at + q)) (part (bytes_per_slot * suc (at + q)) (data_length (held_at four (suc q))) payload))
