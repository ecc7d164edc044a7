-- Internal. The winner by its rank and its place, found from the state and the slots alone (01, "One round").
-- Assumes nothing.
use Rattle.std.specs.Prelude.{ℕ, zero, suc, ◌+◌, ◌*◌, ◌<◌, List, Bool, cond, ltb, get_or, Option, None, Some}
use Rattle.operation.specs.declared.Operation.{Operation}
use Rattle.slots.specs.Slots.{free_slot, content_of, held_in}
use Rattle.slots.specs.declared.Slot.{Slot}
use Rattle.plain_bus.specs.Order.{rank, lower_or}
use Rattle.bus_state.specs.Memory.{slots_per_node, no_node}
use Rattle.bus_state.specs.declared.State.{State}
use Rattle.bus_state.specs.declared.NodeState.{NodeState}
use Rattle.scan.specs.declared.Winner.{Winner}

-- the Transmit that slot p holds
abbrev pub held_at : List Slot → ℕ → Operation
held_at a p = held_in (content_of (get_or a p free_slot))

-- lower rank first, then lower node number, then earlier accepted
abbrev pub before : (rank owner position thanRank thanOwner thanPosition : ℕ) → Bool
before rank owner position thanRank thanOwner thanPosition =
    lower_or rank thanRank (lower_or owner thanOwner (ltb position thanPosition))

-- the first of the best so far and one more frame
unfoldable pub better : Option Winner → ℕ → ℕ → ℕ → Option Winner
better None rank owner position = Some (record { rank = rank; owner = owner; position = position })
better (Some w) rank owner position =
    cond (before rank owner position w.rank w.owner w.position) (Some (record { rank = rank; owner = owner; position = position })) (Some w)

-- the first of the best so far and n frames of node j from position q on
unfoldable pub best_of : List Slot → ℕ → ℕ → ℕ → Option Winner → Option Winner
best_of a j q zero w = w
best_of a j q (suc n) w = best_of a j (suc q) n (better w (rank (held_at a (slots_per_node * j + q))) j q)

-- the entry of node j
abbrev pub entry_of : List NodeState → ℕ → NodeState
entry_of nodes j = get_or nodes j no_node

-- the first of the best so far and the frames of n nodes from number j on
unfoldable pub best_from : List NodeState → List Slot → ℕ → ℕ → Option Winner → Option Winner
best_from nodes a j zero w = w
best_from nodes a j (suc n) w = best_from nodes a (suc j) n (best_of a j 0 (entry_of nodes j).pending w)

-- the first of all pending frames
unfoldable pub best_in : State → List Slot → Option Winner
best_in s a = best_from s.nodes a 0 s.count None

-- the winner's node; 0 where there is no winner
abbrev pub owner_of : Option Winner → ℕ
owner_of None = 0
owner_of (Some w) = w.owner

-- a winner has one of the 32 slots, and a rank of 32 bits
abbrev pub Small : Option Winner → Type 0
Small None = Unit {0}
Small (Some w) = (w.rank < 4_294_967_296) × (w.owner < 8) × (w.position < 4)
