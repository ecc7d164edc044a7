-- Believed. Validity as a test on the state with its slots, by which refusal 3 goes. What it decides stands in Validity.antt, clause by
-- clause.
-- Assumes nothing.
use Rattle.std.specs.Prelude.{ℕ, zero, suc, ◌*◌, List, [], ◌∷◌, Bool, true, not, ◌&&◌, ◌||◌, leb, eqb, get_or}
use Rattle.operation.specs.Rules.{one_of, statuses, behaviours}
use Rattle.slots.specs.Slots.{free_slot, content_of, legal_content}
use Rattle.slots.specs.declared.Slot.{Slot}
use Rattle.bus_state.specs.Memory.{slots_per_node, bytes_per_queue, node_state, is_off}
use Rattle.bus_state.specs.declared.State.{State}
use Rattle.bus_state.specs.declared.NodeState.{NodeState}

-- a pending frame of node j meets the content rules, and was accepted at a round not below `low` and not above `now`
unfoldable pub valid_slot : ℕ → ℕ → ℕ → Slot → Bool
valid_slot j low now s = legal_content (content_of s) && eqb s.owner j && leb low s.accepted && leb s.accepted now

-- n slots from slot p on, oldest first
unfoldable pub valid_slots : ℕ → ℕ → ℕ → ℕ → ℕ → List Slot → Bool
valid_slots zero p j low now slots = true
valid_slots (suc n) p j low now slots =
    valid_slot j low now (get_or slots p free_slot) && valid_slots n (suc p) j (get_or slots p free_slot).accepted now slots

-- none of the baud rates is 0
unfoldable pub non_zero : List ℕ → Bool
non_zero [] = true
non_zero (x ∷ xs) = leb 1 x && non_zero xs

-- status, behaviour and baud rates are allowed; the queue is filled to at most its capacity; at most four frames, and none when
-- Bus-Off
unfoldable pub valid_entry : NodeState → Bool
valid_entry d =
    one_of d.status statuses
    && one_of d.behaviour behaviours
    && non_zero d.rates
    && leb d.fill bytes_per_queue
    && leb d.pending slots_per_node
    && (not (is_off d) || eqb d.pending 0)

unfoldable pub valid_node : ℕ → ℕ → NodeState → List Slot → Bool
valid_node now j d slots = valid_entry d && valid_slots d.pending (slots_per_node * j) j 0 now slots

-- n nodes from number j on
unfoldable pub valid_nodes : ℕ → ℕ → State → List Slot → Bool
valid_nodes zero j s slots = true
valid_nodes (suc n) j s slots = valid_node s.round j (node_state s j) slots && valid_nodes n (suc j) s slots

unfoldable pub valid_state : State → List Slot → Bool
valid_state s slots = leb 2 s.count && leb s.count 8 && valid_nodes s.count 0 s slots
