-- Internal. One pass over the pending frames: it tests whether state and slots are valid and finds the winner, both in one number, the
-- key.
-- Assumes nothing.
use Rattle.std.specs.Prelude.{ℕ, zero, suc, ◌+◌, ◌*◌, ◌-◌, ◌/◌, ◌%◌, List, cond, ◌&&◌, ◌||◌, leb, ltb, eqb, get_or, Option, None, Some}
use Rattle.slots.specs.Slots.{free_slot}
use Rattle.slots.specs.declared.Slot.{Slot}
use Rattle.bus_state.specs.Memory.{slots_per_node, node_state, slot_count}
use Rattle.bus_state.specs.Valid.{valid_entry}
use Rattle.bus_state.specs.Follows.{slot_follows}
use Rattle.bus_state.specs.declared.State.{State}
use Rattle.bus_state.specs.declared.NodeState.{NodeState}
use Rattle.scan.specs.declared.Run.{Run}
use Rattle.scan.specs.declared.Winner.{Winner}

-- ---- the key: 0 for what is not valid, else a number by which the frames are in their order

-- of a frame of this rank in slot p
abbrev pub frame_key : ℕ → ℕ → ℕ
frame_key rank p = rank * slot_count + p + 1

-- above that of every frame
abbrev pub no_frame : ℕ
no_frame = 137_438_953_473

unfoldable pub key_of : Option Winner → ℕ
key_of None = no_frame
key_of (Some w) = frame_key w.rank (slots_per_node * w.owner + w.position)

-- the first slot of the winner's node, by the key; 0 where there is no winner
unfoldable pub winner_block : ℕ → ℕ
winner_block key = cond (eqb key 0 || leb no_frame key) 0 (slots_per_node * ((key - 1) % slot_count / slots_per_node))

abbrev pub lower_of : ℕ → ℕ → ℕ
lower_of a b = cond (ltb a b) a b

-- ---- one node

-- the key with one more slot, p of node j, behind one that was accepted at round `low`
unfoldable pub step_of : Run → Slot → ℕ → ℕ → Run
step_of r x j p =
    record { key = cond (slot_follows j r.low x) (lower_of (frame_key x.id p) r.key) 0; low = x.accepted }

-- with n slots from p on
unfoldable pub steps_of : ℕ → ℕ → ℕ → List Slot → Run → Run
steps_of zero p j a r = r
steps_of (suc n) p j a r = steps_of n (suc p) j a (step_of r (get_or a p free_slot) j p)

abbrev pub begun : ℕ → Run
begun key = record { key = key; low = 0 }

-- 0 where the last frame was accepted after `now`
abbrev pub run_key : Run → ℕ → ℕ
run_key r now = cond (leb r.low now) r.key 0

-- the key with n frames of node j
abbrev pub frames_key : ℕ → ℕ → ℕ → List Slot → ℕ → ℕ
frames_key n j now a key = run_key (steps_of n (slots_per_node * j) j a (begun key)) now

-- an entry that is not valid makes the key 0, and none of its frames is gone along
abbrev pub entry_key : NodeState → ℕ → ℕ
entry_key d key = cond (valid_entry d) key 0

abbrev pub frame_count : NodeState → ℕ
frame_count d = cond (valid_entry d) d.pending 0

-- ---- all nodes

-- the key with n nodes from number j on
unfoldable pub nodes_key : ℕ → ℕ → State → List Slot → ℕ → ℕ
nodes_key zero j s a key = key
nodes_key (suc n) j s a key =
    nodes_key n (suc j) s a (frames_key (frame_count (node_state s j)) j s.round a (entry_key (node_state s j) key))

-- how many nodes are attached, and the key before any; none where the number is not allowed
abbrev pub attached_count : State → ℕ
attached_count s = cond (leb 2 s.count && leb s.count 8) s.count 0

abbrev pub first_key : State → ℕ
first_key s = cond (leb 2 s.count && leb s.count 8) no_frame 0

unfoldable pub scanned : State → List Slot → ℕ
scanned s a = nodes_key (attached_count s) 0 s a (first_key s)
