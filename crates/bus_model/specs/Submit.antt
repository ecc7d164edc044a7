-- Contract. Submitting a buffer to the state and the lent memory, one step an item (01, "Handing in").
-- Assumes nothing.
use Rattle.std.specs.Prelude.{ℕ, zero, suc, ◌+◌, ◌-◌, List, [], ◌∷◌, Bool, true, cond, ◌&&◌, ◌||◌, leb, eqb, length, set, drop}
use Rattle.operation.specs.Format.{head_length, encode}
use Rattle.operation.specs.declared.Operation.{Operation}
use Rattle.operation.specs.declared.Operation.TheVariants.{FormatError, CanTransmit, FdTransmit, XlTransmit, Confirm, ArbitrationLost, BusError, Configuration, Status, Wakeup}
use Rattle.decoder.specs.Stream.{Item, operation, fault}
use Rattle.plain_bus.specs.Held.{bus_off}
use Rattle.plain_bus.specs.Refusal.{Refusal, four_pending, queue_full}
use Rattle.plain_bus.specs.Submit.{format_error, unanswered}
use Rattle.bus_state.specs.Memory.{Memory, slots_per_node, bytes_per_queue}
use Rattle.bus_state.specs.Entries.{entry_status, entry_behaviour, entry_rates}
use Rattle.bus_model.specs.Primitives.{entry_at, off_at, set_entry, put_frame, append, clear_node, in_turn}

-- what a step gives: the memory after it, or the refusal
pub data Progress : Type 0 where
  goes_on : Memory → Progress
  stops : Refusal → Progress

-- ---- room

abbrev pub room_at : Memory → ℕ → List ℕ → Bool
room_at m j bytes = leb ((entry_at m j).fill + length bytes) bytes_per_queue

-- each of n queues from number j on has room for its part
unfoldable pub room_for_each : (ℕ → List ℕ) → Memory → ℕ → ℕ → Bool
room_for_each part m j zero = true
room_for_each part m j (suc n) = room_at m j (part j) && room_for_each part m (suc j) n

-- ---- the steps

unfoldable pub transmit_in : Memory → ℕ → Operation → List ℕ → Progress
transmit_in m k op bytes =
    cond (off_at m k) (goes_on m)
    (cond (leb slots_per_node (entry_at m k).pending) (stops four_pending) (goes_on (put_frame m k op (drop (head_length op) bytes))))

unfoldable pub configure_in : Memory → ℕ → ℕ → ℕ → Memory
configure_in m k kind value =
    cond (eqb kind 4) (set_entry m k (entry_behaviour (entry_at m k) value))
    (set_entry m k (entry_rates (entry_at m k) (set (entry_at m k).rates (kind - 1) value)))

abbrev pub status_of : Memory → ℕ → ℕ → Memory
status_of m k status = set_entry m k (entry_status (entry_at m k) status)

unfoldable pub status_in : Memory → ℕ → ℕ → Memory
status_in m k status = status_of (cond (eqb status bus_off) (clear_node m k) m) k status

-- what a Wakeup of node k adds at node j
unfoldable pub wakeup_at : ℕ → Memory → ℕ → List ℕ
wakeup_at k m j = cond (eqb j k || off_at m j) [] (encode Wakeup [])

abbrev pub wake_at : ℕ → Memory → ℕ → Memory
wake_at k m j = append m j (wakeup_at k m j)

unfoldable pub wakeup_in : Memory → ℕ → Progress
wakeup_in m k =
    cond (off_at m k) (goes_on m)
    (cond (room_for_each (wakeup_at k m) m 0 m.state.count) (goes_on (in_turn (wake_at k) 0 m.state.count m)) (stops queue_full))

unfoldable pub answer_in : Memory → ℕ → List ℕ → Progress
answer_in m k bytes = cond (room_at m k (format_error bytes)) (goes_on (append m k (format_error bytes))) (stops queue_full)

-- one step: an item of node k's buffer
unfoldable pub item_in : Memory → ℕ → Item → Progress
item_in m k (operation (FormatError n) bytes) = goes_on m
item_in m k (operation (CanTransmit id ide rtr dl) bytes) = transmit_in m k (CanTransmit id ide rtr dl) bytes
item_in m k (operation (FdTransmit id ide brs esi dl) bytes) = transmit_in m k (FdTransmit id ide brs esi dl) bytes
item_in m k (operation (XlTransmit id ide sec sdt vcid af dl) bytes) =
    transmit_in m k (XlTransmit id ide sec sdt vcid af dl) bytes
item_in m k (operation (Confirm id) bytes) = answer_in m k bytes
item_in m k (operation (ArbitrationLost id) bytes) = answer_in m k bytes
item_in m k (operation (BusError id code flag sender) bytes) = answer_in m k bytes
item_in m k (operation (Configuration kind value) bytes) = goes_on (configure_in m k kind value)
item_in m k (operation (Status status) bytes) = goes_on (status_in m k status)
item_in m k (operation Wakeup bytes) = wakeup_in m k
item_in m k (fault number bytes) = cond (unanswered bytes) (goes_on m) (answer_in m k bytes)

-- all steps, one by one: the first that fails decides
unfoldable pub items_in : ℕ → List Item → Progress → Progress
items_in k [] s = s
items_in k (i ∷ is) (stops r) = stops r
items_in k (i ∷ is) (goes_on m) = items_in k is (item_in m k i)
