-- Internal. Submitting a buffer, as far as the state goes: every refusal and every change of the state is decided by statuses, counts and
-- fills alone (01, "Handing in"). The lent memory takes no part.
-- Assumes nothing.
use Rattle.std.specs.Prelude.{ℕ, zero, suc, ◌+◌, ◌*◌, List, [], ◌∷◌, Bool, true, false, cond, not, ◌&&◌, ◌||◌, leb, eqb, length, get_or, set, Result, Ok, Err}
use Rattle.operation.specs.Format.{length_of}
use Rattle.operation.specs.declared.Operation.TheVariants.{FormatError, Wakeup}
use Rattle.decoder.specs.Stream.{Item, bytes_of}
use Rattle.plain_bus.specs.Held.{bus_off}
use Rattle.bus_state.specs.Memory.{slots_per_node, bytes_per_queue, no_node, node_state, is_off}
use Rattle.bus_state.specs.Entries.{entry_status, entry_behaviour, entry_rates, entry_fill, entry_pending, with_entry}
use Rattle.bus_state.specs.declared.State.{State}
use Rattle.bus_state.specs.declared.NodeState.{NodeState}
use Rattle.submission.specs.Effects.{effect_of}
use Rattle.submission.specs.declared.Effect.{Effect}
use Rattle.submission.specs.declared.Effect.TheVariants.{Nothing, Transmit, Answer, SetRate, SetBehaviour, SetStatus, Wake}
use Rattle.submission.specs.declared.Lack.{Lack}
use Rattle.submission.specs.declared.Lack.TheVariants.{FourPending, QueueFull}

-- ---- Wakeups of node k, each to every other node that is not Bus-Off, on the entries of all nodes

-- they do not go to node j, of this status
abbrev pub unreached : ℕ → ℕ → ℕ → Bool
unreached status k j = eqb j k || eqb status bus_off

-- how many bytes one adds there
unfoldable pub wakeup_length : ℕ → ℕ → ℕ → ℕ
wakeup_length status k j = cond (unreached status k j) 0 (length_of Wakeup)

-- the fill of node j's queue with u of them
abbrev pub fill_woken : NodeState → ℕ → ℕ → ℕ → ℕ
fill_woken d k u j = d.fill + u * wakeup_length d.status k j

abbrev pub entry_woken : NodeState → ℕ → ℕ → ℕ → NodeState
entry_woken d k u j = entry_fill d (fill_woken d k u j)

-- each of n queues from number j on has room for u of them
unfoldable pub wakeup_room : List NodeState → ℕ → ℕ → ℕ → ℕ → Bool
wakeup_room nodes k u j zero = true
wakeup_room nodes k u j (suc n) = leb (fill_woken (get_or nodes j no_node) k u j) bytes_per_queue && wakeup_room nodes k u (suc j) n

-- n nodes from number j on get u of them
unfoldable pub woken_from : List NodeState → ℕ → ℕ → ℕ → ℕ → List NodeState
woken_from nodes k u j zero = nodes
woken_from nodes k u j (suc n) = woken_from (set nodes j (entry_woken (get_or nodes j no_node) k u j)) k u (suc j) n

-- the state with u of them
abbrev pub woken_by : State → ℕ → ℕ → State
woken_by s k u = record { count = s.count; round = s.round; nodes = woken_from s.nodes k u 0 s.count }

-- ---- a step, by its effect and the number of its bytes: on the sender's entry

-- a Wakeup goes to the other nodes; from a Bus-Off node it has no effect
unfoldable pub is_wakeup : NodeState → Effect → Bool
is_wakeup d Nothing = false
is_wakeup d (Transmit op) = false
is_wakeup d Answer = false
is_wakeup d (SetRate i rate) = false
is_wakeup d (SetBehaviour behaviour) = false
is_wakeup d (SetStatus status) = false
is_wakeup d Wake = not (is_off d)

-- of the Format Error that answers so many bytes
abbrev pub answer_length : ℕ → ℕ
answer_length size = length_of (FormatError size)

-- whether the entry lets the step be done, or what it lacks
unfoldable pub entry_check : NodeState → Effect → ℕ → Result (Unit {0}) Lack
entry_check d Nothing size = Ok tt
entry_check d (Transmit op) size = cond (is_off d) (Ok tt) (cond (leb slots_per_node d.pending) (Err FourPending) (Ok tt))
entry_check d Answer size = cond (leb (d.fill + answer_length size) bytes_per_queue) (Ok tt) (Err QueueFull)
entry_check d (SetRate i rate) size = Ok tt
entry_check d (SetBehaviour behaviour) size = Ok tt
entry_check d (SetStatus status) size = Ok tt
entry_check d Wake size = Ok tt

-- no pending frame and no byte in the queue
abbrev pub cleared : NodeState → NodeState
cleared d = entry_fill (entry_pending d 0) 0

-- Status Bus-Off clears the node
unfoldable pub status_set : NodeState → ℕ → NodeState
status_set d status = entry_status (cond (eqb status bus_off) (cleared d) d) status

-- the entry after the step
unfoldable pub entry_after : NodeState → Effect → ℕ → NodeState
entry_after d Nothing size = d
entry_after d (Transmit op) size = cond (is_off d) d (entry_pending d (d.pending + 1))
entry_after d Answer size = entry_fill d (d.fill + answer_length size)
entry_after d (SetRate i rate) size = entry_rates d (set d.rates i rate)
entry_after d (SetBehaviour behaviour) size = entry_behaviour d behaviour
entry_after d (SetStatus status) size = status_set d status
entry_after d Wake size = d

-- ---- and on the state: a Wakeup by all queues, any other step of node k by its entry

-- whether the step can be done, or what it lacks
unfoldable pub check : State → ℕ → Effect → ℕ → Result (Unit {0}) Lack
check s k e size =
    cond (is_wakeup (node_state s k) e) (cond (wakeup_room s.nodes k 1 0 s.count) (Ok tt) (Err QueueFull)) (entry_check (node_state s k) e size)

-- the state after the step
unfoldable pub state_after : State → ℕ → Effect → ℕ → State
state_after s k e size =
    cond (is_wakeup (node_state s k) e) (woken_by s k 1) (with_entry s k (entry_after (node_state s k) e size))

-- ---- all steps of a buffer, one by one: the first that can't be done decides

abbrev pub and_then : Result (Unit {0}) Lack → Result (Unit {0}) Lack → Result (Unit {0}) Lack
and_then (Ok z) v = v
and_then (Err lack) v = Err lack

unfoldable pub check_items : ℕ → List Item → State → Result (Unit {0}) Lack
check_items k [] s = Ok tt
check_items k (i ∷ is) s =
    and_then (check s k (effect_of i) (length (bytes_of i))) (check_items k is (state_after s k (effect_of i) (length (bytes_of i))))
