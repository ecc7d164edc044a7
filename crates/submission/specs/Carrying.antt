-- Internal. Carrying a submitted buffer out, once every step of it can be done: what each step leaves of the memory (01, "Handing in").
-- Assumes nothing.
use Rattle.std.specs.Prelude.{ℕ, zero, suc, ◌+◌, ◌*◌, List, [], ◌∷◌, cond, ltb, get_or, set, drop}
use Rattle.buffers.specs.Parts.{over}
use Rattle.operation.specs.Format.{head_length, encode}
use Rattle.operation.specs.declared.Operation.TheVariants.{Wakeup}
use Rattle.decoder.specs.Stream.{Item, bytes_of}
use Rattle.plain_bus.specs.Submit.{format_error}
use Rattle.bus_state.specs.Memory.{Memory, slots_per_node, bytes_per_queue, no_node}
use Rattle.bus_state.specs.Entries.{entry_behaviour, entry_rates}
use Rattle.bus_state.specs.declared.NodeState.{NodeState}
use Rattle.bus_model.specs.Primitives.{entry_at, off_at, set_entry, put_frame, append, in_turn}
use Rattle.bus_model.specs.Submit.{status_in, wake_at}
use Rattle.submission.specs.Effects.{effect_of}
use Rattle.submission.specs.Counting.{unreached, entry_woken}
use Rattle.submission.specs.declared.Effect.{Effect}
use Rattle.submission.specs.declared.Effect.TheVariants.{Nothing, Transmit, Answer, SetRate, SetBehaviour, SetStatus, Wake}

-- the memory after a step, by its effect and its bytes
unfoldable pub memory_after : Memory → ℕ → Effect → List ℕ → Memory
memory_after m k Nothing bytes = m
memory_after m k (Transmit op) bytes = cond (off_at m k) m (put_frame m k op (drop (head_length op) bytes))
memory_after m k Answer bytes = append m k (format_error bytes)
memory_after m k (SetRate i rate) bytes = set_entry m k (entry_rates (entry_at m k) (set (entry_at m k).rates i rate))
memory_after m k (SetBehaviour behaviour) bytes = set_entry m k (entry_behaviour (entry_at m k) behaviour)
memory_after m k (SetStatus status) bytes = status_in m k status
memory_after m k Wake bytes = cond (off_at m k) m (in_turn (wake_at k) 0 m.state.count m)

-- and after all steps
unfoldable pub memory_after_all : ℕ → List Item → Memory → Memory
memory_after_all k [] m = m
memory_after_all k (i ∷ is) m = memory_after_all k is (memory_after m k (effect_of i) (bytes_of i))

-- bytes behind those of node j's queue, by its entry
abbrev pub queue_with : NodeState → ℕ → List ℕ → List ℕ → List ℕ
queue_with d j queues bytes = over queues (bytes_per_queue * j + d.fill) bytes

-- the queues after node j gets one more Wakeup of node k behind u of them, and after n nodes from number j on do
unfoldable pub wakeup_laid : NodeState → ℕ → ℕ → ℕ → List ℕ → List ℕ
wakeup_laid d k u j queues = cond (unreached d.status k j) queues (queue_with (entry_woken d k u j) j queues (encode Wakeup []))

unfoldable pub wakeups_laid : List NodeState → ℕ → ℕ → ℕ → ℕ → List ℕ → List ℕ
wakeups_laid nodes k u j zero queues = queues
wakeups_laid nodes k u j (suc n) queues = wakeups_laid nodes k u (suc j) n (wakeup_laid (get_or nodes j no_node) k u j queues)

-- the first of a node's four slots; of a number past the last node slot 0
unfoldable pub first_slot : ℕ → ℕ
first_slot node = cond (ltb node 8) (slots_per_node * node) 0
