-- Internal. What the tests of a submitted buffer come to (01, "Handing in").
-- Assumes nothing.
use Rattle.std.specs.Prelude.{◌≡◌, ◌<◌, ◌≤◌, ℕ, List, length, Ok, Err}
use Rattle.decoder.specs.Stream.{items_of}
use Rattle.slots.specs.declared.Slot.{Slot}
use Rattle.plain_bus.specs.Calls.{max_submit}
use Rattle.bus_state.specs.Memory.{held, node_state}
use Rattle.bus_state.specs.declared.State.{State}
use Rattle.bus_state.specs.declared.NodeState.{NodeState}
use Rattle.bus_model.specs.Calls.{submitted}
use Rattle.outcome.specs.Ended.{ended}
use Rattle.outcome.specs.declared.Refusal.{Refusal}
use Rattle.outcome.specs.declared.Refusal.TheVariants as refusal
use Rattle.submission.specs.Counting.{check_items}
use Rattle.submission.specs.declared.Lack.{Lack}
use Rattle.submission.specs.declared.Lack.TheVariants.{FourPending, QueueFull}

-- the refusal of a step, by what it lacks
abbrev pub refusal_of : Lack → Refusal
refusal_of FourPending = refusal.FourPending
refusal_of QueueFull = refusal.QueueFull

-- a buffer of a node that nothing refuses, with the node's entry
pub record Passed (s : State) (node : ℕ) (buffer : List ℕ) (d : NodeState) : Type 0 where
  pub attached : node < s.count
  pub short : length buffer ≤ max_submit
  pub entry : d ≡ node_state s node
  pub goes : check_items node (items_of buffer) s ≡ Ok tt

-- one that is refused: whatever the lent memory is, it stays
abbrev pub Refused : State → ℕ → List ℕ → Refusal → Type 0
Refused s node buffer r =
    (a : List Slot) (p q : List ℕ) → record { outcome = Err r; memory = held s a p q } ≡ ended (submitted (held s a p q) node buffer)
