-- Contract. What a result of the model comes to: its outcome, and the memory after it.
-- Assumes nothing.
use Rattle.std.specs.Prelude.{ℕ, List, Err}
use Rattle.slots.specs.Blocks.{set_block}
use Rattle.slots.specs.declared.Slot.{Slot}
use Rattle.bus_state.specs.Memory.{Memory, held}
use Rattle.bus_model.specs.Calls.{Reply, wrong_memory, answers, Result}
use Rattle.outcome.specs.Outcome.{Outcome, outcome_of}
use Rattle.bus_state.specs.declared.State.{State}
use Rattle.outcome.specs.declared.Refusal.{Refusal}
use Rattle.outcome.specs.declared.Refusal.TheVariants.{WrongMemory}
use Rattle.outcome.specs.declared.Change.{Change}

-- the case of a reply
abbrev pub outcome_is : Reply → Outcome
outcome_is wrong_memory = Err WrongMemory
outcome_is (answers a) = outcome_of a

-- an outcome with the memory after it
pub record Ended : Type 0 where
  pub outcome : Outcome
  pub memory : Memory

-- the change of a call that is refused: what is there stays
abbrev pub refused : Refusal → State → ℕ → List Slot → Change
refused refusal s at block = record { outcome = Err refusal; state = s; at = at; block = block }

-- what a change comes to on the slots that it was made for
abbrev pub ended_by : Change → List Slot → List ℕ → List ℕ → Ended
ended_by c slots payload queues =
    record { outcome = c.outcome; memory = held c.state (set_block slots c.at c.block) payload queues }

-- what a result of the model comes to
abbrev pub ended : Result → Ended
ended r = record { outcome = outcome_is r.reply; memory = r.memory }
