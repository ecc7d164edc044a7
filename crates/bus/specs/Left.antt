-- Contract. What a public call leaves: its answer, with the state in it, and the lent memory.
-- Assumes nothing.
use Rattle.std.specs.Prelude.{ℕ, List}
use Rattle.slots.specs.declared.Slot.{Slot}
use Rattle.bus_model.specs.Calls.{Result}
use Rattle.outcome.specs.Outcome.{answer_of}
use Rattle.outcome.specs.Ended.{outcome_is}
use Rattle.outcome.specs.declared.Answer.{Answer}

pub record Left : Type 0 where
  pub answer : Answer
  pub slots : List Slot
  pub payload : List ℕ
  pub queues : List ℕ

abbrev pub left : Answer → List Slot → List ℕ → List ℕ → Left
left answer slots payload queues = record { answer = answer; slots = slots; payload = payload; queues = queues }

-- what a result of the model leaves
abbrev pub leaves : Result → Left
leaves r =
    left (answer_of (outcome_is r.reply) r.memory.state) r.memory.slots r.memory.payload r.memory.queues
