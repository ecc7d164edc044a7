-- Internal. What is proved of each call (proofs: start_refines, submit_refines, round_refines, collect_refines): with memory as its types
-- and sizes say, and valid, it is the plain call on the view.
-- Assumes nothing.
use Rattle.std.specs.Prelude.{ℕ, ◌≤◌, ◌<◌, ◌^◌, ◌≡◌, true, length}
use Rattle.slots.specs.declared.Slot.{Slot}
use Rattle.plain_bus.specs.Held.{last_round}
use Rattle.plain_bus.specs.Calls.{Outcome}
use Rattle.bus_state.specs.Memory.{Memory, slot_count, payload_bytes, queue_bytes, slot_at, view}
use Rattle.bus_state.specs.Valid.{valid_state}
use Rattle.bus_model.specs.Primitives.{entry_at}
use Rattle.bus_model.specs.Calls.{Result, answers}

-- the lengths of the lent memory, and of the state's entries
pub record Sized (m : Memory) : Type 0 where
  pub slots : length m.slots ≡ slot_count
  pub payload : length m.payload ≡ payload_bytes
  pub queues : length m.queues ≡ queue_bytes
  pub nodes : length m.state.nodes ≡ 8

-- what the types of a slot's fields say, where the content rules leave them free
pub record TypedSlot (s : Slot) : Type 0 where
  pub af : s.af < 2 ^ 32
  pub third : s.third < 2 ^ 8
  pub fourth : s.fourth < 2 ^ 8

-- memory as its types and sizes say
pub record TypedMemory (m : Memory) : Type 0 where
  pub sized : Sized m
  pub round : m.state.round ≤ last_round
  pub rates : (j : ℕ) → j < 8 → length (entry_at m j).rates ≡ 3
  pub fields : (p : ℕ) → TypedSlot (slot_at m p)

-- a result is that of the plain bus, and its memory is valid again
pub record Refines (r : Result) (o : Outcome) : Type 0 where
  pub bus : view r.memory ≡ o.bus
  pub answer : r.reply ≡ answers o.answer
  pub valid : valid_state r.memory.state r.memory.slots ≡ true
  pub typed : TypedMemory r.memory
