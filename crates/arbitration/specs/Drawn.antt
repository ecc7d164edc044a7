-- Internal. What a round is given of the slots: the winner, the four slots of its node, and the ID in every slot.
-- Assumes nothing.
use Rattle.std.specs.Prelude.{ℕ, ◌*◌, ◌≡◌, true, List, map, length, Option}
use Rattle.slots.specs.declared.Slot.{Slot}
use Rattle.bus_state.specs.Memory.{slot_count, slots_per_node}
use Rattle.bus_state.specs.Valid.{valid_state}
use Rattle.bus_state.specs.declared.State.{State}
use Rattle.slots.specs.Blocks.{block_at}
use Rattle.scan.specs.declared.Winner.{Winner}
use Rattle.scan.specs.Winner.{best_in, owner_of}

-- they are those of some slots that are valid with the state
pub record Drawn (s : State) (a : List Slot) (best : Option Winner) (four : List Slot) (ids : List ℕ) : Type 0 where
  pub slots : length a ≡ slot_count
  pub valid : valid_state s a ≡ true
  pub first : best ≡ best_in s a
  pub block : four ≡ block_at a (slots_per_node * owner_of best)
  pub named : ids ≡ map (λ (x : Slot). x.id) a
