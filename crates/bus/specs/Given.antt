-- Internal. What the functions below the public calls are given of the lent slots, and what a start comes to.
-- Assumes nothing.
use Rattle.std.specs.Prelude.{◌≡◌, ℕ, List, map, length}
use Rattle.slots.specs.Blocks.{block_at}
use Rattle.slots.specs.declared.Slot.{Slot}
use Rattle.bus_state.specs.Memory.{held, slot_count}
use Rattle.bus_state.specs.declared.State.{State}
use Rattle.scan.specs.Scan.{winner_block, scanned}
use Rattle.outcome.specs.Ended.{Ended}
use Rattle.bus.specs.declared.Started.{Started}

-- what a start comes to
abbrev pub started_by : Started → List ℕ → List ℕ → Ended
started_by c payload queues = record { outcome = c.outcome; memory = held c.state c.slots payload queues }

-- ---- the slots that a call is made on

-- all 32 of them, and what the pass over them comes to
pub record Scanned (s : State) (key : ℕ) (a : List Slot) : Type 0 where
  pub slots : length a ≡ slot_count
  pub key-is : scanned s a ≡ key

-- some number of them, and the key where they are 32
pub record Counted (s : State) (slots : ℕ) (key : ℕ) (a : List Slot) : Type 0 where
  pub count : length a ≡ slots
  pub key-is : length a ≡ slot_count → scanned s a ≡ key

-- and what a round takes of them: the four of the winner's node, and the ID in every one
pub record Taken (s : State) (key : ℕ) (four : List Slot) (ids : List ℕ) (a : List Slot) : Type 0 where
  pub scan : Scanned s key a
  pub block : block_at a (winner_block key) ≡ four
  pub named : map (λ (x : Slot). x.id) a ≡ ids
