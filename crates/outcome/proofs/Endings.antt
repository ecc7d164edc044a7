-- What changes nothing leaves the memory as it was.
-- Assumes nothing.
use mathlib.Core.Path.{◌≡◌, ap, ◌∙◌}
use mathlib.Core.List.{List}
use Prim.Native.Nat.{ℕ}
use Rattle.slots.proofs.Blocks.{same_block}
use Rattle.slots.specs.declared.Slot.{Slot}
use Rattle.bus_state.specs.Memory.{held}
use Rattle.bus_state.specs.declared.State.{State}
use Rattle.outcome.specs.Ended.{ended_by}
use Rattle.slots.specs.Blocks.{block_at}
use Rattle.outcome.specs.Outcome.{Outcome}

-- four slots that are there, laid again
pub block-kept-ends : (o : Outcome) (s : State) (a : List Slot) (at : ℕ) (p q : List ℕ) {four : List Slot} → four ≡ block_at a at
    → ended_by (record { outcome = o; state = s; at = at; block = four }) a p q ≡ record { outcome = o; memory = held s a p q }
block-kept-ends o s a at p q e =
    ap (λ (l : List Slot). ended_by (record { outcome = o; state = s; at = at; block = l }) a p q) e
    ∙ ap (λ (l : List Slot). record { outcome = o; memory = held s l p q }) (same_block a at)
