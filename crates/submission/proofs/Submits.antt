-- A submitted buffer by what was found of it.
-- Assumes nothing.
use mathlib.Core.Path.{◌≡◌, ap, ◌∙◌}
use mathlib.Core.List.{List}
use Prim.Native.Nat.{ℕ, ◌*◌, ◌≤◌, ◌<◌}
use lib.ListN.{length}
use borrow.Author.Tests.{lt-ltb, le-ltb}
use Rattle.decoder.specs.Stream.{items_of}
use Rattle.slots.specs.Blocks.{set_block, block_at}
use Rattle.slots.specs.declared.Slot.{Slot}
use Rattle.slots.proofs.Blocks.{same_block}
use Rattle.plain_bus.specs.Calls.{max_submit}
use Rattle.bus_state.specs.Memory.{Memory, held, slots_per_node}
use Rattle.bus_state.specs.declared.State.{State}
use Rattle.bus_state.specs.declared.NodeState.{NodeState}
use Rattle.bus_model.specs.Calls.{taken_in, submitted}
use Rattle.outcome.specs.Ended.{ended}
use Rattle.outcome.specs.declared.Refusal.{Refusal}
use Rattle.outcome.specs.declared.Refusal.TheVariants.{NotAttached, BufferTooLong}
use Rattle.outcome.specs.declared.Done.TheVariants.{Accepted}
use Rattle.std.specs.Prelude.{Ok, Err}
use Rattle.submission.specs.Counting.{check_items}
use Rattle.submission.specs.Carrying.{memory_after_all, first_slot}
use Rattle.submission.specs.Checked.{refusal_of, Passed, Refused}
use Rattle.submission.specs.declared.Lack.{Lack}
use Rattle.submission.specs.declared.Lack.TheVariants.{FourPending, QueueFull}
use Rattle.submission.proofs.Counts.{gives, items-count}

-- the first slot of a node that can be attached
pub first_slot_of : (node : ℕ) → node < 8 → first_slot node ≡ slots_per_node * node
unfolding first_slot
first_slot_of node h = rw (lt-ltb node 8 h)

-- the slots that are there, laid again
pub laid_again : (a : List Slot) (at : ℕ) {four : List Slot} → block_at a at ≡ four → set_block a at four ≡ a
laid_again a at e = rw (← e) (same_block a at)

module _ (s : State) (a : List Slot) (p q : List ℕ) (k : ℕ) (buffer : List ℕ) where
  -- of a buffer of an attached node that is not too long the check decides
  decided : k < s.count → length buffer ≤ max_submit
      → submitted (held s a p q) k buffer
      ≡ taken_in (held s a p q) (gives (check_items k (items_of buffer) s) (memory_after_all k (items_of buffer) (held s a p q)))
  unfolding submitted
  decided h l =
      rw (lt-ltb k s.count h, le-ltb max_submit (length buffer) l) (ap (taken_in (held s a p q)) (items-count k (items_of buffer) (held s a p q)))

  pub all-taken : {d : NodeState} {m : Memory} → Passed s k buffer d → m ≡ memory_after_all k (items_of buffer) (held s a p q)
      → record { outcome = Ok Accepted; memory = m } ≡ ended (submitted (held s a p q) k buffer)
  all-taken t e = rw (decided t.attached t.short, t.goes, e)

-- the refusals, in their order
module _ (s : State) (k : ℕ) (buffer : List ℕ) where
  pub not-attached : s.count ≤ k → Refused s k buffer NotAttached
  unfolding submitted
  not-attached h a p q = rw (le-ltb k s.count h)

  pub too_long : k < s.count → max_submit < length buffer → Refused s k buffer BufferTooLong
  unfolding submitted
  too_long h l a p q = rw (lt-ltb k s.count h, lt-ltb max_submit (length buffer) l)

  pub lacking : {lack : Lack} → k < s.count → length buffer ≤ max_submit → check_items k (items_of buffer) s ≡ Err lack
      → Refused s k buffer (refusal_of lack)
  lacking {lack = FourPending} h l v a p q = rw (decided s a p q k buffer h l, v)
  lacking {lack = QueueFull} h l v a p q = rw (decided s a p q k buffer h l, v)

-- a refusal lays the slots that were there
pub laid-same : (s : State) (k : ℕ) (buffer : List ℕ) {r : Refusal} → Refused s k buffer r → (a : List Slot) (at : ℕ) {four : List Slot}
    → block_at a at ≡ four → (p q : List ℕ)
    → record { outcome = Err r; memory = held s (set_block a at four) p q } ≡ ended (submitted (held s a p q) k buffer)
laid-same s k buffer {r} h a at e p q = ap (λ (x : List Slot). record { outcome = Err r; memory = held s x p q }) (laid_again a at e) ∙ h a p q
