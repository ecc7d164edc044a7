-- An accepted start is valid, and every start is that of the plain bus on the view.
-- Assumes nothing.
use mathlib.Core.Path.{◌≡◌, refl, sym, ◌∙◌}
use Prim.Native.Nat.{ℕ, zero, suc, ◌≤◌, ◌<◌}
use native.Mathlib.Omega.{arith}
use mathlib.Core.Bool.{true, ◌&&◌}
use lib.Dec.{leb, eqb}
use lib.ListN.{length, get_or, replicate, length-replicate, get_or-replicate}
use borrow.Author.Tests.{leb-true, eqb-true}
use Rattle.operation.proofs.Tests.{both}
use Rattle.slots.specs.Slots.{free_slot}
use Rattle.slots.specs.declared.Slot.{Slot}
use Rattle.plain_bus.specs.Held.{new_node, new_bus}
use Rattle.plain_bus.specs.Calls.{accepted, gives, start}
use Rattle.plain_bus.proofs.Preserved.{start-valid}
use Rattle.buffers.specs.Parts.{part}
use Rattle.bus_state.specs.Memory.{Memory, no_node, slot_at, frames_from, node_view, view, lent_well}
use Rattle.bus_model.specs.Primitives.{entry_at, new_entry, new_state, start_memory}
use Rattle.bus_model.specs.Calls.{replies, start_in}
use Rattle.bus_model.specs.Refines.{Sized, Refines}
use Rattle.bus_model.proofs.Buses.{view_is}
use Rattle.bus_model.proofs.Validity.{Good}
use Rattle.bus_model.proofs.Checked.{changed}

-- the same at every position
replicate_any : (n i : ℕ) (s : Slot) → get_or (replicate n s) i s ≡ s
replicate_any zero i s = refl
replicate_any (suc n) zero s = refl
replicate_any (suc n) (suc i) s = replicate_any n i s

module _ (m : Memory) (count : ℕ) (least : 2 ≤ count) (most : count ≤ 8) (lent : lent_well m ≡ true) where
  new_entry_lem : (j : ℕ) → j < 8 → entry_at (start_memory m count) j ≡ new_entry
  unfolding start_memory new_state
  new_entry_lem j h = get_or-replicate 8 j new_entry no_node h

  new_view : (j : ℕ) → j < 8 → node_view (start_memory m count) j ≡ new_node
  unfolding node_view frames_from part
  new_view j h = rw (new_entry_lem j h)

  new_slot : (p : ℕ) → slot_at (start_memory m count) p ≡ free_slot
  unfolding start_memory
  new_slot p = replicate_any 32 p free_slot

  start-view : view (start_memory m count) ≡ new_bus count
  unfolding start_memory new_state
  start-view =
      view_is (start_memory m count) (new_bus count) (length-replicate count new_node) refl
      (λ i h. new_view i (omega arith) ∙ sym (get_or-replicate count i new_node new_node h))

  start-sized : Sized (start_memory m count)
  unfolding start_memory new_state lent_well
  start-sized =
      let a = both _ (eqb (length m.queues) 32_768) lent in
      let b = both (eqb (length m.slots) 32) (eqb (length m.payload) 65_536) a.0 in
      record {
        slots = length-replicate 32 free_slot;
        payload = eqb-true (length m.payload) 65_536 b.1;
        queues = eqb-true (length m.queues) 32_768 a.1;
        nodes = length-replicate 8 new_entry;
      }

  start-good : Good (start_memory m count)
  unfolding start_memory new_state
  start-good = record {
    typed = record {
      sized = start-sized;
      round = omega arith;
      rates = λ j h. rw (new_entry_lem j h);
      fields = λ p. rw (new_slot p) (record { af = omega arith; third = omega arith; fourth = omega arith });
    };
    valid = rw start-view (start-valid (record { bus = refl; least = least; most = most })).valid;
    fill = λ j h. rw (new_entry_lem j (omega arith)) (omega arith);
    owned = λ j h q l. let l' : q < 0 = rw (new_entry_lem j (omega arith)) at l in absurd (omega arith);
  }

  start-accepted : Refines (replies accepted (start_memory m count)) (gives accepted (new_bus count))
  start-accepted = changed (start_memory m count) (new_bus count) start-good start-view accepted

-- a start that is accepted
pub start_refines : (m : Memory) (count : ℕ) → lent_well m ≡ true → (leb 2 count && leb count 8) ≡ true
    → Refines (start_in m count) (start count)
unfolding start_in start
start_refines m count lent e =
    let a = both (leb 2 count) (leb count 8) e in
    rw (lent, e) (start-accepted m count (leb-true 2 count a.0) (leb-true count 8 a.1) lent)
