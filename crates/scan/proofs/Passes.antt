-- The pass, one slot and one node at a time.
-- Assumes nothing.
use mathlib.Core.Path.{◌≡◌, refl, ap}
use mathlib.Core.List.{List}
use Prim.Native.Nat.{ℕ, suc, ◌-◌, ◌≤◌, ◌<◌}
use native.Mathlib.Omega.{arith}
use lib.ListN.{get_or}
use Rattle.slots.specs.Slots.{free_slot}
use Rattle.slots.specs.declared.Slot.{Slot}
use Rattle.bus_state.specs.Memory.{node_state}
use Rattle.bus_state.specs.declared.State.{State}
use Rattle.scan.specs.declared.Run.{Run}
use Rattle.scan.specs.Scan.{step_of, steps_of, frames_key, entry_key, frame_count, nodes_key, attached_count, first_key, scanned}

module _ (a : List Slot) (j p end : ℕ) (r : Run) where
  pub steps_next : p < end → steps_of (end - suc p) (suc p) j a (step_of r (get_or a p free_slot) j p) ≡ steps_of (end - p) p j a r
  unfolding steps_of
  steps_next h =
      let n : suc (end - suc p) ≡ end - p = omega arith in
      ap (λ (k : ℕ). steps_of k p j a r) n

  pub steps_end : end ≤ p → steps_of (end - p) p j a r ≡ r
  unfolding steps_of
  steps_end h =
      let n : end - p ≡ 0 = omega arith in
      ap (λ (k : ℕ). steps_of k p j a r) n

module _ (s : State) (a : List Slot) (j count key : ℕ) where
  pub nodes-next : j < count
      → nodes_key (count - suc j) (suc j) s a (frames_key (frame_count (node_state s j)) j s.round a (entry_key (node_state s j) key))
      ≡ nodes_key (count - j) j s a key
  unfolding nodes_key
  nodes-next h =
      let n : suc (count - suc j) ≡ count - j = omega arith in
      ap (λ (k : ℕ). nodes_key k j s a key) n

  pub nodes-end : count ≤ j → nodes_key (count - j) j s a key ≡ key
  unfolding nodes_key
  nodes-end h =
      let n : count - j ≡ 0 = omega arith in
      ap (λ (k : ℕ). nodes_key k j s a key) n

pub nodes-start : (s : State) (a : List Slot) → nodes_key (attached_count s) 0 s a (first_key s) ≡ scanned s a
unfolding scanned
nodes-start s a = refl
