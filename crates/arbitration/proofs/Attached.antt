-- What a valid state says of each attached node: its fill, and its frames, of which everything can be written.
-- Assumes nothing.
use mathlib.Core.Path.{◌≡◌, refl}
use mathlib.Core.Bool.{true}
use mathlib.Core.List.{List}
use Prim.Native.Nat.{ℕ, ◌+◌, ◌*◌, ◌≤◌, ◌<◌}
use native.Mathlib.Omega.{arith}
use lib.Dec.{leb}
use lib.ListN.{get_or}
use borrow.Author.Tests.{leb-true}
use Rattle.operation.specs.Kinds.{id_of}
use Rattle.operation.specs.Rules.{max_id, rules, legal}
use Rattle.operation.specs.declared.Operation.TheVariants.{CanTransmit, FdTransmit, XlTransmit}
use Rattle.operation.proofs.Sizes.{fd-short}
use Rattle.operation.proofs.Tests.{false_is_true, both, passed}
use Rattle.slots.specs.Slots.{free_slot, content_of, held_in, legal_content}
use Rattle.slots.specs.declared.Slot.{Slot}
use Rattle.slots.proofs.Contents.{by_kind}
use Rattle.bus_state.specs.Memory.{node_state}
use Rattle.bus_state.specs.Valid.{valid_state}
use Rattle.bus_state.specs.declared.State.{State}
use Rattle.bus_state.proofs.Validity.{slots_at, valid-count, valid_node_at}
use Rattle.bus_model.proofs.Lawful.{max_id_lem}
use Rattle.scan.specs.Winner.{held_at}
use Rattle.arbitration.specs.Owed.{Writable}

-- ---- a frame that meets the content rules

can_writable : (id ide rtr dl : ℕ) → legal (CanTransmit id ide rtr dl) ≡ true → Writable (CanTransmit id ide rtr dl)
unfolding legal rules
can_writable id ide rtr dl l =
    let b = leb-true id (max_id ide) (passed _ l 1) in
    let m = max_id_lem ide in
    let d = leb-true dl 8 (passed _ l 3) in
    record { lawful = l; id = omega arith; short = omega arith }

fd_writable : (id ide brs esi dl : ℕ) → legal (FdTransmit id ide brs esi dl) ≡ true → Writable (FdTransmit id ide brs esi dl)
unfolding legal rules
fd_writable id ide brs esi dl l =
    let b = leb-true id (max_id ide) (passed _ l 1) in
    let m = max_id_lem ide in
    let d = fd-short dl (passed _ l 4) in
    record { lawful = l; id = omega arith; short = omega arith }

xl_writable : (id ide sec sdt vcid af dl : ℕ) → legal (XlTransmit id ide sec sdt vcid af dl) ≡ true
    → Writable (XlTransmit id ide sec sdt vcid af dl)
unfolding legal rules
xl_writable id ide sec sdt vcid af dl l =
    let b = leb-true id (max_id ide) (passed _ l 1) in
    let m = max_id_lem ide in
    let d = leb-true dl 2_048 (both (leb 1 dl) (leb dl 2_048) (passed _ l 3)).1 in
    record { lawful = l; id = omega arith; short = omega arith }

slot_writable : (s : Slot) → legal_content (content_of s) ≡ true → Writable (held_in (content_of s))
slot_writable s =
    by_kind (λ c. legal_content c ≡ true → Writable (held_in c)) s (λ l. can_writable _ _ _ _ l) (λ l. fd_writable _ _ _ _ _ l)
    (λ l. xl_writable _ _ _ _ _ _ _ l) (λ l. false_is_true l)

-- whose ID stands in the slot
slot-named : (s : Slot) → legal_content (content_of s) ≡ true → s.id ≡ id_of (held_in (content_of s))
slot-named s =
    by_kind (λ c. legal_content c ≡ true → s.id ≡ id_of (held_in c)) s (λ l. refl) (λ l. refl) (λ l. refl) (λ l. false_is_true l)

-- ---- a node's frames

pub record AttachedNode (s : State) (a : List Slot) (j : ℕ) : Type 0 where
  pub few : (node_state s j).pending ≤ 4
  pub fill : (node_state s j).fill ≤ 4_096
  pub frames : (q : ℕ) → q < (node_state s j).pending → Writable (held_at a (4 * j + q))
  pub named : (q : ℕ) → q < (node_state s j).pending → (get_or a (4 * j + q) free_slot).id ≡ id_of (held_at a (4 * j + q))
  pub past : (q : ℕ) → q < (node_state s j).pending → (get_or a (4 * j + q) free_slot).accepted ≤ s.round
  pub owned : (q : ℕ) → q < (node_state s j).pending → (get_or a (4 * j + q) free_slot).owner ≡ j

module _ (s : State) (a : List Slot) (v : valid_state s a ≡ true) where
  pub count-few : s.count ≤ 8
  count-few = (valid-count s a v).1

  pub node_at_lem : (j : ℕ) → j < s.count → AttachedNode s a j
  node_at_lem j h =
      let n = valid_node_at s a v j h in
      let f = slots_at a j s.round (node_state s j).pending (4 * j) 0 n.slots in
      record {
        few = n.entry.few;
        fill = n.entry.fill;
        frames = λ q l. slot_writable (get_or a (4 * j + q) free_slot) (f q l).lawful;
        named = λ q l. slot-named (get_or a (4 * j + q) free_slot) (f q l).lawful;
        past = λ q l. (f q l).most;
        owned = λ q l. (f q l).owner;
      }
