-- Laws of the tests of validity, one entry and one slot at a time.
-- Assumes nothing.
use mathlib.Core.Path.{◌≡◌, refl}
use mathlib.Core.Bool.{Bool, true, false, not, ◌&&◌, ◌||◌}
use mathlib.Core.List.{List, [], ◌∷◌}
use Prim.Native.Nat.{ℕ, ◌≤◌}
use native.Mathlib.Omega.{arith}
use lib.Dec.{leb, eqb}
use lib.ListN.{length, get_or}
use borrow.Author.Tests.{leb-true}
use Rattle.operation.specs.Rules.{one_of, statuses, behaviours}
use Rattle.operation.proofs.Tests.{both}
use Rattle.plain_bus.specs.Held.{bus_off}
use Rattle.slots.specs.Slots.{content_of, legal_content}
use Rattle.slots.specs.declared.Slot.{Slot}
use Rattle.bus_state.specs.Memory.{bytes_per_queue}
use Rattle.bus_state.specs.Valid.{non_zero, valid_entry}
use Rattle.bus_state.specs.Follows.{slot_follows}
use Rattle.bus_state.specs.declared.NodeState.{NodeState}

-- three baud rates, each tested
pub three : (l : List ℕ) → length l ≡ 3 → (leb 1 (get_or l 0 0) && leb 1 (get_or l 1 0) && leb 1 (get_or l 2 0)) ≡ non_zero l
unfolding non_zero
three [] e = absurd (omega arith)
three (a ∷ []) e = absurd (omega arith)
three (a ∷ b ∷ []) e = absurd (omega arith)
three (a ∷ b ∷ d ∷ []) e = go (leb 1 a) (leb 1 b) (leb 1 d)
  where
    go : (x y z : Bool) → (x && y && z) ≡ (x && (y && (z && true)))
    go true true true = refl
    go true true false = refl
    go true false z = refl
    go false y z = refl
three (a ∷ b ∷ d ∷ f ∷ l) e = absurd (omega arith)

-- a slot that fails one of the tests of its owner and its acceptance, and one that passes them
module _ (j low : ℕ) (s : Slot) where
  pub slot_of_another : eqb s.owner j ≡ false → slot_follows j low s ≡ false
  unfolding slot_follows
  slot_of_another e = rw e (go (legal_content (content_of s)))
    where
      go : (x : Bool) → (x && false && leb low s.accepted) ≡ false
      go true = refl
      go false = refl

  pub slot-out_of_order : leb low s.accepted ≡ false → slot_follows j low s ≡ false
  unfolding slot_follows
  slot-out_of_order e = rw e (go (legal_content (content_of s) && eqb s.owner j))
    where
      go : (x : Bool) → (x && false) ≡ false
      go true = refl
      go false = refl

  pub slot_by_content : eqb s.owner j ≡ true → leb low s.accepted ≡ true → slot_follows j low s ≡ legal_content (content_of s)
  unfolding slot_follows
  slot_by_content e f = rw (e, f) (go (legal_content (content_of s)))
    where
      go : (x : Bool) → (x && true && true) ≡ x
      go true = refl
      go false = refl

-- an entry that passes has at most four frames
pub few : (d : NodeState) → valid_entry d ≡ true → d.pending ≤ 4
unfolding valid_entry
few d e =
    let before : Bool =
    one_of d.status statuses && one_of d.behaviour behaviours && non_zero d.rates && leb d.fill bytes_per_queue in
    let silent : Bool = not (eqb d.status bus_off) || eqb d.pending 0 in
    leb-true d.pending 4 (both before (leb d.pending 4) (both (before && leb d.pending 4) silent e).0).1
