-- What a round is given of the slots, by the slots that it is drawn from.
-- Assumes nothing.
use mathlib.Core.Path.{◌≡◌, refl, sym, ap, ◌∙◌}
use mathlib.Core.Bool.{true}
use mathlib.Core.List.{List, [], map}
use Prim.Native.Nat.{ℕ, ◌+◌, ◌-◌, ◌*◌, ◌≤◌, ◌<◌}
use native.Mathlib.Omega.{arith}
use lib.ListN.{get_or, get_or-map}
use Rattle.operation.specs.Kinds.{id_of}
use Rattle.operation.specs.Rules.{max_extended_id}
use Rattle.slots.specs.Slots.{free_slot}
use Rattle.slots.specs.declared.Slot.{Slot}
use Rattle.bus_state.specs.Memory.{node_state, held}
use Rattle.bus_state.specs.Valid.{valid_state}
use Rattle.bus_state.specs.declared.State.{State}
use Rattle.scan.specs.declared.Winner.{Winner}
use Rattle.std.specs.Prelude.{Option, None, Some}
use Rattle.scan.specs.Winner.{held_at, best_in, owner_of}
use Rattle.arbitration.specs.Drawn.{Drawn}
use Rattle.arbitration.specs.Owed.{Frames, Tellable, PendingAt}
use Rattle.arbitration.proofs.Attached.{count-few, node_at_lem}
use Rattle.arbitration.proofs.Laid.{block-slot}
use Rattle.arbitration.proofs.Places.{first-wins}

module _ (s : State) (a : List Slot) (v : valid_state s a ≡ true) (ids : List ℕ) (named : ids ≡ map (λ (x : Slot). x.id) a) where
  -- the ID of a pending frame
  pub id_at : (j : ℕ) → j < s.count → (q : ℕ) → q < (node_state s j).pending → get_or ids (4 * j + q) 0 ≡ id_of (held_at a (4 * j + q))
  id_at j h q l =
      ap (λ (x : List ℕ). get_or x (4 * j + q) 0) named
      ∙ get_or-map (λ (x : Slot). x.id) a (4 * j + q) free_slot
      ∙ (node_at_lem s a v j h).named q l

  pub tellable : Tellable s ids
  tellable = record {
    count = count-few s a v;
    few = λ j h. (node_at_lem s a v j h).few;
    lawful = λ j h p l u.
        let k : 4 * j + (p - 4 * j) ≡ p = omega arith in
        let q : p - 4 * j < (node_state s j).pending = omega arith in
        let i : get_or ids (4 * j + (p - 4 * j)) 0 ≤ max_extended_id = rw (id_at j h (p - 4 * j) q) ((node_at_lem s a v j h).frames (p - 4 * j) q).id in
        rw k at i;
  }

module _ {s : State} {a : List Slot} {w : Winner} {four : List Slot} {ids : List ℕ} (d : Drawn s a (Some w) four ids) where
  pub pending_at_lem : PendingAt s w.owner w.position
  pending_at_lem = let f = first-wins (held s a [] []) (sym d.first) in (f.attached, f.pending)

  pub four-slot : (i : ℕ) → i < 4 → get_or four i free_slot ≡ get_or a (4 * w.owner + i) free_slot
  four-slot i h = ap (λ (l : List Slot). get_or l i free_slot) d.block ∙ block-slot a (4 * w.owner) i h

  -- the numbers of the winner are small
  pub place_small : (w.owner < 8) × (w.position < (node_state s w.owner).pending) × ((node_state s w.owner).pending ≤ 4)
  place_small =
      let p = pending_at_lem in
      (omega (arith, count-few s a d.valid, p.0), p.1, (node_at_lem s a d.valid w.owner p.0).few)

  pub winner-slot : get_or four w.position free_slot ≡ get_or a (4 * w.owner + w.position) free_slot
  winner-slot = four-slot w.position (omega (arith, place_small.1, place_small.2))

  -- the owner's frames
  pub four-frames : Frames four 0 (node_state s w.owner).pending
  four-frames p l u =
      rw (four-slot p (omega (arith, place_small.2))) ((node_at_lem s a d.valid w.owner pending_at_lem.0).frames p u)

-- ---- where the winner is not known yet

pub best_owner : (s : State) (a : List Slot) → valid_state s a ≡ true → owner_of (best_in s a) < 8
best_owner s a v = go (best_in s a) refl
  where
    go : (w : Option Winner) → best_in s a ≡ w → owner_of w < 8
    go None q = omega arith
    go (Some w) q = omega (arith, count-few s a v, (first-wins (held s a [] []) q).attached)

pub owner_small : {s : State} {a : List Slot} {best : Option Winner} {four : List Slot} {ids : List ℕ} → Drawn s a best four ids → owner_of best < 8
owner_small {s} {a} d = rw d.first (best_owner s a d.valid)
