-- A node's frames, each behind the one before it: they are valid where the last was not accepted after `now`.
-- Assumes nothing.
use mathlib.Core.Path.{◌≡◌, refl}
use mathlib.Core.Bool.{Bool, true, false, ◌&&◌}
use mathlib.Core.List.{List}
use Prim.Native.Nat.{ℕ, zero, suc, ◌≤◌}
use native.Mathlib.Omega.{arith}
use lib.Dec.{leb, eqb}
use lib.ListN.{get_or}
use borrow.Author.Tests.{leb-true, leb-false, le-leb, lt-leb}
use Rattle.operation.proofs.Tests.{both}
use Rattle.slots.specs.Slots.{free_slot, content_of, legal_content}
use Rattle.slots.specs.declared.Slot.{Slot}
use Rattle.bus_state.specs.Valid.{valid_slot, valid_slots}
use Rattle.bus_state.specs.Follows.{slot_follows}
use Rattle.scan.specs.declared.Run.{Run}
use Rattle.scan.specs.Scan.{step_of, steps_of}

-- n slots from p on, the first behind a frame that was accepted at round `low`
unfoldable pub slots_follow : ℕ → ℕ → ℕ → ℕ → List Slot → Bool
slots_follow zero p j low a = true
slots_follow (suc n) p j low a = slot_follows j low (get_or a p free_slot) && slots_follow n (suc p) j (get_or a p free_slot).accepted a

-- the round at which the last of them was accepted
unfoldable pub last_round : ℕ → ℕ → ℕ → List Slot → ℕ
last_round zero p low a = low
last_round (suc n) p low a = last_round n (suc p) (get_or a p free_slot).accepted a

-- the tests of a frame and of the rest of them, with the last round's, are the same with each frame's own
by_last : (frame rest last valid past : Bool) → (past ≡ true → (rest && last) ≡ valid) → (past ≡ false → rest ≡ true → last ≡ false)
    → (frame && rest && last) ≡ (frame && past && valid)
by_last true rest last valid true i n = i refl
by_last true true last valid false i n = n refl refl
by_last true false last valid false i n = refl
by_last false rest last valid past i n = refl

module _ (a : List Slot) (j : ℕ) where
  pub steps_low : (n p : ℕ) (r : Run) → (steps_of n p j a r).low ≡ last_round n p r.low a
  unfolding steps_of last_round step_of
  steps_low zero p r = refl
  steps_low (suc n) p r = steps_low n (suc p) (step_of r (get_or a p free_slot) j p)

  follows_low : (low : ℕ) (x : Slot) → slot_follows j low x ≡ true → low ≤ x.accepted
  unfolding slot_follows
  follows_low low x f = leb-true low x.accepted (both (legal_content (content_of x) && eqb x.owner j) _ f).1

  -- the rounds do not fall
  rounds_rise : (n p low : ℕ) → slots_follow n p j low a ≡ true → low ≤ last_round n p low a
  unfolding slots_follow last_round
  rounds_rise zero p low f = omega arith
  rounds_rise (suc n) p low f =
      let b = both _ _ f in
      let h = follows_low low (get_or a p free_slot) b.0 in
      let i = rounds_rise n (suc p) (get_or a p free_slot).accepted b.1 in
      omega arith

  -- so the last says it of all
  pub following_valid : (now n p low : ℕ) → low ≤ now
      → (slots_follow n p j low a && leb (last_round n p low a) now) ≡ valid_slots n p j low now a
  unfolding slots_follow last_round valid_slots valid_slot slot_follows
  following_valid now zero p low h = le-leb low now h
  following_valid now (suc n) p low h =
      let x = get_or a p free_slot in
      let round = x.accepted in
      let last = last_round n (suc p) round a in
      by_last (slot_follows j low x) (slots_follow n (suc p) j round a) (leb last now) _ (leb round now)
      (λ e. following_valid now n (suc p) round (leb-true round now e))
      (λ e f. lt-leb last now (omega (arith, leb-false round now e, rounds_rise n (suc p) round f)))
