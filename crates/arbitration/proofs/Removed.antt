-- The model's removal of a frame, part by part: the slots as four of them laid over the list, and the payload.
-- Assumes nothing.
use mathlib.Core.Path.{◌≡◌, refl, sym, ap, ◌∙◌}
use mathlib.Core.Bool.{Bool, true, false, cond, ◌&&◌}
use mathlib.Core.List.{List}
use Prim.Native.Nat.{ℕ, zero, suc, ◌+◌, ◌-◌, ◌*◌, ◌≤◌, ◌<◌}
use native.Mathlib.Omega.{arith}
use native.Mathlib.Nat.{add-zero}
use lib.Dec.{leb, ltb}
use lib.ListN.{length, get_or, set, length-set}
use lib.Seq.{get_or-set_same, get_or-set_other, ext_get_or}
use borrow.Author.Tests.{leb-true, leb-false, ltb-true, ltb-false}
use Rattle.operation.specs.Format.{data_length}
use Rattle.buffers.specs.Parts.{part, over}
use Rattle.slots.specs.Slots.{free_slot, content_of, held_in}
use Rattle.slots.specs.Blocks.{set_block, block_at}
use Rattle.slots.specs.declared.Slot.{Slot}
use Rattle.bus_state.specs.Memory.{Memory, held, slot_at, data_at_slot}
use Rattle.bus_model.specs.Primitives.{fill_slot, move_down}
use Rattle.scan.specs.Winner.{held_at}
use Rattle.arbitration.specs.After.{source, block_without, payload_without}
use Rattle.arbitration.proofs.Laid.{length-block, block_other, block-own, block-slot}

-- ---- the parts of what the model moves

unfoldable pub slots_down : List Slot → ℕ → ℕ → List Slot
slots_down l p zero = l
slots_down l p (suc n) = slots_down (set l p (get_or l (suc p) free_slot)) (suc p) n

unfoldable pub payload_down : List Slot → List ℕ → ℕ → ℕ → List ℕ
payload_down l q p zero = q
payload_down l q p (suc n) =
    payload_down (set l p (get_or l (suc p) free_slot)) (over q (2_048 * p) (part (2_048 * suc p) (data_length (held_at l (suc p))) q)) (suc p) n

pub down_is : (n : ℕ) (x : Memory) (p : ℕ)
    → move_down x p n ≡ held x.state (slots_down x.slots p n) (payload_down x.slots x.payload p n) x.queues
unfolding move_down fill_slot slots_down payload_down
down_is zero x p = refl
down_is (suc n) x p = down_is n (fill_slot x p (slot_at x (suc p)) (data_at_slot x (suc p))) (suc p)

-- ---- the payload

pub payload_down_lem : (four : List Slot) (at n : ℕ) (l : List Slot) (payload : List ℕ) (q : ℕ)
    → ((i : ℕ) → q < i → i < 4 → get_or l (at + i) free_slot ≡ get_or four i free_slot) → q + n < 4
    → payload_down l payload (at + q) n ≡ payload_without four at q n payload
unfolding payload_down payload_without
payload_down_lem four at zero l payload q f h = refl
payload_down_lem four at (suc n) l payload q f h =
    let k : suc (at + q) ≡ at + suc q = omega arith in
    let x = get_or l (at + suc q) free_slot in
    let y = f (suc q) (omega arith) (omega arith) in
    rw k
    (payload_down_lem four at n (set l (at + q) x) (over payload (2_048 * (at + q)) (part (2_048 * (at + suc q)) (data_length (held_in (content_of x))) payload))
    (suc q) (λ i g u. get_or-set_other l (at + q) (at + i) x free_slot (λ e. omega arith) ∙ f i (omega arith) u) (omega arith)
    ∙ ap
    (λ (z : Slot). payload_without four at (suc q) n (over payload (2_048 * (at + q)) (part (2_048 * (at + suc q)) (data_length (held_in (content_of z))) payload)))
    y)

-- ---- the slots

length-down : (n : ℕ) (l : List Slot) (p : ℕ) → length (slots_down l p n) ≡ length l
unfolding slots_down
length-down zero l p = refl
length-down (suc n) l p =
    length-down n (set l p (get_or l (suc p) free_slot)) (suc p) ∙ length-set l p (get_or l (suc p) free_slot)

down_other : (n : ℕ) (l : List Slot) (p r : ℕ) → ((i : ℕ) → i < n → r ≡ p + i → ⊥)
    → get_or (slots_down l p n) r free_slot ≡ get_or l r free_slot
unfolding slots_down
down_other zero l p r o = refl
down_other (suc n) l p r o =
    down_other n (set l p (get_or l (suc p) free_slot)) (suc p) r (λ i h e. o (suc i) (omega arith) (omega arith))
    ∙ get_or-set_other l p r (get_or l (suc p) free_slot) free_slot (λ e. o 0 (omega arith) (omega arith))

down-own : (n : ℕ) (l : List Slot) (p i : ℕ) → i < n → p + n < length l
    → get_or (slots_down l p n) (p + i) free_slot ≡ get_or l (suc p + i) free_slot
unfolding slots_down
down-own zero l p i h g = absurd (omega arith)
down-own (suc n) l p zero h g =
    rw (add-zero p, add-zero (suc p))
    (down_other n (set l p (get_or l (suc p) free_slot)) (suc p) p (λ i h e. omega arith)
    ∙ get_or-set_same l p (get_or l (suc p) free_slot) free_slot (omega arith))
down-own (suc n) l p (suc i) h g =
    let e : suc p + i ≡ p + suc i = omega arith in
    let e' : suc (suc p) + i ≡ suc p + suc i = omega arith in
    let x = set l p (get_or l (suc p) free_slot) in
    let k = length-set l p (get_or l (suc p) free_slot) in
    rw (← e, ← e')
    (down-own n x (suc p) i (omega arith) (omega arith)
    ∙ get_or-set_other l p (suc (suc p) + i) (get_or l (suc p) free_slot) free_slot (λ q. omega arith))

source-low : (position last q : ℕ) → q < 4 → last < 4 → source position last q < 4
source-low position last q h g = go (leb position q) (ltb q last) refl
  where
    go : (t u : Bool) → ltb q last ≡ u → cond (t && u) (q + 1) q < 4
    go true true e = omega (arith, ltb-true q last e)
    go true false e = h
    go false u e = h

block-entry : (four : List Slot) (position last q : ℕ) → q < 4
    → get_or (block_without four position last) q free_slot ≡ get_or four (source position last q) free_slot
block-entry four position last zero h = refl
block-entry four position last (suc zero) h = refl
block-entry four position last (suc (suc zero)) h = refl
block-entry four position last (suc (suc (suc zero))) h = refl
block-entry four position last (suc (suc (suc (suc q)))) h = absurd (omega arith)

module _ (a : List Slot) (at position last : ℕ) (h : at + 4 ≤ length a) (f : position ≤ last) (g : last < 4) where
  moved : List Slot
  moved = slots_down a (at + position) (last - position)

  -- each of the four
  inside : (q : ℕ) → q < 4 → get_or a (at + source position last q) free_slot ≡ get_or moved (at + q) free_slot
  unfolding moved
  inside q u = go (leb position q) refl (ltb q last) refl
    where
      go : (t : Bool) → leb position q ≡ t → (r : Bool) → ltb q last ≡ r
          → get_or a (at + cond (t && r) (q + 1) q) free_slot ≡ get_or (slots_down a (at + position) (last - position)) (at + q) free_slot
      go true x true y =
          let l = leb-true position q x in
          let k = ltb-true q last y in
          let i : at + position + (q - position) ≡ at + q = omega arith in
          let i' : suc (at + position) + (q - position) ≡ at + (q + 1) = omega arith in
          rw (← i, ← i') (sym (down-own (last - position) a (at + position) (q - position) (omega arith) (omega arith)))
      go true x false y =
          let k = ltb-false q last y in
          sym (down_other (last - position) a (at + position) (at + q) (λ i v e. omega arith))
      go false x r y =
          let l = leb-false position q x in
          sym (down_other (last - position) a (at + position) (at + q) (λ i v e. omega arith))

  each : (r : ℕ) → get_or (set_block a at (block_without (block_at a at) position last)) r free_slot ≡ get_or moved r free_slot
  unfolding moved
  each r = go (leb at r) refl (ltb r (at + 4)) refl
    where
      outside : ((q : ℕ) → q < 4 → r ≡ at + q → ⊥)
          → get_or (set_block a at (block_without (block_at a at) position last)) r free_slot
          ≡ get_or (slots_down a (at + position) (last - position)) r free_slot
      outside o =
          block_other a at (block_without (block_at a at) position last) r o
          ∙ sym (down_other (last - position) a (at + position) r (λ i v e. o (position + i) (omega arith) (omega arith)))

      go : (t : Bool) → leb at r ≡ t → (u : Bool) → ltb r (at + 4) ≡ u
          → get_or (set_block a at (block_without (block_at a at) position last)) r free_slot
          ≡ get_or (slots_down a (at + position) (last - position)) r free_slot
      go true x true y =
          let l = leb-true at r x in
          let k = ltb-true r (at + 4) y in
          let i : at + (r - at) ≡ r = omega arith in
          let s : get_or (set_block a at (block_without (block_at a at) position last)) (at + (r - at)) free_slot ≡ get_or (slots_down a (at + position) (last - position)) (at + (r - at)) free_slot =
          block-own a at (block_without (block_at a at) position last) h (r - at) (omega arith)
          ∙ block-entry (block_at a at) position last (r - at) (omega arith)
          ∙ block-slot a at (source position last (r - at)) (source-low position last (r - at) (omega arith) g)
          ∙ inside (r - at) (omega arith) in
          rw i at s
      go true x false y = let k = ltb-false r (at + 4) y in outside (λ q v e. omega arith)
      go false x u y = let l = leb-false at r x in outside (λ q v e. omega arith)

  -- the four slots laid over the list are the model's slots
  pub slots_down_lem : set_block a at (block_without (block_at a at) position last) ≡ slots_down a (at + position) (last - position)
  unfolding moved
  slots_down_lem =
      ext_get_or free_slot (set_block a at (block_without (block_at a at) position last)) (slots_down a (at + position) (last - position))
      (length-block a at (block_without (block_at a at) position last) ∙ sym (length-down (last - position) a (at + position)))
      (λ r l. each r)
