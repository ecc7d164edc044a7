-- Laws of four slots laid over a list: one of them changed, none, and all copied.
-- Assumes nothing.
use mathlib.Core.Path.{◌≡◌, refl, sym, ap}
use mathlib.Core.List.{List, [], ◌∷◌}
use Prim.Native.Nat.{ℕ, zero, suc, ◌+◌, ◌≤◌, ◌<◌}
use native.Mathlib.Nat.{add-zero}
use native.Mathlib.Omega.{arith}
use lib.ListN.{length, get_or, set}
use borrow.Rule.Slice.PartMut.{put_mid}
use lib.Seq.{set-set, set_comm, set-get_or}
use Rattle.slots.specs.Slots.{free_slot}
use Rattle.slots.specs.Blocks.{set_block}
use Rattle.slots.specs.declared.Slot.{Slot}

-- a slot of the four is set before or after they are laid
pub set_in_block : (l : List Slot) (at : ℕ) (b : List Slot) (q : ℕ) (x : Slot) → length b ≡ 4 → q < 4
    → set_block l at (set b q x) ≡ set (set_block l at b) (at + q) x
unfolding set_block
set_in_block l at [] q x e h = absurd (omega arith)
set_in_block l at (a ∷ []) q x e h = absurd (omega arith)
set_in_block l at (a ∷ b ∷ []) q x e h = absurd (omega arith)
set_in_block l at (a ∷ b ∷ c ∷ []) q x e h = absurd (omega arith)
set_in_block l at (a ∷ b ∷ c ∷ d ∷ f ∷ r) q x e h = absurd (omega arith)
set_in_block l at (a ∷ b ∷ c ∷ d ∷ []) zero x e h =
    sym (rw (
      add-zero at,
      set_comm (set (set (set l at a) (at + 1) b) (at + 2) c) (at + 3) at d x (λ q. omega arith),
      set_comm (set (set l at a) (at + 1) b) (at + 2) at c x (λ q. omega arith),
      set_comm (set l at a) (at + 1) at b x (λ q. omega arith),
      set-set l at a x,
    ))
set_in_block l at (a ∷ b ∷ c ∷ d ∷ []) (suc zero) x e h =
    sym (rw (
      set_comm (set (set (set l at a) (at + 1) b) (at + 2) c) (at + 3) (at + 1) d x (λ q. omega arith),
      set_comm (set (set l at a) (at + 1) b) (at + 2) (at + 1) c x (λ q. omega arith),
      set-set (set l at a) (at + 1) b x,
    ))
set_in_block l at (a ∷ b ∷ c ∷ d ∷ []) (suc (suc zero)) x e h =
    sym (rw (
      set_comm (set (set (set l at a) (at + 1) b) (at + 2) c) (at + 3) (at + 2) d x (λ q. omega arith),
      set-set (set (set l at a) (at + 1) b) (at + 2) c x,
    ))
set_in_block l at (a ∷ b ∷ c ∷ d ∷ []) (suc (suc (suc zero))) x e h =
    sym (set-set (set (set (set l at a) (at + 1) b) (at + 2) c) (at + 3) d x)
set_in_block l at (a ∷ b ∷ c ∷ d ∷ []) (suc (suc (suc (suc q)))) x e h = absurd (omega arith)

-- the four slots that are there, laid again
pub same_block : (l : List Slot) (at : ℕ)
    → set_block l at (get_or l at free_slot ∷ get_or l (at + 1) free_slot ∷ get_or l (at + 2) free_slot ∷ get_or l (at + 3) free_slot ∷ []) ≡ l
unfolding set_block
same_block l at =
    rw (set-get_or l at free_slot, set-get_or l (at + 1) free_slot, set-get_or l (at + 2) free_slot, set-get_or l (at + 3) free_slot)

-- four that are copied into the place of four are laid over the list
copied : (l : List Slot) (at : ℕ) (b : List Slot) → length b ≡ 4 → at + 4 ≤ length l → put_mid at 4 l b ≡ set_block l at b
unfolding set_block
copied [] at b f h = absurd (omega arith)
copied (x ∷ l) (suc at) b f h =
    let e : suc at + 1 ≡ suc (at + 1) = omega arith in
    let g : suc at + 2 ≡ suc (at + 2) = omega arith in
    let k : suc at + 3 ≡ suc (at + 3) = omega arith in
    rw (e, g, k) (ap (λ (t : List Slot). x ∷ t) (copied l at b f (omega arith)))
copied l zero [] f h = absurd (omega arith)
copied l zero (w ∷ []) f h = absurd (omega arith)
copied l zero (w ∷ x ∷ []) f h = absurd (omega arith)
copied l zero (w ∷ x ∷ y ∷ []) f h = absurd (omega arith)
copied (o ∷ []) zero (w ∷ x ∷ y ∷ z ∷ b) f h = absurd (omega arith)
copied (o ∷ p ∷ []) zero (w ∷ x ∷ y ∷ z ∷ b) f h = absurd (omega arith)
copied (o ∷ p ∷ q ∷ []) zero (w ∷ x ∷ y ∷ z ∷ b) f h = absurd (omega arith)
copied (o ∷ p ∷ q ∷ r ∷ l) zero (w ∷ x ∷ y ∷ z ∷ []) f h = refl
copied (o ∷ p ∷ q ∷ r ∷ l) zero (w ∷ x ∷ y ∷ z ∷ v ∷ b) f h = absurd (omega arith)

pub copied_block : (l : List Slot) (at k : ℕ) (b : List Slot) → k ≡ 4 → length b ≡ 4 → at + 4 ≤ length l → put_mid at k l b ≡ set_block l at b
copied_block l at k b e f h = rw e (copied l at b f h)
