-- Four slots laid over a list: what stands where afterwards.
-- Assumes nothing.
use mathlib.Core.Path.{◌≡◌, refl, ◌∙◌}
use mathlib.Core.List.{List}
use Prim.Native.Nat.{ℕ, zero, suc, ◌+◌, ◌≤◌, ◌<◌}
use native.Mathlib.Omega.{arith}
use native.Mathlib.Nat.{add-zero}
use lib.ListN.{length, get_or, set, length-set}
use lib.Seq.{get_or-set_same, get_or-set_other}
use Rattle.slots.specs.Slots.{free_slot}
use Rattle.slots.specs.Blocks.{set_block, block_at}
use Rattle.slots.specs.declared.Slot.{Slot}

module _ (l : List Slot) (at : ℕ) (b : List Slot) where
  -- with the first one set, the first two, and the first three
  abbrev one : List Slot
  one = set l at (get_or b 0 free_slot)

  abbrev two : List Slot
  two = set one (at + 1) (get_or b 1 free_slot)

  abbrev three : List Slot
  three = set two (at + 2) (get_or b 2 free_slot)

  pub length-block : length (set_block l at b) ≡ length l
  unfolding set_block
  length-block =
      length-set three (at + 3) (get_or b 3 free_slot)
      ∙ length-set two (at + 2) (get_or b 2 free_slot)
      ∙ length-set one (at + 1) (get_or b 1 free_slot)
      ∙ length-set l at (get_or b 0 free_slot)

  -- elsewhere
  pub block_other : (r : ℕ) → ((q : ℕ) → q < 4 → r ≡ at + q → ⊥) → get_or (set_block l at b) r free_slot ≡ get_or l r free_slot
  unfolding set_block
  block_other r o =
      let o0 : r ≡ at → ⊥ = λ e. o 0 (omega arith) (omega arith) in
      get_or-set_other three (at + 3) r (get_or b 3 free_slot) free_slot (o 3 (omega arith))
      ∙ get_or-set_other two (at + 2) r (get_or b 2 free_slot) free_slot (o 2 (omega arith))
      ∙ get_or-set_other one (at + 1) r (get_or b 1 free_slot) free_slot (o 1 (omega arith))
      ∙ get_or-set_other l at r (get_or b 0 free_slot) free_slot o0

  -- at each of the four
  pub block-own : at + 4 ≤ length l → (q : ℕ) → q < 4 → get_or (set_block l at b) (at + q) free_slot ≡ get_or b q free_slot
  unfolding set_block
  block-own h zero u =
      rw add-zero
      (get_or-set_other three (at + 3) at (get_or b 3 free_slot) free_slot (λ e. omega arith)
      ∙ get_or-set_other two (at + 2) at (get_or b 2 free_slot) free_slot (λ e. omega arith)
      ∙ get_or-set_other one (at + 1) at (get_or b 1 free_slot) free_slot (λ e. omega arith)
      ∙ get_or-set_same l at (get_or b 0 free_slot) free_slot (omega arith))
  block-own h (suc zero) u =
      let n : length one ≡ length l = length-set l at (get_or b 0 free_slot) in
      get_or-set_other three (at + 3) (at + 1) (get_or b 3 free_slot) free_slot (λ e. omega arith)
      ∙ get_or-set_other two (at + 2) (at + 1) (get_or b 2 free_slot) free_slot (λ e. omega arith)
      ∙ get_or-set_same one (at + 1) (get_or b 1 free_slot) free_slot (omega arith)
  block-own h (suc (suc zero)) u =
      let n : length two ≡ length l = length-set one (at + 1) (get_or b 1 free_slot) ∙ length-set l at (get_or b 0 free_slot) in
      get_or-set_other three (at + 3) (at + 2) (get_or b 3 free_slot) free_slot (λ e. omega arith)
      ∙ get_or-set_same two (at + 2) (get_or b 2 free_slot) free_slot (omega arith)
  block-own h (suc (suc (suc zero))) u =
      let n : length three ≡ length l =
      length-set two (at + 2) (get_or b 2 free_slot)
      ∙ length-set one (at + 1) (get_or b 1 free_slot)
      ∙ length-set l at (get_or b 0 free_slot) in
      get_or-set_same three (at + 3) (get_or b 3 free_slot) free_slot (omega arith)
  block-own h (suc (suc (suc (suc q)))) u = absurd (omega arith)

-- one of the four slots that stand from a position on
pub block-slot : (a : List Slot) (at i : ℕ) → i < 4 → get_or (block_at a at) i free_slot ≡ get_or a (at + i) free_slot
block-slot a at zero h = rw add-zero
block-slot a at (suc zero) h = refl
block-slot a at (suc (suc zero)) h = refl
block-slot a at (suc (suc (suc zero))) h = refl
block-slot a at (suc (suc (suc (suc i)))) h = absurd (omega arith)
