-- A node's four slots, one by one.
-- Assumes nothing.
use mathlib.Core.Path.{◌≡◌, refl}
use mathlib.Core.List.{List, [], ◌∷◌}
use native.Mathlib.Omega.{arith}
use lib.ListN.{length, get_or}
use Rattle.slots.specs.Slots.{free_slot}
use Rattle.slots.specs.declared.Slot.{Slot}

pub four-slots : (l : List Slot) → length l ≡ 4
    → get_or l 0 free_slot ∷ get_or l 1 free_slot ∷ get_or l 2 free_slot ∷ get_or l 3 free_slot ∷ [] ≡ l
four-slots [] e = absurd (omega arith)
four-slots (a ∷ []) e = absurd (omega arith)
four-slots (a ∷ b ∷ []) e = absurd (omega arith)
four-slots (a ∷ b ∷ c ∷ []) e = absurd (omega arith)
four-slots (a ∷ b ∷ c ∷ d ∷ []) e = refl
four-slots (a ∷ b ∷ c ∷ d ∷ x ∷ l) e = absurd (omega arith)
