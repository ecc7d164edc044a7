-- Laws of short arrays: one entry of eight by its half, and one of three set.
-- Assumes nothing.
use mathlib.Core.Path.{◌≡◌, refl}
use mathlib.Core.List.{List, [], ◌∷◌}
use Prim.Native.Nat.{ℕ, zero, suc, ◌-◌, ◌≤◌, ◌<◌}
use native.Mathlib.Omega.{arith}
use lib.ListN.{length, get_or, set}

-- an entry among the first four, and among the four after them
module _ {A : Type 0} (l : List A) (d : A) where
  pub in_low_half : (j : ℕ) → j < 4 → get_or (get_or l 0 d ∷ get_or l 1 d ∷ get_or l 2 d ∷ get_or l 3 d ∷ []) j d ≡ get_or l j d
  in_low_half zero h = refl
  in_low_half (suc zero) h = refl
  in_low_half (suc (suc zero)) h = refl
  in_low_half (suc (suc (suc zero))) h = refl
  in_low_half (suc (suc (suc (suc j)))) h = absurd (omega arith)

  pub in_high_half : (j : ℕ) → 4 ≤ j → j < 8 → get_or (get_or l 4 d ∷ get_or l 5 d ∷ get_or l 6 d ∷ get_or l 7 d ∷ []) (j - 4) d ≡ get_or l j d
  in_high_half zero h k = absurd (omega arith)
  in_high_half (suc zero) h k = absurd (omega arith)
  in_high_half (suc (suc zero)) h k = absurd (omega arith)
  in_high_half (suc (suc (suc zero))) h k = absurd (omega arith)
  in_high_half (suc (suc (suc (suc zero)))) h k = refl
  in_high_half (suc (suc (suc (suc (suc zero))))) h k = refl
  in_high_half (suc (suc (suc (suc (suc (suc zero)))))) h k = refl
  in_high_half (suc (suc (suc (suc (suc (suc (suc zero))))))) h k = refl
  in_high_half (suc (suc (suc (suc (suc (suc (suc (suc j)))))))) h k = absurd (omega arith)

-- of three numbers, the first, the second and the third set
pub set_of_three : (l : List ℕ) (x : ℕ) → length l ≡ 3
    → (set l 0 x ≡ x ∷ get_or l 1 0 ∷ get_or l 2 0 ∷ [])
    × (set l 1 x ≡ get_or l 0 0 ∷ x ∷ get_or l 2 0 ∷ [])
    × (set l 2 x ≡ get_or l 0 0 ∷ get_or l 1 0 ∷ x ∷ [])
set_of_three [] x e = absurd (omega arith)
set_of_three (a ∷ []) x e = absurd (omega arith)
set_of_three (a ∷ b ∷ []) x e = absurd (omega arith)
set_of_three (a ∷ b ∷ d ∷ []) x e = (refl, refl, refl)
set_of_three (a ∷ b ∷ d ∷ f ∷ l) x e = absurd (omega arith)
