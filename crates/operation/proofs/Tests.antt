-- Laws of tests joined by and, and of a number that is one of a few.
-- Assumes nothing.
use mathlib.Core.Path.{◌≡◌, refl}
use mathlib.Core.Bool.{Bool, true, false, ◌&&◌, ◌||◌}
use mathlib.Core.List.{List, [], ◌∷◌}
use Prim.Native.Nat.{ℕ, zero, suc}
use native.Mathlib.Omega.{arith}
use lib.Dec.{eqb}
use lib.ListN.{get_or}
use borrow.Author.Tests.{eqb-true}
use Rattle.operation.specs.Rules.{all_after, all}

pub false_is_true : {P : Type 0} → false ≡ true → P
false_is_true e = let z : ◌≡◌ {A = ℕ} 0 1 = cc in absurd (omega arith)

pub both : (a b : Bool) → (a && b) ≡ true → (a ≡ true) × (b ≡ true)
both true b e = (refl, e)
both false b e = false_is_true e

-- every test of a list that passed passed, and so did the one before them
passed_after : (t : Bool) (ts : List Bool) → all_after t ts ≡ true → (t ≡ true) × ((i : ℕ) → get_or ts i true ≡ true)
unfolding all_after
passed_after t [] e = (e, λ i. refl)
passed_after t (u ∷ us) e =
    let r = passed_after (t && u) us e in
    let p = both t u r.0 in
    (p.0, λ i. at i p.1 r.1)
  where
    at : (i : ℕ) → u ≡ true → ((i : ℕ) → get_or us i true ≡ true) → get_or (u ∷ us) i true ≡ true
    at zero p r = p
    at (suc i) p r = r i

pub passed : (ts : List Bool) → all ts ≡ true → (i : ℕ) → get_or ts i true ≡ true
passed ts e i = (passed_after true ts e).1 i

-- a number is the first of a list, or one of the rest
pub one_small : (x y : ℕ) (r : Bool) {P : Type 0} → (eqb x y || r) ≡ true → (x ≡ y → P) → (r ≡ true → P) → P
one_small x y r {P} e f g = go (eqb x y) refl e
  where
    go : (t : Bool) → eqb x y ≡ t → (t || r) ≡ true → P
    go true q e = f (eqb-true x y q)
    go false q e = g e
