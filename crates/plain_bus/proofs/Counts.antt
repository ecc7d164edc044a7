-- Counting the numbers of a list that pass a test.
-- Assumes nothing.
use mathlib.Core.Path.{◌≡◌, refl}
use Prim.Native.Nat.{ℕ, ◌+◌, ◌≤◌}
use native.Mathlib.Omega.{arith}
use mathlib.Core.Bool.{Bool, true, false, cond, not, ◌&&◌, ◌||◌}
use mathlib.Core.List.{List, [], ◌∷◌, ◌++◌}
use lib.ListN.{length}
use lib.Dec.{leb, eqb}
use borrow.Author.Tests.{eqb-true}
use Rattle.plain_bus.specs.Session.{count}
use Rattle.plain_bus.specs.Register.{is_open, remove, none_above}

pub count-append : (p : ℕ → Bool) (a b : List ℕ) → count p (a ++ b) ≡ count p a + count p b
unfolding count
count-append p [] b = omega arith
count-append p (x ∷ a) b = let h : count p (a ++ b) ≡ count p a + count p b = count-append p a b in omega arith

pub count-all : (l : List ℕ) → count (λ x. true) l ≡ length l
unfolding count
count-all [] = refl
count-all (x ∷ l) = let h : count (λ x. true) l ≡ length l = count-all l in omega arith

pub count_none : (l : List ℕ) → count (λ x. true) l ≡ 0 → l ≡ []
count_none [] h = refl
count_none (x ∷ l) h = absurd (omega (arith, count-all (x ∷ l)))

-- taking out the first equal ID takes one away
pub count-remove : (p : ℕ → Bool) (id : ℕ) (l : List ℕ) → is_open id l ≡ true
    → cond (p id) 1 0 + count p (remove id l) ≡ count p l
unfolding count is_open remove
count-remove p id [] h = let z : ◌≡◌ {A = ℕ} 0 1 = cc in absurd (omega arith)
count-remove p id (x ∷ l) h = go (eqb x id) refl h (count-remove p id l)
  where
    go : (t : Bool) → eqb x id ≡ t → (t || is_open id l) ≡ true
        → (is_open id l ≡ true → cond (p id) 1 0 + count p (remove id l) ≡ count p l)
        → cond (p id) 1 0 + count p (cond t l (x ∷ remove id l)) ≡ cond (p x) 1 0 + count p l
    go true e h f = rw (eqb-true x id e)
    go false e h f = let g : cond (p id) 1 0 + count p (remove id l) ≡ count p l = f h in omega arith

-- an ID that is counted is open
pub open_counted : (id : ℕ) (l : List ℕ) → 1 ≤ count (λ x. eqb x id) l → is_open id l ≡ true
unfolding count is_open
open_counted id [] h = absurd (omega arith)
open_counted id (x ∷ l) h = go (eqb x id) h (open_counted id l)
  where
    go : (t : Bool) → 1 ≤ cond t 1 0 + count (λ x. eqb x id) l → (1 ≤ count (λ x. eqb x id) l → is_open id l ≡ true)
        → (t || is_open id l) ≡ true
    go true h f = refl
    go false h f = f (omega arith)

-- where none above the limit is counted, all are allowed
pub none_above_lem : (m : ℕ) (l : List ℕ) → count (λ x. not (leb x m)) l ≡ 0 → none_above m l ≡ true
unfolding count none_above
none_above_lem m [] h = refl
none_above_lem m (x ∷ l) h = go (leb x m) h (none_above_lem m l)
  where
    go : (t : Bool) → cond (not t) 1 0 + count (λ x. not (leb x m)) l ≡ 0
        → (count (λ x. not (leb x m)) l ≡ 0 → none_above m l ≡ true)
        → (t && none_above m l) ≡ true
    go true h f = f (omega arith)
    go false h f = absurd (omega arith)
