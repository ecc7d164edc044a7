-- What the plain register's lists are in the words of the library: what is valid, closed and handed back.
-- Assumes nothing.
use Rattle.std.proofs.Common.{ℕ, suc, ◌+◌, ◌-◌, ◌≤◌, ◌<◌, arith, rules}
use Rattle.std.proofs.Common.{Bool, true, false, not, cond, ◌||◌, ◌&&◌, eqb, leb, ltb, ◌==◌, Some, None}
use Rattle.std.proofs.Common.{List, [], ◌∷◌, append-nil, length, take, length-append, length-take}
use Rattle.std.proofs.Common.{◌≡◌, refl, sym, ◌∙◌}
use Rattle.std.proofs.lemmas.Bool.Decides.{nat_tests}
use Rattle.std.proofs.lemmas.List.{length-replicate}
use Rattle.std.proofs.Math.Seq.{length-take-le}
use Rattle.std.specs.List.{position, position_or_len, list_all, remove}
use mir.Val.{bool_byte}
use borrow.Author.Tests.{lt-leb, le-leb, leb-true, leb-false, eq-eqb, ne_eqb}
use Rattle.operation.specs.Rules.{max_extended_id}
use Rattle.plain_bus.specs.Refusal.{register_differs, register_full}
use Rattle.plain_bus.specs.Register as plain
use Rattle.open_frames.specs.Record.{open_in}
use Rattle.open_frames.specs.declared.Register.{Register}

-- ---- validity

all_below : (limit : ℕ) (l : List ℕ) → plain.none_above limit l ≡ list_all (λ x. leb x limit) l
unfolding plain.none_above
all_below limit [] = refl
all_below limit (x ∷ xs) = rw (all_below limit xs)

module _ (r : Register) (k : length r.ids ≡ 345) where
  length-opened : length (open_in r).opened ≡ r.count
  unfolding open_in
  length-opened = simp (length-append, length-take, length-replicate) (omega arith)

  pub too_many : 345 < r.count → plain.valid_register (open_in r) ≡ false
  unfolding plain.valid_register
  too_many g = rw (length-opened, lt-leb r.count 345 g)

  -- a valid register has room for all that it counts
  pub room : plain.valid_register (open_in r) ≡ true → r.count ≤ 345
  room e = go (leb r.count 345) refl
    where
      go : (t : Bool) → leb r.count 345 ≡ t → r.count ≤ 345
      go true q = leb-true r.count 345 q
      go false q = let z = sym e ∙ too_many (leb-false r.count 345 q) in cc

  module _ (h : r.count ≤ 345) where
    -- so all open IDs lie in the array
    pub within : open_in r ≡ record { opened = take r.count r.ids; off = not (eqb r.off 0) }
    unfolding open_in
    within =
        let e : r.count - 345 ≡ 0 = omega arith in
        rw (e, append-nil (take r.count r.ids))

    pub validity : plain.valid_register (open_in r)
        ≡ (list_all (λ x. leb x max_extended_id) (take r.count r.ids) && (eqb r.off 0 || eqb r.count 0))
    unfolding plain.valid_register
    validity =
        rw (within, length-take-le r.count r.ids (omega arith), le-leb r.count 345 h, all_below max_extended_id (take r.count r.ids))
        (go (eqb r.off 0))
      where
        go : (t : Bool) → (list_all (λ x. leb x max_extended_id) (take r.count r.ids) && (not (not t) || eqb r.count 0))
            ≡ (list_all (λ x. leb x max_extended_id) (take r.count r.ids) && (t || eqb r.count 0))
        go true = refl
        go false = refl

pub ruleset valid = (too_many, validity)

pub ruleset made = (room, within)

-- ---- closing

-- where the first equal ID is, and the list's length where there is none
abbrev place_of : ℕ → List ℕ → ℕ
place_of id l = position_or_len (λ x. x == id) l

found : (id : ℕ) (l : List ℕ) → plain.is_open id l ≡ ltb (place_of id l) (length l)
unfolding plain.is_open
found id [] = refl
found id (x ∷ xs) = rw (found id xs) (go (eqb x id))
  where
    go : (t : Bool) → (t || ltb (place_of id xs) (length xs)) ≡ ltb (cond (not t) (1 + place_of id xs) 0) (suc (length xs))
    go true = grind (arith, nat_tests)
    go false = grind (arith, nat_tests)

removed : (id : ℕ) (l : List ℕ) → plain.remove id l ≡ remove l (place_of id l)
unfolding plain.remove
removed id [] = refl
removed id (x ∷ xs) = rw (removed id xs) (go (eqb x id))
  where
    go : (t : Bool) → cond t xs (x ∷ remove xs (place_of id xs)) ≡ remove (x ∷ xs) (cond (not t) (1 + place_of id xs) 0)
    go true = refl
    go false = search rules

module _ (r : plain.Register) (id : ℕ) where
  pub closes_none : None ≡ position (λ x. x == id) r.opened → plain.rejected register_differs ≡ plain.close_id r id
  unfolding plain.close_id
  closes_none e = rw (found id r.opened) (go (ltb (place_of id r.opened) (length r.opened)) _ e)
    where
      go : (t : Bool) (u : plain.Update) → None ≡ cond t (Some (place_of id r.opened)) None
          → plain.rejected register_differs ≡ cond t u (plain.rejected register_differs)
      go true u e = cc
      go false u e = refl

  pub closes_at : (place : ℕ) → Some place ≡ position (λ x. x == id) r.opened
      → plain.updated (plain.with_opened r (remove r.opened place)) ≡ plain.close_id r id
  unfolding plain.close_id
  closes_at place e = rw (found id r.opened, removed id r.opened) (go (ltb (place_of id r.opened) (length r.opened)) _ e)
    where
      go : (t : Bool) (u : plain.Update) → Some place ≡ cond t (Some (place_of id r.opened)) None
          → plain.updated (plain.with_opened r (remove r.opened place))
          ≡ cond t (plain.updated (plain.with_opened r (remove r.opened (place_of id r.opened)))) u
      go true u e = cc
      go false u e = cc

pub ruleset closing = (closes_none, closes_at)

-- ---- the form that a call hands back

pub off_is : (b : Bool) → bool_byte b ≡ cond b 1 0
off_is true = refl
off_is false = refl

-- ---- opening, of C's record

-- a register that is Bus-Off opens nothing
pub open_off : (r : Register) (id : ℕ) → (r.off ≡ 0 → ⊥) → plain.updated (open_in r) ≡ plain.open_id (open_in r) id
unfolding plain.open_id open_in
open_off r id h = rw (ne_eqb r.off 0 h)

-- and one with 345 open IDs refuses one more
pub open_full : (r : Register) (id : ℕ) (k : length r.ids ≡ 345) → r.off ≡ 0 → r.count ≤ 345 → 345 ≤ r.count
    → plain.rejected register_full ≡ plain.open_id (open_in r) id
unfolding plain.open_id
open_full r id k on h g =
    rw (within r k h, eq-eqb r.off 0 on, length-take-le r.count r.ids (omega arith), le-leb 345 r.count g)
