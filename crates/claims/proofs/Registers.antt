-- The records that the registers are kept in are the plain bus's registers, written flat, and so they are after any register call.
-- Assumes nothing.
use mathlib.Core.Path.{◌≡◌, refl, ap}
use Prim.Native.Nat.{ℕ, zero, suc, ◌-◌, ◌≤◌}
use native.Mathlib.Omega.{arith}
use mathlib.Core.Bool.{Bool, true, false, cond, not}
use mathlib.Core.List.{List, [], ◌∷◌, ◌++◌, map, append-nil}
use lib.Dec.{leb, eqb}
use lib.ListN.{length, get_or, set, take, replicate, get_or-map, get_or-eq_default}
use lib.Seq.{take-append_seam}
use borrow.Author.Tests.{leb-true, leb-false}
use Rattle.operation.proofs.Tests.{both}
use Rattle.plain_bus.specs.Held.{Bus}
use Rattle.plain_bus.specs.Register.{Register, max_open, new_register, valid_register, Update, updated, rejected, update_number, register_after}
use Rattle.plain_bus.specs.Network as network
use Rattle.plain_bus.proofs.Tally.{register-valid}
use Rattle.plain_bus.proofs.Networks.{Agree}
use Rattle.open_frames.specs.Record.{open_in, record_of, answered}
use Rattle.claims.specs.Demands.{Registers, register_at, keep}

-- ---- one register

-- what is written flat is read back, where it fits
open_record : (x : Register) → length x.opened ≤ max_open → open_in (record_of x) ≡ x
unfolding open_in record_of
open_record x h =
    let none : length x.opened - max_open ≡ 0 = omega arith in
    let all : take (length x.opened) (x.opened ++ replicate (max_open - length x.opened) 0) ≡ x.opened =
    take-append_seam x.opened _ in
    rw (all, none, append-nil) (λ i. record { opened = x.opened; off = flag x.off i })
  where
    flag : (o : Bool) → not (eqb (cond o 1 0) 0) ≡ o
    flag true = refl
    flag false = refl

-- a register call answers with the register after it, written flat
answered_record : (x : Register) (u : Update)
    → answered (record_of x) u ≡ record { number = update_number u; register = record_of (register_after x u) }
answered_record x (updated y) = refl
answered_record x (rejected r) = refl

-- ---- all registers

set-map : (xs : List Register) (k : ℕ) (y : Register) → set (map record_of xs) k (record_of y) ≡ map record_of (set xs k y)
set-map [] k y = refl
set-map (x ∷ xs) zero y = refl
set-map (x ∷ xs) (suc k) y = ap (λ l. record_of x ∷ l) (set-map xs k y)

pub map-replicate : (n : ℕ) (x : Register) → replicate n (record_of x) ≡ map record_of (replicate n x)
map-replicate zero x = refl
map-replicate (suc n) x = ap (λ l. record_of x ∷ l) (map-replicate n x)

-- the registers are those of the plain bus, written flat
pub record Flattens (rs : Registers) (ps : network.NodeRegisters) : Type 0 where
  pub each : rs.each ≡ map record_of ps.each
  pub numbers : rs.numbers ≡ ps.answers

-- the same choice on both sides
pub choose : (t : Bool) {rs rs' : Registers} {ps ps' : network.NodeRegisters} → Flattens rs ps → Flattens rs' ps'
    → Flattens (cond t rs rs') (cond t ps ps')
choose true f g = f
choose false f g = g

-- at most 345 are open at each
few_open : (b : Bus) (rs : List Register) → Agree b rs → (k : ℕ) → length (get_or rs k new_register).opened ≤ max_open
unfolding valid_register
few_open b rs a k = go (leb (length rs) k) refl
  where
    go : (t : Bool) → leb (length rs) k ≡ t → length (get_or rs k new_register).opened ≤ max_open
    go true e = rw (get_or-eq_default rs new_register (leb-true (length rs) k e)) (omega arith)
    go false e =
        let h = leb-false (length rs) k e in
        let x = get_or rs k new_register in
        let v = register-valid (a.bus.valid.each k (omega (arith, a.size))) (a.each k (omega (arith, a.size))) in
        leb-true (length x.opened) max_open (both (leb (length x.opened) max_open) _ (both _ _ v).0).0

module _ (b : Bus) (rs : Registers) (ps : network.NodeRegisters) (a : Agree b ps.each) (f : Flattens rs ps) (k : ℕ) where
  register_record : register_at rs k ≡ record_of (network.node_register ps k)
  register_record = rw f.each (get_or-map record_of ps.each k new_register)

  pub register_open : open_in (register_at rs k) ≡ network.node_register ps k
  register_open = rw register_record (open_record (network.node_register ps k) (few_open b ps.each a k))

  -- after a register call of node k
  pub keep_flattens : (call : Register → Update)
      → Flattens (keep rs k (answered (register_at rs k) (call (open_in (register_at rs k)))))
      (network.note_update ps k (call (network.node_register ps k)))
  unfolding network.note_update
  keep_flattens call =
      let x = network.node_register ps k in
      let u = call (network.node_register ps k) in
      rw (register_open, register_record, answered_record x u)
      (record {
        each = rw f.each (set-map ps.each k (register_after x u));
        numbers = ap (λ l. update_number u ∷ l) f.numbers;
      })
