-- One comparison for three rules of a CAN Transmit: Rtr is a bit, at most eight data bytes, and none with Rtr 1.
-- Assumes nothing.
use mathlib.Core.Path.{◌≡◌, refl, sym}
use mathlib.Core.Bool.{Bool, true, false, ◌&&◌, and-true, and-false}
use Prim.Native.Nat.{ℕ, zero, suc, ◌+◌, ◌*◌}
use native.Mathlib.Omega.{arith}
use lib.Dec.{leb}
use borrow.Author.Tests.{lt-leb, ne_eqb}
use Rattle.operation.specs.declared.Operation.TheVariants.{CanTransmit}
use Rattle.operation.specs.Rules.{is_bit, max_id, can_length, remote_rule, all_after, rules, legal}

pub one_sum : (rtr dl : ℕ) → leb (8 * rtr + dl) 8 ≡ (is_bit rtr && can_length dl && remote_rule rtr dl)
one_sum zero dl = let e : 8 * zero + dl ≡ dl = omega arith in rw (e, and-true (leb dl 8))
one_sum (suc zero) zero = refl
one_sum (suc zero) (suc d) =
    let e : remote_rule 1 (suc d) ≡ false = ne_eqb (suc d) 0 (λ q. omega (arith, q)) in
    rw (lt-leb (8 * 1 + suc d) 8 (omega arith), e) (sym (and-false (leb (suc d) 8)))
one_sum (suc (suc r)) dl = rw (lt-leb (8 * suc (suc r) + dl) 8 (omega arith), lt-leb (suc (suc r)) 1 (omega arith))

-- the rules of a CAN Transmit, with these three as one test
pub can_legal :
    (id ide rtr dl : ℕ) →
    (is_bit ide && leb id (max_id ide) && (is_bit rtr && can_length dl && remote_rule rtr dl)) ≡ legal (CanTransmit id ide rtr dl)
unfolding all_after rules legal
can_legal id ide rtr dl = three-more (is_bit ide && leb id (max_id ide)) (is_bit rtr) (can_length dl) (remote_rule rtr dl)
  where
    three-more : (x a b c : Bool) → (x && (a && b && c)) ≡ (x && a && b && c)
    three-more true a b c = refl
    three-more false a b c = refl
