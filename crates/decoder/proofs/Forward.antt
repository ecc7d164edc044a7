-- What stands at the front of some bytes takes up at least one of them, and no more than there are.
-- Assumes nothing.
use mathlib.Core.Path.{◌≡◌, refl, sym, ap}
use mathlib.Core.Bool.{Bool, true, false, cond}
use mathlib.Core.List.{List}
use Prim.Native.Nat.{ℕ, ◌+◌, ◌-◌, ◌≤◌, ◌<◌}
use native.Mathlib.Omega.{arith}
use lib.Dec.{ltb, eqb}
use lib.ListN.{length, take, drop, length-drop}
use lib.Seq.{take_all}
use borrow.Author.Tests.{eqb-true, ltb-false}
use Rattle.std.proofs.Common.{Option, None, Some, Err}
use Rattle.decoder.specs.Front.{decode, stated_length, sized, front, taken}
use Rattle.decoder.specs.Reading.{placed, read_at}
use Rattle.decoder.specs.declared.Fault.TheVariants.{TooFewLeft, BadLength}
use Rattle.decoder.specs.declared.Front.{Front}

-- it moves forward, and stays within
pub forward : (s : List ℕ) → 1 ≤ length s → (1 ≤ taken (front s)) × (taken (front s) ≤ length s)
unfolding front
forward s h =
    go (eqb (length s) 0) refl (ltb (length s) 8) (ltb (stated_length s) 8) refl (ltb (length s) (stated_length s)) refl
  where
    n : ℕ
    n = stated_length s

    go : (a : Bool) → eqb (length s) 0 ≡ a → (b c : Bool) → ltb n 8 ≡ c → (d : Bool) → ltb (length s) n ≡ d
        → let f : Option Front =
        cond a None
        (cond b (Some (sized (Err TooFewLeft) (length s)))
        (cond c (Some (sized (Err BadLength) (length s)))
        (cond d (Some (sized (Err BadLength) (length s))) (Some (sized (decode (take n s)) n))))) in
        (1 ≤ taken f) × (taken f ≤ length s)
    go true qa b c qc d qd = absurd (omega (arith, eqb-true (length s) 0 qa))
    go false qa true c qc d qd = omega arith
    go false qa false true qc d qd = omega arith
    go false qa false false qc true qd = omega arith
    go false qa false false qc false qd = omega (arith, ltb-false n 8 qc, ltb-false (length s) n qd)

-- the rest of a buffer from a position on, as code cuts it out
pub rest : (s : List ℕ) (at : ℕ) → take (length s - at) (drop at s) ≡ drop at s
rest s at = take_all (length s - at) (drop at s) (omega (arith, length-drop at s))

-- reading at a position goes by what stands at the front of the rest
pub reads : (s : List ℕ) (at : ℕ) {f : Option Front} → front (take (length s - at) (drop at s)) ≡ f → placed at f ≡ read_at s at
unfolding read_at
reads s at e = sym (ap (placed at) (rw (rest s at) at e))

-- a reading at a position before the end moves on, and not past the end
pub moves : (s : List ℕ) (at : ℕ) {f : Option Front} → front (take (length s - at) (drop at s)) ≡ f → at < length s
    → (at < at + taken f) × (at + taken f ≤ length s)
moves s at e h =
    let l : length (drop at s) ≡ length s - at = length-drop at s in
    let m = rw (rw (rest s at) at e) at (forward (drop at s) (omega arith)) in
    omega arith
