-- What stands at the front goes by the length of the operation that is all there: decoded, or the end, fault 1 or fault 2.
-- Assumes nothing.
use mathlib.Core.Path.{◌≡◌, refl}
use mathlib.Core.Bool.{Bool, true, false, cond}
use mathlib.Core.List.{List}
use Prim.Native.Nat.{ℕ, ◌≤◌}
use native.Mathlib.Omega.{arith}
use lib.Dec.{ltb, eqb}
use lib.ListN.{length, take}
use borrow.Author.Tests.{eqb-true, ltb-false}
use Rattle.std.proofs.Common.{Option, None, Some, Err}
use Rattle.decoder.specs.Front.{decode, stated_length, whole_length, sized, front}
use Rattle.decoder.specs.declared.Fault.TheVariants.{TooFewLeft, BadLength}

-- an operation that is all there lies within, and is decoded; otherwise there is the end, or fault 1 or 2
abbrev pub ByWhole : List ℕ → Option ℕ → Type 0
ByWhole s None =
    front s
    ≡ cond (eqb (length s) 0) None
    (cond (ltb (length s) 8) (Some (sized (Err TooFewLeft) (length s))) (Some (sized (Err BadLength) (length s))))
ByWhole s (Some n) = (n ≤ length s) × (front s ≡ Some (sized (decode (take n s)) n))

pub by_whole : (s : List ℕ) {w : Option ℕ} → whole_length s ≡ w → ByWhole s w
unfolding whole_length front
by_whole s e = rw e at (go (eqb (length s) 0) refl (ltb (length s) 8) refl (ltb n 8) refl (ltb (length s) n) refl)
  where
    n : ℕ
    n = stated_length s

    go : (e : Bool) → eqb (length s) 0 ≡ e → (a : Bool) → ltb (length s) 8 ≡ a → (b : Bool) → ltb n 8 ≡ b → (c : Bool)
        → ltb (length s) n ≡ c → ByWhole s (cond a None (cond b None (cond c None (Some n))))
    go e qe true qa b qb c qc = rw (qe, qa)
    go e qe false qa true qb c qc = rw (qe, qa, qb)
    go e qe false qa false qb true qc = rw (qe, qa, qb, qc)
    go true qe false qa false qb false qc = absurd (omega (arith, eqb-true (length s) 0 qe, ltb-false (length s) 8 qa))
    go false qe false qa false qb false qc = (ltb-false (length s) n qc, rw (qe, qa, qb, qc))
