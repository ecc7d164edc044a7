-- What a Configuration that meets its rules sets: a behaviour of one byte, or one of three baud rates.
-- Assumes nothing.
use mathlib.Core.Path.{◌≡◌}
use mathlib.Core.Bool.{true}
use Prim.Native.Nat.{ℕ, ◌-◌, ◌≤◌, ◌<◌}
use native.Mathlib.Omega.{arith}
use borrow.Author.Tests.{leb-true}
use Rattle.operation.specs.Rules.{rules, legal}
use Rattle.operation.specs.declared.Operation.TheVariants.{Configuration}
use Rattle.operation.proofs.Tests.{passed}
use Rattle.decoder.proofs.Encoded.{behaviour_small}

pub behaviour_byte : (kind value : ℕ) → legal (Configuration kind value) ≡ true → kind ≡ 4 → value < 256
unfolding legal rules
behaviour_byte kind value l e = omega (arith, behaviour_small value (rw e at (passed _ l 2)))

pub rate_kind : (kind value : ℕ) → legal (Configuration kind value) ≡ true → (kind ≡ 4 → ⊥) → (1 ≤ kind) × (kind - 1 < 3)
unfolding legal rules
rate_kind kind value l n =
    let low : 1 ≤ kind = leb-true 1 kind (passed _ l 0) in
    let high : kind ≤ 4 = leb-true kind 4 (passed _ l 1) in
    (low, omega arith)
