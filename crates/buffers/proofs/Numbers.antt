-- The bytes of a number as the library gives them are those of the specification.
-- Assumes nothing.
use mathlib.Core.Path.{◌≡◌, refl}
use Prim.Native.Nat.{ℕ, zero, suc, ◌≤◌}
use native.Mathlib.Nat as nat
use native.Mathlib.Omega.{arith}
use lib.ListN.{take}
use Rattle.std.specs.Int.{w32, to_le_bytes}
use Rattle.operation.specs.Number.{little_endian}

-- the lowest n of the four bytes
pub lowest_bytes : (n x : ℕ) → n ≤ 4 → take n (to_le_bytes w32 x) ≡ little_endian n x
lowest_bytes zero x h = refl
lowest_bytes (suc zero) x h = refl
lowest_bytes (suc (suc zero)) x h = refl
lowest_bytes (suc (suc (suc zero))) x h = rw (nat.div-div-eq-div-mul x 256 256)
lowest_bytes (suc (suc (suc (suc zero)))) x h = rw (nat.div-div-eq-div-mul x 256 256, nat.div-div-eq-div-mul x 65_536 256)
lowest_bytes (suc (suc (suc (suc (suc n))))) x h = absurd (omega arith)
