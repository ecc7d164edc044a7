-- An entry is at its number in its half.
use Rattle.bus_state.proofs.Arrays.{in_low_half, in_high_half}
use Prim.Native.Nat.{◌≤◌, ◌<◌}
use native.Mathlib.Omega.{arith}
use Rattle.bus_state.proofs.entry.Goals as goal

pub returns-then-j-lt4 : goal.returns-then-j-lt4
returns-then-j-lt4 c =
    let a = c.args in
    let h : a.j < 4 = omega arith in
    in_low_half a.s.nodes _ a.j h

pub returns : goal.returns
returns c =
    let a = c.args in
    let h : 4 ≤ a.j = omega arith in
    let k : a.j < 8 = omega arith in
    in_high_half a.s.nodes _ a.j h k
