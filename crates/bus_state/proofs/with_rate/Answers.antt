-- An entry has three baud rates, and the test of i says which of them is set.
use Rattle.bus_state.proofs.Arrays.{set_of_three}
use mathlib.Core.Path.{◌≡◌}
use native.Mathlib.Omega.{arith}
use Rattle.bus_state.proofs.with_rate.Goals as goal

pub returns : goal.returns
returns c =
    let rates = c.args.d.rates in
    let three = c.well_formed.0.1.1.0.1.0.1 in
    let last : c.args.i ≡ 2 = omega (arith, c.if-i-eq1.false, c.if-i-eq0.false) in
    rw (last, (set_of_three rates c.args.rate three).2)
