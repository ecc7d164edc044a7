-- When an injection is refused.
-- Assumes nothing.
use mathlib.Core.Path.{◌≡◌, refl}
use mathlib.Core.Bool.{Bool, true, false, not, ◌||◌}
use Rattle.std.specs.Prelude.{Option, None, Some, is_some}
use Prim.Native.Nat.{ℕ}
use lib.Dec.{ltb, eqb}
use native.Mathlib.Omega.{arith}
use Rattle.operation.specs.Rules.{one_of, error_codes}
use Rattle.plain_bus.specs.Held.{bus_off}
use Rattle.plain_bus.specs.Round.{is_errored}
use Rattle.bus_state.specs.Memory.{Memory, node_state}
use Rattle.bus_state.specs.declared.State.{State}
use Rattle.bus_model.specs.Calls.{wrong_injection_in}
use Rattle.arbitration.specs.declared.Injection.{Injection}
use Rattle.arbitration.specs.Injections.{injection_of, has_legal_code, is_wrong}

-- it is the model's test
pub wrong_is : (m : Memory) (e : Option Injection) → wrong_injection_in m (injection_of e) ≡ is_wrong m.state e
unfolding wrong_injection_in is_wrong
wrong_is m None = refl
wrong_is m (Some i) = refl

-- an injection that is not refused has a legal code
pub right_code : (s : State) (e : Option Injection) → is_wrong s e ≡ false → has_legal_code e ≡ true
unfolding is_wrong
right_code s None q = refl
right_code s (Some i) q = go (one_of i.code error_codes) (not (ltb i.detector s.count)) (eqb (node_state s i.detector).status bus_off) q
  where
    go : (t b c : Bool) → (not t || b || c) ≡ false → t ≡ true
    go true b c q = refl
    go false b c q = let z : ◌≡◌ {A = ℕ} 0 1 = cc in absurd (omega arith)

-- a round is errored where there is an injection
pub errored_is : (e : Option Injection) → is_some e ≡ is_errored (injection_of e)
errored_is None = refl
errored_is (Some i) = refl
