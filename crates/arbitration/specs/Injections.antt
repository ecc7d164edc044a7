-- Internal. An injected error as the plain bus has it.
-- Assumes nothing.
use Rattle.std.specs.Prelude.{Bool, true, false, not, ◌||◌, ltb, Option, None, Some}
use Rattle.operation.specs.Rules.{one_of, error_codes}
use Rattle.plain_bus.specs.Round as plain
use Rattle.bus_state.specs.Memory.{node_state, is_off}
use Rattle.bus_state.specs.declared.State.{State}
use Rattle.arbitration.specs.declared.Injection.{Injection}

abbrev pub injection_of : Option Injection → plain.Injection
injection_of None = plain.no_error
injection_of (Some i) = plain.injected i.code i.detector

-- the code is one of the table, where there is one
abbrev pub has_legal_code : Option Injection → Bool
has_legal_code None = true
has_legal_code (Some i) = one_of i.code error_codes

-- 6: its code is not in the table, or its node not attached or Bus-Off
unfoldable pub is_wrong : State → Option Injection → Bool
is_wrong s None = false
is_wrong s (Some i) =
    not (one_of i.code error_codes) || not (ltb i.detector s.count) || is_off (node_state s i.detector)
