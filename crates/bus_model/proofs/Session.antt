-- Every call is that of the plain bus on the view.
-- Assumes nothing.
use mathlib.Core.Path.{◌≡◌}
use mathlib.Core.Bool.{true}
use Rattle.plain_bus.specs.Held.{Bus}
use Rattle.plain_bus.specs.Session.{Call, submission, round, collection, call}
use Rattle.bus_state.specs.Memory.{Memory, view}
use Rattle.bus_state.specs.Valid.{valid_state}
use Rattle.bus_model.specs.Refines.{TypedMemory, Refines}
use Rattle.bus_model.specs.Session.{call_in, ByteCall}
use Rattle.bus_model.proofs.Submit.{submit_refines}
use Rattle.bus_model.proofs.Round.{round_refines}
use Rattle.bus_model.proofs.Collect.{collect_refines}

pub call_refines : (m : Memory) (c : Call) → TypedMemory m → valid_state m.state m.slots ≡ true → ByteCall c
    → Refines (call_in m c) (call (view m) c)
unfolding call_in call
call_refines m (submission k buffer) t v u = submit_refines m k buffer t v u
call_refines m (round e) t v u = round_refines m e t v
call_refines m (collection k room) t v u = collect_refines m k room t v

-- what holds of the memory and the plain bus before and after each call
pub record Follows (m : Memory) (b : Bus) : Type 0 where
  pub bus : view m ≡ b
  pub valid : valid_state m.state m.slots ≡ true
  pub typed : TypedMemory m
