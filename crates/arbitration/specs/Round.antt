-- Internal. A round that is carried out, as the model answers it.
-- Assumes nothing.
use Rattle.std.specs.Prelude.{◌-◌}
use Rattle.plain_bus.specs.Order.{Entry}
use Rattle.plain_bus.specs.Round.{Injection, is_errored, winner_id}
use Rattle.plain_bus.specs.Calls.{carried}
use Rattle.bus_state.specs.Memory.{Memory}
use Rattle.bus_model.specs.Round.{after_round_in}
use Rattle.bus_model.specs.Calls.{Result, replies}

-- the answer names sender, ID, whether errored, and the age
abbrev pub carried_out : Memory → Injection → Entry → Result
carried_out m e w =
    replies (carried w.owner (winner_id w) (is_errored e) (m.state.round - w.frame.accepted)) (after_round_in e w m)
