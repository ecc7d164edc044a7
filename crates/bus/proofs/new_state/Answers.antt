-- Eight new entries.
use Rattle.bus_model.specs.Primitives.{new_state}
use Rattle.bus.proofs.new_state.Goals as goal

pub returns : goal.returns
unfolding new_state
returns c = rw c.new_entry-entry.ensures
