-- Contract. A node's entry: whether the node is Bus-Off, and the setters, of one entry and of one field of it.
-- Assumes nothing.
use Rattle.std.specs.Prelude.{ℕ, List, set}
use Rattle.bus_state.specs.declared.State.{State}
use Rattle.bus_state.specs.declared.NodeState.{NodeState}

abbrev pub with_entry : State → ℕ → NodeState → State
with_entry s j d = record { count = s.count; round = s.round; nodes = set s.nodes j d }

abbrev pub entry_status : NodeState → ℕ → NodeState
entry_status d x = record { rates = d.rates; fill = d.fill; status = x; behaviour = d.behaviour; pending = d.pending }

abbrev pub entry_behaviour : NodeState → ℕ → NodeState
entry_behaviour d x = record { rates = d.rates; fill = d.fill; status = d.status; behaviour = x; pending = d.pending }

abbrev pub entry_rates : NodeState → List ℕ → NodeState
entry_rates d x = record { rates = x; fill = d.fill; status = d.status; behaviour = d.behaviour; pending = d.pending }

abbrev pub entry_fill : NodeState → ℕ → NodeState
entry_fill d x = record { rates = d.rates; fill = x; status = d.status; behaviour = d.behaviour; pending = d.pending }

abbrev pub entry_pending : NodeState → ℕ → NodeState
entry_pending d x = record { rates = d.rates; fill = d.fill; status = d.status; behaviour = d.behaviour; pending = x }
