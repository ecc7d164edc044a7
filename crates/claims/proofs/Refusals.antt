-- The numbers of the table, by computation.
-- Assumes nothing.
use mathlib.Core.Path.{refl}
use Rattle.operation.specs.Rules.{all_after, one_of, rules, legal}
use Rattle.slots.specs.Slots.{content_of}
use Rattle.buffers.specs.Parts.{part}
use Rattle.bus_state.specs.Memory.{lent_well, frame_at, frames_from, node_view, nodes_from, view}
use Rattle.bus_state.specs.Valid.{valid_slot, valid_slots, non_zero, valid_entry, valid_node, valid_nodes, valid_state}
use Rattle.claims.specs.Numbers.{first_row, plain_rows}
use Rattle.claims.specs.Refusals.{refusal_numbers, RefusalsHold}

-- to name it is to open what validity names
valid : Unit {0}
unfolding all_after one_of rules legal content_of lent_well valid_slot valid_slots non_zero valid_entry valid_node valid_nodes valid_state
valid = tt

pub refusals_hold : RefusalsHold
unfolding valid part frame_at frames_from node_view nodes_from view first_row plain_rows refusal_numbers
refusals_hold = refl
