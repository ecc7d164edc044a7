-- The loop's invariant: what is left of the buffer goes on as the whole did.
use Prim.Native.Nat.{◌-◌, ◌*◌}
use Rattle.bus_state.specs.Memory.{held, slots_per_node}
use Rattle.decoder.specs.Stream.{items_of}
use Rattle.slots.specs.Blocks.{set_block}
use Rattle.slots.specs.declared.Slot.{Slot}
use Rattle.submission.proofs.Turns.{Going}
use Rattle.submission.specs.Carrying.{memory_after_all}
use lib.ListN.{length}
use mathlib.Core.List.{List, [], ◌∷◌}
use Rattle.submission.proofs.Sender.carry_buffer.Given as goal

abbrev pub invariant-loop-step : goal.invariant-loop-step
invariant-loop-step l =
    Going l.self.state.now l.self.node l.buffer
    (λ (slots : List Slot). memory_after_all l.self.node (items_of l.buffer) (held l.self.state.now (set_block slots (slots_per_node * l.self.node) (l.initial.first ∷ l.initial.second ∷ l.initial.third ∷ l.initial.fourth ∷ [])) l.initial.payload l.initial.queues))
    l.at l.wakeups l.d (l.first ∷ l.second ∷ l.third ∷ l.fourth ∷ []) l.payload l.queues

abbrev pub decreases-loop-step : goal.decreases-loop-step
decreases-loop-step l = length l.buffer - l.at
