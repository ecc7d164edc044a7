-- The first size that is wrong decides.
use Rattle.bus_state.specs.Memory.{slot_count, payload_bytes, queue_bytes}
use Rattle.bus.specs.Tested.{lent_sizes}
use Rattle.bus.proofs.Lending.{wrong_second}
use borrow.Author.Tests.{eq-eqb, ne_eqb}
use lib.Dec.{eqb}
use mathlib.Core.Path.{sym}
use Rattle.bus.proofs.are_lent.Goals as goal

pub returns-then-slots-ne-SLOTS : goal.returns-then-slots-ne-SLOTS
unfolding lent_sizes
returns-then-slots-ne-SLOTS c = rw (ne_eqb _ _ c.if-slots-ne-SLOTS.true)

pub returns-then-payload-ne-PAYLOAD_BYTES : goal.returns-then-payload-ne-PAYLOAD_BYTES
unfolding lent_sizes
returns-then-payload-ne-PAYLOAD_BYTES c =
    let g = c.args in
    sym (wrong_second (eqb g.slots slot_count) (eqb g.payload payload_bytes) (eqb g.queues queue_bytes) (ne_eqb _ _ c.if-payload-ne-PAYLOAD_BYTES.true))

pub returns : goal.returns
unfolding lent_sizes
returns c = rw (eq-eqb _ _ c.if-slots-ne-SLOTS.false, eq-eqb _ _ c.if-payload-ne-PAYLOAD_BYTES.false)
