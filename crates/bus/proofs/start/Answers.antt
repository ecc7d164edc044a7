-- Refusals in their order.
use Rattle.bus_model.specs.Primitives.{new_state, start_memory}
use Rattle.bus_state.specs.Memory.{held}
use Rattle.bus.proofs.Lending.{sizes_of, start_wrong, start-refused, start-accepted}
use mathlib.Core.Path.{sym, ◌∙◌}
use Rattle.bus.proofs.start.Goals as goal

pub returns-then-not-are_lent : goal.returns-then-not-are_lent
returns-then-not-are_lent c =
    let m = held (new_state 0) c.args.a c.args.payload.now c.args.queues.now in
    let wrong = sizes_of m c.well_formed.0.1.0.1 ∙ sym c.are_lent.ensures ∙ c.if-not-are_lent.true in
    rw (c.new_state.ensures, start_wrong m c.args.count wrong)

pub returns-then-count : goal.returns-then-count
unfolding start_memory
returns-then-count c =
    let m = held (new_state 0) c.args.a c.args.payload.now c.args.queues.now in
    let right = sizes_of m c.well_formed.0.1.0.1 ∙ sym c.are_lent.ensures ∙ c.if-not-are_lent.false in
    rw (c.new_state-then-count.ensures, c.free-free.ensures, start-accepted m c.args.count right c.if-count.true)

pub returns : goal.returns
returns c =
    let m = held (new_state 0) c.args.a c.args.payload.now c.args.queues.now in
    let right = sizes_of m c.well_formed.0.1.0.1 ∙ sym c.are_lent.ensures ∙ c.if-not-are_lent.false in
    rw (c.new_state-2.ensures, start-refused m c.args.count right c.if-count.false)
