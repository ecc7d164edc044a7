-- Refusals 1 and 3 in front of the submission.
use Rattle.bus_model.specs.Calls.{submitted, submit_in}
use Rattle.bus_state.proofs.Validity.{valid-count, valid_node_at}
use Rattle.slots.specs.Blocks.{block_at}
use Rattle.bus_state.specs.Memory.{held}
use Rattle.bus.proofs.Lending.{counted, refused-ends, past_tests, passed}
use Rattle.outcome.proofs.Endings.{block-kept-ends}
use Rattle.outcome.specs.Ended.{ended}
use mathlib.Core.Path.{sym, ap, ◌∙◌}
use Rattle.bus.proofs.submit.Goals as goal

pub returns-in-Err : goal.returns-in-Err
unfolding submit_in
returns-in-Err c =
    let g = c.args in
    rw c.refused.ensures
    (record {
      ended = λ a h b.
          let m = held g.s a g.payload.now g.queues.now in
          block-kept-ends _ g.s a _ g.payload.now g.queues.now (sym b ∙ ap (block_at a) (sym c.first_slot-at.ensures.0))
          ∙ sym (refused-ends (counted h) g.payload.now g.queues.now (submitted m g.node g.buffer.now) _
          (sym c.test_lent.ensures ∙ c.in-Err.is));
      inside = c.first_slot-at.ensures.1;
    })

pub unwrap-payload-requires : goal.unwrap-payload-requires
unwrap-payload-requires c =
    let v = past_tests (counted c.requires.1) c.args.payload.now c.args.queues.now (sym c.test_lent.ensures ∙ c.in_default.is) in
    c.as_mut_array.ensures.variant.1 v.payload

pub unwrap-queues-requires : goal.unwrap-queues-requires
unwrap-queues-requires c =
    let v = past_tests (counted c.requires.1) c.args.payload.now c.args.queues.now (sym c.test_lent.ensures ∙ c.in_default.is) in
    c.as_mut_array-2.ensures.variant.1 v.queues

pub submit-requires : goal.submit-requires
submit-requires c =
    let v = past_tests (counted c.requires.1) c.args.payload.now c.args.queues.now (sym c.test_lent.ensures ∙ c.in_default.is) in
    ((valid-count _ _ v.valid).1, λ h. (valid_node_at _ _ v.valid c.args.node h).entry.fill)

pub returns-clause-ended : goal.returns-clause-ended
unfolding submit_in
returns-clause-ended c = λ a h b.
    let g = c.args in
    let m = held g.s a g.payload.now g.queues.now in
    let v = past_tests (counted h) g.payload.now g.queues.now (sym c.test_lent.ensures ∙ c.in_default.is) in
    let p = (rw c.unwrap-payload.ensures at c.as_mut_array.ensures.cases).same in
    let q = (rw c.unwrap-queues.ensures at c.as_mut_array-2.ensures.cases).same in
    c.submit.ensures.ended a (ap (block_at a) c.submit.ensures.place ∙ b)
    ∙ rw (p, q) (sym (ap ended (passed m (submitted m g.node g.buffer.now) v.lent_well_lem v.valid)))
