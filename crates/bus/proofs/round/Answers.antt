-- Refusals 1 and 3 in front of the round.
use Rattle.bus_model.specs.Calls.{rounded, round_in}
use Rattle.slots.specs.Blocks.{block_at}
use Rattle.plain_bus.specs.Round.{injection_from}
use Rattle.bus.proofs.Rounds.{drawn}
use Rattle.bus_state.specs.Memory.{held}
use Rattle.bus.proofs.Lending.{counted, refused-ends, past_tests, passed}
use Rattle.outcome.proofs.Endings.{block-kept-ends}
use Rattle.outcome.specs.Ended.{ended}
use mathlib.Core.Path.{sym, ap, ◌∙◌}
use native.Mathlib.Omega.{arith}
use Rattle.bus.proofs.round.Goals as goal

pub returns-in-Err : goal.returns-in-Err
unfolding round_in
returns-in-Err c =
    let g = c.args in
    rw c.refused.ensures
    (record {
      ended = λ a h.
          let m = held g.s a g.payload.now g.queues.now in
          block-kept-ends _ g.s a _ g.payload.now g.queues.now (sym h.block ∙ ap (block_at a) (sym
          c.winner_block-at.ensures.0))
          ∙ sym (refused-ends (counted h.scan) g.payload.now g.queues.now (rounded m (injection_from g.injected g.code
          g.detector))
          _ (sym c.test_lent.ensures ∙ c.in-Err.is));
      inside = c.winner_block-at.ensures.1;
    })

pub unwrap-payload-requires : goal.unwrap-payload-requires
unwrap-payload-requires c =
    let v = past_tests (counted c.requires.1.scan) c.args.payload.now c.args.queues.now (sym c.test_lent.ensures ∙ c.in_default.is) in
    c.as_mut_array.ensures.variant.1 v.payload

pub unwrap-queues-requires : goal.unwrap-queues-requires
unwrap-queues-requires c =
    let v = past_tests (counted c.requires.1.scan) c.args.payload.now c.args.queues.now (sym c.test_lent.ensures ∙ c.in_default.is) in
    c.as_mut_array-2.ensures.variant.1 v.queues

pub winner_of-best-requires : goal.winner_of-best-requires
winner_of-best-requires c =
    let p = c.args.payload.now in
    let q = c.args.queues.now in
    let k = (past_tests (counted c.requires.1.scan) p q (sym c.test_lent.ensures ∙ c.in_default.is)).keyed in
    omega (arith, k)

pub round-requires : goal.round-requires
round-requires c =
    let v = past_tests (counted c.requires.1.scan) c.args.payload.now c.args.queues.now (sym c.test_lent.ensures ∙ c.in_default.is) in
    record { drawn = (c.requires.0, drawn c.requires.1 v.keyed c.winner_of-best.ensures) }

pub returns : goal.returns
unfolding round_in
returns c =
    let g = c.args in
    let p = (rw c.unwrap-payload.ensures at c.as_mut_array.ensures.cases).same in
    let q = (rw c.unwrap-queues.ensures at c.as_mut_array-2.ensures.cases).same in
    record {
      ended = λ a h.
          let m = held g.s a g.payload.now g.queues.now in
          let v = past_tests (counted h.scan) g.payload.now g.queues.now (sym c.test_lent.ensures ∙ c.in_default.is) in
          c.round.ensures.queues_after a (drawn h v.keyed c.winner_of-best.ensures)
          ∙ rw (c.injection_of-e.ensures, p, q) (sym (ap ended (passed m (rounded m (injection_from g.injected g.code g.detector))
          v.lent_well_lem
          v.valid)));
      inside = c.round.ensures.slots_per_node_bound;
    }
