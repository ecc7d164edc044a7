-- Refusals in their order; then the queue is copied and emptied.
use Prim.Native.Nat.{ℕ, ◌+◌, ◌*◌, ◌≤◌}
use Rattle.buffers.proofs.Offsets.{length_part}
use Rattle.buffers.specs.Parts.{part}
use Rattle.bus_state.proofs.Validity.{valid-count, valid_node_at}
use Rattle.bus_model.specs.Calls.{Result, checked, collect_in, collection, queue_at, buffer_after}
use Rattle.bus_model.specs.Primitives.{entry_at, empty_queue, set_entry}
use Rattle.bus_state.specs.Memory.{held}
use Rattle.bus_state.specs.declared.State.{State}
use Rattle.outcome.specs.declared.Answer.{Answer}
use Rattle.bus.specs.Left.{left, leaves}
use Rattle.bus.specs.Given.{Counted}
use Rattle.slots.specs.declared.Slot.{Slot}
use Rattle.bus.proofs.Lending.{refused-ends, refused_writes, leaves_as, past_tests, passed, collect_unattached, collect_small}
use Rattle.bus.proofs.Lending.{collect-done}
use borrow.Author.Tests.{le-ltb, lt-ltb}
use lib.Dec.{ltb}
use lib.ListN.{length}
use mathlib.Core.List.{List}
use mathlib.Core.Path.{sym, ap, ◌∙◌}
use native.Mathlib.Nat.{add-sub_cancel_left}
use native.Mathlib.Omega.{arith}
use Rattle.bus.proofs.collect.Goals as goal

-- what holds of all slots that the call may be made on, as one
module _ {s : State} {slots key : ℕ} {P Q : List Slot → Type 0} where
  each : ((a : List Slot) → Counted s slots key a → P a × Q a)
      → ((a : List Slot) → Counted s slots key a → P a) × ((a : List Slot) → Counted s slots key a → Q a)
  each f = (λ a h. (f a h).0, λ a h. (f a h).1)

pub returns-in-Err : goal.returns-in-Err
unfolding collect_in
returns-in-Err c =
    let g = c.args in
    let p = g.payload.now in
    let q = g.queues.now in
    let b = g.buffer.now in
    let told = sym c.test_lent.ensures ∙ c.in-Err.is in
    let r = each (λ a h.
    let m = held g.s a p q in
    let r = collection m g.node (length b) in (
      ap (λ (z : Answer). left z a p q) c.answer_of.ensures ∙ sym (leaves_as (checked m r) _ m (refused-ends h p q r _ told)),
      sym (refused_writes h p q r _ told b),
    )) in
    record { left = r.0; written = r.1 }

pub returns-then-s-node : goal.returns-then-s-node
unfolding collect_in
returns-then-s-node c =
    let g = c.args in
    let p = g.payload.now in
    let q = g.queues.now in
    let b = g.buffer.now in
    let r = each (λ a h.
    let m = held g.s a p q in
    let v = past_tests h p q (sym c.test_lent.ensures ∙ c.in_default.is) in
    let e = passed m (collection m g.node (length b)) v.lent_well_lem v.valid
    ∙ collect_unattached m g.node (length b) (le-ltb _ _ c.if-s-node.true) in (
      ap (λ (z : Answer). left z a p q) c.answer_of-then-s-node.ensures ∙ sym (ap leaves e),
      sym (ap (λ (z : Result). buffer_after z.reply b) e),
    )) in
    record { left = r.0; written = r.1 }

pub entry-d-requires : goal.entry-d-requires
entry-d-requires c =
    let p = c.args.payload.now in
    let q = c.args.queues.now in
    let v = past_tests c.requires.1 p q (sym c.test_lent.ensures ∙ c.in_default.is) in
    omega (arith, (valid-count _ _ v.valid).1, c.if-s-node.false)

pub returns-then-buffer-fill : goal.returns-then-buffer-fill
unfolding collect_in
returns-then-buffer-fill c =
    let g = c.args in
    let p = g.payload.now in
    let q = g.queues.now in
    let b = g.buffer.now in
    let r = each (λ a h.
    let m = held g.s a p q in
    let v = past_tests h p q (sym c.test_lent.ensures ∙ c.in_default.is) in
    let e = passed m (collection m g.node (length b)) v.lent_well_lem v.valid
    ∙ collect_small m g.node (length b) (lt-ltb _ _ c.if-s-node.false)
    (ap (λ d. ltb (length b) d.fill) (sym c.entry-d.ensures) ∙ lt-ltb _ _ c.if-buffer-fill.true) in (
      ap (λ (z : Answer). left z a p q) c.answer_of-then-buffer-fill.ensures ∙ sym (ap leaves e),
      sym (ap (λ (z : Result). buffer_after z.reply b) e),
    )) in
    record { left = r.0; written = r.1 }

pub slice_bounds-put-end : goal.slice_bounds-put-end
slice_bounds-put-end c =
    let p = c.args.payload.now in
    let q = c.args.queues.now in
    let m = held c.args.s c.requires.0 p q in
    let v = past_tests c.requires.1 p q (sym c.test_lent.ensures ∙ c.in_default.is) in
    let f = (valid_node_at _ _ v.valid c.args.node c.if-s-node.false).entry.fill in
    let h : c.entry-d.result.fill ≤ 4096 = rw c.entry-d.ensures f in
    let r : 4096 * c.args.node + c.entry-d.result.fill ≤ length q =
    omega (arith, h, (valid-count _ _ v.valid).1, c.if-s-node.false, v.queues) in
    r

pub put-requires : goal.put-requires
unfolding part
put-requires c =
    let p = c.args.payload.now in
    let q = c.args.queues.now in
    let m = held c.args.s c.requires.0 p q in
    let v = past_tests c.requires.1 p q (sym c.test_lent.ensures ∙ c.in_default.is) in
    let f = (valid_node_at _ _ v.valid c.args.node c.if-s-node.false).entry.fill in
    let h : c.entry-d.result.fill ≤ 4096 = rw c.entry-d.ensures f in
    let k = length_part (4096 * c.args.node) c.entry-d.result.fill q
    (omega (arith, h, (valid-count _ _ v.valid).1, c.if-s-node.false, v.queues)) in
    rw (add-sub_cancel_left, k) (omega (arith, c.if-buffer-fill.false))

pub with_entry-requires : goal.with_entry-requires
with_entry-requires c =
    let p = c.args.payload.now in
    let q = c.args.queues.now in
    let v = past_tests c.requires.1 p q (sym c.test_lent.ensures ∙ c.in_default.is) in
    omega (arith, (valid-count _ _ v.valid).1, c.if-s-node.false)

pub returns : goal.returns
unfolding collect_in queue_at empty_queue set_entry part
returns c =
    let g = c.args in
    let p = g.payload.now in
    let q = g.queues.now in
    let room = length g.buffer.now in
    let e = c.entry-d.ensures in
    record {
      left = λ a h.
          let m = held g.s a p q in
          let v = past_tests h p q (sym c.test_lent.ensures ∙ c.in_default.is) in
          let f = (valid_node_at _ _ v.valid g.node c.if-s-node.false).entry.fill in
          let k = length_part (4096 * g.node) (entry_at m g.node).fill q
          (omega (arith, f, (valid-count _ _ v.valid).1, c.if-s-node.false, v.queues)) in
          rw (
            passed m (collection m g.node room) v.lent_well_lem v.valid,
            collect-done m g.node room (lt-ltb _ _ c.if-s-node.false)
                (ap (λ d. ltb room d.fill) (sym e) ∙ le-ltb _ _ c.if-buffer-fill.false),
          ) (rw (c.answer_of-2.ensures, c.with_entry.ensures, c.with_fill-empty.ensures, e, k));
      written = λ a h.
          let m = held g.s a p q in
          let v = past_tests h p q (sym c.test_lent.ensures ∙ c.in_default.is) in
          rw (
            passed m (collection m g.node room) v.lent_well_lem v.valid,
            collect-done m g.node room (lt-ltb _ _ c.if-s-node.false)
                (ap (λ d. ltb room d.fill) (sym e) ∙ le-ltb _ _ c.if-buffer-fill.false),
          ) (rw (c.put.ensures, add-sub_cancel_left, e));
    }
