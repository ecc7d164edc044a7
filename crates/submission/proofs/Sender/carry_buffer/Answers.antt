use Rattle.submission.proofs.Blocks.{four-slots}
use Rattle.submission.proofs.Carries.{quiet_rest}
use Rattle.submission.proofs.Takes.{step-smaller}
use Rattle.submission.proofs.Turns.{going_first, turn_can, turn_few, turn_fits, turn_room, quiet-turn, answer-turn, wake-turn, frame-turn}
use Rattle.submission.proofs.Walks.{memory-end}
use mathlib.Core.Path.{◌≡◌, refl, sym, ◌∙◌}
use native.Mathlib.Omega.{arith}
use Rattle.submission.proofs.Sender.carry_buffer.Goals as goal

pub loop-step-init : goal.loop-step-init
loop-step-init c =
    let n = c.args.self.now in
    let s = n.state.now in
    let v = c.requires.value in
    going_first s n.node c.args.buffer.now c.args.entry _ c.args.payload.now c.args.queues.now n.few n.eight n.number v.0 v.1 (rw v.1 n.own) refl c.requires.goes

pub overflow_sub-end : goal.overflow_sub-end
overflow_sub-end c = omega (arith, c.in-Some.ensures.forward)

pub entry_after-after-requires : goal.entry_after-after-requires
entry_after-after-requires c =
    let t = c.in-Some.ensures in
    (omega (arith, t.within), turn_can c.loop-step.invariant _ t, t.rate)

pub lay_data-requires : goal.lay_data-requires
lay_data-requires c =
    let t = c.in-Some.ensures in
    let g = c.loop-step.invariant in
    let q = c.in-Transmit.is in
    (c.args.self.now.number, turn_few g _ t q (sym c.is_off.ensures ∙ c.if-not-is_off.true), rw c.«data».ensures (t.fit _ q).1)

pub slice_bounds-answer-count : goal.slice_bounds-answer-count
slice_bounds-answer-count c = omega (arith, c.in-Some.ensures.forward)

pub slice_bounds-answer-start : goal.slice_bounds-answer-start
slice_bounds-answer-start c = let t = c.in-Some.ensures in omega (arith, t.forward, t.within)

pub slice_bounds-answer-end : goal.slice_bounds-answer-end
slice_bounds-answer-end c = let t = c.in-Some.ensures in omega (arith, t.forward, t.within)

pub answer-requires : goal.answer-requires
answer-requires c =
    let g = c.loop-step.invariant in
    (c.args.self.now.number, turn_fits g _ c.in-Some.ensures c.in-Answer.is)

pub wake-requires : goal.wake-requires
wake-requires c =
    turn_room c.loop-step.invariant _ c.in-Some.ensures c.in-Wake.is (sym c.is_off-in-Wake.ensures ∙ c.if-not-is_off-2.true)

pub overflow_add-wakeups : goal.overflow_add-wakeups
overflow_add-wakeups c =
    let o = c.loop-step.invariant.stood in
    omega (arith, o.counted, o.within, o.short)

pub loop-step-smaller-in-0 : goal.loop-step-smaller-in-0
loop-step-smaller-in-0 c = step-smaller c.in-Some.ensures

pub loop-step-preserved-in-0 : goal.loop-step-preserved-in-0
loop-step-preserved-in-0 c =
    let t = c.in-Some.ensures in
    let q = c.in-Transmit.is in
    let o = sym c.is_off.ensures ∙ c.if-not-is_off.true in
    frame-turn c.loop-step.invariant _ t c.entry_after-after.ensures q o (c.«data».ensures ∙ (t.fit _ q).0) (rw (c.in-0.is, c.slot_of-slot.ensures)) c.lay_data.ensures

pub loop-step-smaller-in-1 : goal.loop-step-smaller-in-1
loop-step-smaller-in-1 c = step-smaller c.in-Some.ensures

pub loop-step-preserved-in-1 : goal.loop-step-preserved-in-1
loop-step-preserved-in-1 c =
    let t = c.in-Some.ensures in
    let q = c.in-Transmit.is in
    let o = sym c.is_off.ensures ∙ c.if-not-is_off.true in
    frame-turn c.loop-step.invariant _ t c.entry_after-after.ensures q o (c.«data».ensures ∙ (t.fit _ q).0) (rw (c.in-1.is, c.slot_of-slot.ensures)) c.lay_data.ensures

pub loop-step-smaller-in-2 : goal.loop-step-smaller-in-2
loop-step-smaller-in-2 c = step-smaller c.in-Some.ensures

pub loop-step-preserved-in-2 : goal.loop-step-preserved-in-2
loop-step-preserved-in-2 c =
    let t = c.in-Some.ensures in
    let q = c.in-Transmit.is in
    let o = sym c.is_off.ensures ∙ c.if-not-is_off.true in
    frame-turn c.loop-step.invariant _ t c.entry_after-after.ensures q o (c.«data».ensures ∙ (t.fit _ q).0) (rw (c.in-2.is, c.slot_of-slot.ensures)) c.lay_data.ensures

pub loop-step-smaller-in_default-q : goal.loop-step-smaller-in_default-q
loop-step-smaller-in_default-q c = step-smaller c.in-Some.ensures

pub loop-step-preserved-in_default-q : goal.loop-step-preserved-in_default-q
loop-step-preserved-in_default-q c =
    let t = c.in-Some.ensures in
    let q = c.in-Transmit.is in
    let o = sym c.is_off.ensures ∙ c.if-not-is_off.true in
    let last : c.loop-step.d.pending ≡ 3 = omega (arith, turn_few c.loop-step.invariant _ t q o) in
    frame-turn c.loop-step.invariant _ t c.entry_after-after.ensures q o (c.«data».ensures ∙ (t.fit _ q).0) (rw (last, c.slot_of-slot.ensures)) c.lay_data.ensures

pub loop-step-smaller-else-not-is_off : goal.loop-step-smaller-else-not-is_off
loop-step-smaller-else-not-is_off c = step-smaller c.in-Some.ensures

pub loop-step-preserved-else-not-is_off : goal.loop-step-preserved-else-not-is_off
loop-step-preserved-else-not-is_off c =
    quiet-turn c.loop-step.invariant _ c.in-Some.ensures c.entry_after-after.ensures (rw c.in-Transmit.is (sym c.is_off.ensures ∙ c.if-not-is_off.false))

pub loop-step-smaller-in-Answer : goal.loop-step-smaller-in-Answer
loop-step-smaller-in-Answer c = step-smaller c.in-Some.ensures

pub loop-step-preserved-in-Answer : goal.loop-step-preserved-in-Answer
loop-step-preserved-in-Answer c =
    answer-turn c.loop-step.invariant _ c.in-Some.ensures c.entry_after-after.ensures c.in-Answer.is c.answer.ensures

pub loop-step-smaller-then-not-is_off-2 : goal.loop-step-smaller-then-not-is_off-2
loop-step-smaller-then-not-is_off-2 c = step-smaller c.in-Some.ensures

pub loop-step-preserved-then-not-is_off-2 : goal.loop-step-preserved-then-not-is_off-2
loop-step-preserved-then-not-is_off-2 c =
    wake-turn c.loop-step.invariant _ c.in-Some.ensures c.entry_after-after.ensures c.in-Wake.is (sym c.is_off-in-Wake.ensures ∙ c.if-not-is_off-2.true) c.wake.ensures

pub loop-step-smaller-else-not-is_off-2 : goal.loop-step-smaller-else-not-is_off-2
loop-step-smaller-else-not-is_off-2 c = step-smaller c.in-Some.ensures

pub loop-step-preserved-else-not-is_off-2 : goal.loop-step-preserved-else-not-is_off-2
loop-step-preserved-else-not-is_off-2 c =
    quiet-turn c.loop-step.invariant _ c.in-Some.ensures c.entry_after-after.ensures (rw c.in-Wake.is (sym c.is_off-in-Wake.ensures ∙ c.if-not-is_off-2.false))

pub loop-step-smaller : goal.loop-step-smaller
loop-step-smaller c = step-smaller c.in-Some.ensures

pub loop-step-preserved : goal.loop-step-preserved
loop-step-preserved c =
    quiet-turn c.loop-step.invariant _ c.in-Some.ensures c.entry_after-after.ensures (quiet_rest c.loop-step.d c.in-Nothing.is)

pub state_left-requires : goal.state_left-requires
state_left-requires c = c.loop-step.invariant.stood.room

pub returns : goal.returns
returns c =
    let l = c.loop-step in
    let s = c.args.buffer.now in
    let k = c.args.self.now.node in
    let e = four-slots c.args.four c.well_formed.1.1.1.1.0.1.0.1 in
    record {
      outcome = (refl, refl);
      memory = λ slots. rw c.state_left.ensures (sym (memory-end s l.at k _ c.in_default.ensures) ∙ l.invariant.gives slots ∙ rw e);
    }
