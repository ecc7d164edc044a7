-- By the room, then by the round number; the queues are written, then the winner's slot and data are closed up.
use Prim.Native.Nat.{◌+◌, ◌-◌, ◌*◌}
use Rattle.arbitration.proofs.Attached.{count-few, node_at_lem}
use Rattle.arbitration.proofs.Ends.{full-ended, used_up_ended, carried-ended, done-ended}
use Rattle.arbitration.proofs.Given.{tellable, pending_at_lem, place_small, winner-slot, four-frames}
use Rattle.arbitration.proofs.Wrong.{errored_is}
use Rattle.buffers.proofs.Offsets.{length_part}
use Rattle.buffers.specs.Parts.{part}
use Rattle.operation.specs.Format.{data_length, length_of}
use Rattle.operation.specs.Kinds.{id_of}
use Rattle.outcome.proofs.Endings.{block-kept-ends}
use Rattle.outcome.specs.declared.Refusal.TheVariants.{QueueFull, RoundsUsedUp}
use Rattle.scan.specs.Winner.{held_at}
use Rattle.std.specs.Prelude.{Err}
use Rattle.std.proofs.Common.{rules, length}
use mathlib.Core.Path.{◌≡◌, refl, sym, ap, ◌∙◌}
use native.Mathlib.Nat.{add-sub_cancel_left}
use native.Mathlib.Omega.{arith}
use Rattle.arbitration.proofs.arbitrate.Goals as goal

pub overflow_mul-at : goal.overflow_mul-at
overflow_mul-at c = let t = place_small c.requires.drawn.1 in omega (arith, t.0)

pub offset_bounds-four-position : goal.offset_bounds-four-position
offset_bounds-four-position c = let t = place_small c.requires.drawn.1 in omega (arith, t.1, t.2)

pub bounds-four-position : goal.bounds-four-position
bounds-four-position c = let t = place_small c.requires.drawn.1 in omega (arith, t.1, t.2)

pub overflow_add-from : goal.overflow_add-from
overflow_add-from c = let t = place_small c.requires.drawn.1 in omega (arith, t.0, t.1, t.2)

pub overflow_mul-from : goal.overflow_mul-from
overflow_mul-from c = let t = place_small c.requires.drawn.1 in omega (arith, t.0, t.1, t.2)

pub overflow_add-news-2 : goal.overflow_add-news-2
overflow_add-news-2 c =
    let d = c.requires.drawn.1 in
    let t = place_small d in
    let n : c.data_length-n.result ≡ data_length (held_at c.args.four c.args.won.position) = c.data_length-n.ensures ∙ ap data_length c.held_in-op.ensures in
    omega (arith, t.0, t.1, t.2, n, (four-frames d c.args.won.position (omega arith) t.1).short)

pub slice_bounds-news-end : goal.slice_bounds-news-end
slice_bounds-news-end c =
    let lent : length c.args.payload.now ≡ 65_536 = search rules in
    let d = c.requires.drawn.1 in
    let t = place_small d in
    let n : c.data_length-n.result ≡ data_length (held_at c.args.four c.args.won.position) = c.data_length-n.ensures ∙ ap data_length c.held_in-op.ensures in
    omega (arith, t.0, t.1, t.2, n, (four-frames d c.args.won.position (omega arith) t.1).short, lent)

pub invariant_of-news : goal.invariant_of-news
unfolding part
invariant_of-news c =
    let a = c.args in
    let lent : length a.payload.now ≡ 65_536 = search rules in
    let d = c.requires.drawn.1 in
    let t = place_small d in
    let f = four-frames d a.won.position (omega arith) t.1 in
    let o = c.held_in-op.ensures in
    let from = 2_048 * (4 * a.won.owner + a.won.position) in
    let k : from + c.data_length-n.result - from ≡ data_length (held_at a.four a.won.position) =
    add-sub_cancel_left _ _ ∙ c.data_length-n.ensures ∙ ap data_length o in
    let b =
    length_part from (data_length (held_at a.four a.won.position)) a.payload.now
    (omega (arith, t.0, t.1, t.2, f.short, lent)) in
    record {
      lawful = rw o f.lawful;
      named = c.id_of.ensures ∙ sym (ap id_of o);
      low = rw c.id_of.ensures f.id;
      short = rw o f.short;
      sized = rw (c.head_length.ensures.0, c.data_length-n.ensures);
      whole = rw (k, o) b;
      in_table = c.requires.e_value;
    }

pub has_room-requires : goal.has_room-requires
has_room-requires c = count-few c.args.s c.requires.drawn.0 c.requires.drawn.1.valid

pub returns-then-not-has_room : goal.returns-then-not-has_room
returns-then-not-has_room c =
    let a = c.args in
    let x : c.head_length.result + c.data_length-n.result ≡ length_of (held_at a.four a.won.position) =
    rw (c.head_length.ensures.0, c.data_length-n.ensures, c.held_in-op.ensures) in
    let eight : length a.s.nodes ≡ 8 = search rules in
    let lent : (length a.payload.now ≡ 65_536) × (length a.queues.now ≡ 32_768) = search rules in
    let q = rw x at (sym c.has_room.ensures ∙ c.if-not-has_room.true) in
    rw c.refused.ensures
    (record {
      queues_after =
          λ l d. block-kept-ends (Err QueueFull) a.s l (4 * a.won.owner) a.payload.now a.queues.now d.block
          ∙ full-ended a.s l a.payload.now a.queues.now a.e a.won a.four a.ids eight lent d q;
      at_value = refl;
    })

pub returns-then-s-ge-LAST_ROUND : goal.returns-then-s-ge-LAST_ROUND
returns-then-s-ge-LAST_ROUND c =
    let a = c.args in
    let x : c.head_length.result + c.data_length-n.result ≡ length_of (held_at a.four a.won.position) =
    rw (c.head_length.ensures.0, c.data_length-n.ensures, c.held_in-op.ensures) in
    let eight : length a.s.nodes ≡ 8 = search rules in
    let lent : (length a.payload.now ≡ 65_536) × (length a.queues.now ≡ 32_768) = search rules in
    let q = rw x at (sym c.has_room.ensures ∙ c.if-not-has_room.false) in
    rw c.refused-then-s-ge-LAST_ROUND.ensures
    (record {
      queues_after =
          λ l d. block-kept-ends (Err RoundsUsedUp) a.s l (4 * a.won.owner) a.payload.now a.queues.now d.block
          ∙ used_up_ended a.s l a.payload.now a.queues.now a.e a.won a.four a.ids eight lent d q
          c.if-s-ge-LAST_ROUND.true;
      at_value = refl;
    })

pub tell_all-state-requires-clause-tellable : goal.tell_all-state-requires-clause-tellable
tell_all-state-requires-clause-tellable c =
    let d = c.requires.drawn.1 in
    (c.if-s-ge-LAST_ROUND.false, tellable c.args.s c.requires.drawn.0 d.valid c.args.ids d.named, pending_at_lem d)

pub overflow_cast-outcome : goal.overflow_cast-outcome
overflow_cast-outcome c = let t = place_small c.requires.drawn.1 in omega (arith, t.0)

pub overflow_sub-outcome : goal.overflow_sub-outcome
overflow_sub-outcome c =
    let a = c.args in
    let d = c.requires.drawn.1 in
    let w = pending_at_lem d in
    rw (winner-slot d) ((node_at_lem a.s c.requires.drawn.0 d.valid a.won.owner w.0).past a.won.position w.1)

pub entry-d-requires : goal.entry-d-requires
entry-d-requires c = let t = place_small c.requires.drawn.1 in omega (arith, t.0)

pub overflow_sub-last : goal.overflow_sub-last
overflow_sub-last c =
    let t = place_small c.requires.drawn.1 in
    rw c.entry-d.ensures (omega (arith, t.1))

pub move_data-requires : goal.move_data-requires
move_data-requires c =
    let d = c.requires.drawn.1 in
    let t = place_small d in
    rw c.entry-d.ensures
    (record {
      position_le_last = (omega (arith, t.1), omega (arith, t.1, t.2), omega (arith, t.0));
      frames = λ p l u. four-frames d p (omega arith) (omega (arith, t.1));
    })

pub block_without-block-requires : goal.block_without-block-requires
block_without-block-requires c =
    let t = place_small c.requires.drawn.1 in
    rw c.entry-d.ensures (omega (arith, t.1, t.2))

pub returns : goal.returns
unfolding part
returns c =
    let a = c.args in
    let o = c.held_in-op.ensures in
    let x : c.head_length.result + c.data_length-n.result ≡ length_of (held_at a.four a.won.position) =
    rw (c.head_length.ensures.0, c.data_length-n.ensures, o) in
    let from = 2_048 * (4 * a.won.owner + a.won.position) in
    let k : from + c.data_length-n.result - from ≡ data_length (held_at a.four a.won.position) =
    add-sub_cancel_left _ _ ∙ c.data_length-n.ensures ∙ ap data_length o in
    let eight : length a.s.nodes ≡ 8 = search rules in
    let lent : (length a.payload.now ≡ 65_536) × (length a.queues.now ≡ 32_768) = search rules in
    let q = rw x at (sym c.has_room.ensures ∙ c.if-not-has_room.false) in
    let g = c.tell_all-state.ensures in
    let own = c.entry-d.ensures in
    record {
      queues_after =
          λ l d. done-ended a.s l a.payload.now a.queues.now a.e a.won a.four a.ids eight lent d q c.id_of.ensures
          (c.is_some.ensures ∙ errored_is a.e) (rw x at g.value) (rw own at c.block_without-block.ensures) (rw own at c.move_data.ensures)
          (rw (k, o) at g.queues_after)
          ∙ carried-ended a.s l a.payload.now a.queues.now a.e a.won a.four a.ids eight lent d q c.if-s-ge-LAST_ROUND.false;
      at_value = refl;
    }
