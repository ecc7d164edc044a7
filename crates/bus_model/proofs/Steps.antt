-- Each step of a submitted buffer is that of the plain bus on the view.
-- Assumes nothing.
use mathlib.Core.Path.{◌≡◌, refl, sym, ap, ◌∙◌, subst}
use Prim.Native.Nat.{ℕ, ◌+◌, ◌-◌, ◌*◌, ◌≤◌, ◌<◌}
use native.Mathlib.Omega.{arith}
use mathlib.Core.Bool.{Bool, true, false, cond, ◌||◌}
use mathlib.Core.List.{List, [], append-nil}
use lib.Dec.{leb, eqb}
use lib.ListN.{length, set, drop, length-append, length-drop}
use lib.Seq.{take-length}
use borrow.Author.Tests.{leb-true, leb-false, eqb-true, eqb-false}
use Rattle.operation.specs.Number.{Bytes}
use Rattle.operation.specs.Format.{head_length, data_length, header, encode, TypedOperation}
use Rattle.operation.specs.Rules.{legal}
use Rattle.operation.specs.declared.Operation.{Operation}
use Rattle.operation.specs.declared.Operation.TheVariants.{FormatError, CanTransmit, FdTransmit, XlTransmit, Confirm, ArbitrationLost, BusError, Configuration, Status, Wakeup}
use Rattle.decoder.specs.Stream.{Item, operation, fault, bytes_of}
use Rattle.decoder.specs.Front.{decode}
use Rattle.std.proofs.Common.{Ok}
use Rattle.decoder.proofs.Found.{found}
use Rattle.decoder.proofs.Decoded.{decoded}
use Rattle.slots.specs.Blocks.{slot_of}
use Rattle.operation.specs.Kinds.{is_transmit}
use Rattle.operation.proofs.Sizes.{transmit-short}
use Rattle.plain_bus.specs.Held.{Node, queue_capacity, bus_off, is_off, with_status, with_behaviour, with_rates, with_queue, with_node, with_nodes, each_node, all_have_room, enqueue}
use Rattle.plain_bus.specs.Refusal.{four_pending, queue_full}
use Rattle.plain_bus.specs.Submit.{Step, done, fails, accept, take_transmit, configure, cleared, set_status, wakeup_for, wake, take_wakeup, format_error, answer_format_error, unanswered, take_item}
use Rattle.plain_bus.proofs.ValidBus.{ReadsWhole, ValidNode}
use Rattle.plain_bus.proofs.Codec.{reads-format_error, reads-wakeup}
use Rattle.plain_bus.proofs.Whole.{ValidItem}
use Rattle.plain_bus.proofs.Changes.{joined, configured, status_set, answered}
use Rattle.plain_bus.proofs.Validity.{change_valid}
use Rattle.buffers.specs.Parts.{part}
use Rattle.bus_state.specs.Memory.{Memory, slot_at, frames_from, node_view, view}
use Rattle.bus_state.specs.Entries.{entry_behaviour, entry_rates}
use Rattle.bus_model.specs.Primitives.{entry_at, off_at, set_entry, fill_slot, next_slot, put_frame, append, clear_node, in_turn}
use Rattle.bus_model.specs.Submit.{Progress, goes_on, stops, room_at, transmit_in, configure_in, status_of, status_in, wakeup_at, wake_at, wakeup_in, answer_in, item_in}
use Rattle.bus_model.specs.Refines.{Sized, TypedSlot}
use Rattle.bus_model.proofs.Writes.{Same}
use Rattle.bus_model.proofs.Views.{same_view, entry_view, length-frames}
use Rattle.bus_model.proofs.Puts.{slot_signed, put_view, put_others, put_sized, put_entry, put_slot, put_slots}
use Rattle.bus_model.proofs.Buses.{view-length, view_at, view-round}
use Rattle.bus_model.proofs.Validity.{Good, good_node, good-number, good-fits, queue-length}
use Rattle.bus_model.proofs.Touched.{same-tidy, good-tidy, Touched, touched_view, touched_good, touched_trans, touched_as, untouched, valid-set, valid-each, entry_touched, append_touched}
use Rattle.bus_model.proofs.Turns.{in_turn_lem, going_view, going_good, room-view, room_one}

-- a step on the memory and one on the plain bus: both done, with this node count, or both failed alike
abbrev pub Agrees : ℕ → Progress → Step → Type 0
Agrees count (goes_on m) (done b) = (view m ≡ b) × Good m × (m.state.count ≡ count)
Agrees count (goes_on m) (fails r) = ⊥
Agrees count (stops r) (done b) = ⊥
Agrees count (stops r) (fails r') = r ≡ r'

-- ---- the bytes of a Transmit

record Parts (op : Operation) (bytes : List ℕ) : Type 0 where
  typed : TypedOperation op
  lawful : legal op ≡ true
  same : encode op (drop (head_length op) bytes) ≡ bytes
  size : length (drop (head_length op) bytes) ≡ data_length op

parts : (op : Operation) (bytes : List ℕ) → Bytes bytes → ReadsWhole op bytes → Parts op bytes
parts op bytes u e =
    let f = found e in
    let d : decode bytes ≡ Ok op = rw (take-length bytes) at f.decoded in
    let b = decoded bytes u f.stated op d in
    record {
      typed = b.typed;
      lawful = f.lawful;
      same = b.same;
      size = length-drop (head_length op) bytes ∙ omega (arith, f.exact);
    }

typed-slot : (op : Operation) (owner accepted : ℕ) → TypedOperation op → TypedSlot (slot_of op owner accepted)
unfolding slot_of
typed-slot (FormatError n) owner accepted t = record { af = omega arith; third = omega arith; fourth = omega arith }
typed-slot (CanTransmit id ide rtr dl) owner accepted t = record { af = omega arith; third = omega arith; fourth = omega arith }
typed-slot (FdTransmit id ide brs esi dl) owner accepted t = record { af = omega arith; third = t.3; fourth = omega arith }
typed-slot (XlTransmit id ide sec sdt vcid af dl) owner accepted t = record { af = t.5; third = t.3; fourth = t.4 }
typed-slot (Confirm id) owner accepted t = record { af = omega arith; third = omega arith; fourth = omega arith }
typed-slot (ArbitrationLost id) owner accepted t = record { af = omega arith; third = omega arith; fourth = omega arith }
typed-slot (BusError id code flag sender) owner accepted t = record { af = omega arith; third = omega arith; fourth = omega arith }
typed-slot (Configuration kind value) owner accepted t = record { af = omega arith; third = omega arith; fourth = omega arith }
typed-slot (Status status) owner accepted t = record { af = omega arith; third = omega arith; fourth = omega arith }
typed-slot Wakeup owner accepted t = record { af = omega arith; third = omega arith; fourth = omega arith }

module _ (m : Memory) (g : Good m) (k : ℕ) (h : k < m.state.count) where
  -- a step that touches node k, and leaves it valid
  one_agrees : (m' : Memory) (d : Node) → Touched m m' k d → ValidNode m.state.round d
      → Agrees m.state.count (goes_on m') (done (with_node (view m) k d))
  one_agrees m' d t v = (
    touched_view m g k h m' d t,
    touched_good m g k h m' d t (valid-set (view m) k d g.valid (rw (view-length m) h) (rw (view-round m) v)),
    t.count,
  )

  status-view : (node_view m k).status ≡ (entry_at m k).status
  unfolding node_view
  status-view = refl

  pending-view : length (node_view m k).pending ≡ (entry_at m k).pending
  unfolding node_view
  pending-view = length-frames m (4 * k) (entry_at m k).pending

  -- ---- Transmit

  put_touched : (op : Operation) (bytes : List ℕ) → is_transmit op ≡ true → Parts op bytes → (entry_at m k).pending < 4
      → Touched m (put_frame m k op (drop (head_length op) bytes)) k
      (accept (node_view m k) (record { op = op; bytes = bytes; accepted = m.state.round }))
  unfolding put_frame fill_slot set_entry
  put_touched op bytes t p few =
      let x = drop (head_length op) bytes in
      let l : length (drop (head_length op) bytes) ≤ 2_048 = rw p.size (transmit-short op t p.lawful) in
      let s = g.typed.sized in
      let n = good-number m g k h in
      let e = put_entry m k op x s n few l in
      let own = put_slot m k op x s n few l in
      let other = put_slots m k op x s n few l in
      record {
        count = refl;
        round = refl;
        sized = put_sized m k op x s n few l;
        others = λ i o. put_others m k op x s n few l i o;
        own =
            put_view m k op x s n few l t p.size (good-fits m g k h)
            ∙ ap (λ (y : List ℕ). accept (node_view m k) (record { op = op; bytes = y; accepted = m.state.round })) p.same;
        tidy = record {
          fill = rw e (g.fill k h);
          owned = λ q u.
              owner (put_frame m k op x) own other q (let u' : q < (entry_at m k).pending + 1 = rw e at u in omega arith) (eqb q (entry_at m k).pending) refl;
        };
        fields = λ f r. typed (put_frame m k op x) own other f r (eqb r (next_slot m k)) refl;
      }
    where
      owner : (m' : Memory) → slot_at m' (next_slot m k) ≡ slot_of op k m.state.round
          → ((r : ℕ) → (r ≡ next_slot m k → ⊥) → slot_at m' r ≡ slot_at m r) → (q : ℕ) → q ≤ (entry_at m k).pending → (c : Bool)
          → eqb q (entry_at m k).pending ≡ c → (slot_at m' (4 * k + q)).owner ≡ k
      owner m' own other q u true e =
          let i = eqb-true q (entry_at m k).pending e in
          rw (i, own) (slot_signed op k m.state.round t).1
      owner m' own other q u false e =
          let i = eqb-false q (entry_at m k).pending e in
          rw (other (4 * k + q) (λ v. i (omega arith))) (g.owned k h q (omega arith))

      typed : (m' : Memory) → slot_at m' (next_slot m k) ≡ slot_of op k m.state.round
          → ((r : ℕ) → (r ≡ next_slot m k → ⊥) → slot_at m' r ≡ slot_at m r) → ((r : ℕ) → TypedSlot (slot_at m r)) → (r : ℕ) → (c : Bool)
          → eqb r (next_slot m k) ≡ c → TypedSlot (slot_at m' r)
      typed m' own other f r true e = rw (eqb-true r (next_slot m k) e, own) (typed-slot op k m.state.round p.typed)
      typed m' own other f r false e = rw (other r (eqb-false r (next_slot m k) e)) (f r)

  transmit_agrees : (op : Operation) (bytes : List ℕ) → is_transmit op ≡ true → Bytes bytes → ReadsWhole op bytes
      → Agrees m.state.count (transmit_in m k op bytes) (take_transmit (view m) k op bytes)
  unfolding transmit_in take_transmit view node_view
  transmit_agrees op bytes t u r =
      rw (view_at m k h, status-view, pending-view, view-round m) (go (off_at m k) refl (leb 4 (entry_at m k).pending) refl)
    where
      go : (o : Bool) → off_at m k ≡ o → (c : Bool) → leb 4 (entry_at m k).pending ≡ c
          → Agrees m.state.count
          (cond o (goes_on m) (cond c (stops four_pending) (goes_on (put_frame m k op (drop (head_length op) bytes)))))
          (cond o (done (view m)) (cond c (fails four_pending) (done (with_node (view m) k
          (accept (node_view m k) (record { op = op; bytes = bytes; accepted = m.state.round }))))))
      go true qo c qc = (refl, g, refl)
      go false qo true qc = refl
      go false qo false qc =
          let few = leb-false 4 (entry_at m k).pending qc in
          one_agrees _ _ (put_touched op bytes t (parts op bytes u r) few)
          (change_valid (joined _ (rw status-view qo) (rw pending-view few) (record { transmit = t; reads = r }) refl) (good_node m g k h))

  -- ---- Configuration and Status

  configure_touched : (kind value : ℕ) → Touched m (configure_in m k kind value) k (configure (node_view m k) kind value)
  unfolding configure_in configure entry_view node_view
  configure_touched kind value = go (eqb kind 4)
    where
      go : (t : Bool)
          → Touched m
          (cond t (set_entry m k (entry_behaviour (entry_at m k) value))
          (set_entry m k (entry_rates (entry_at m k) (set (entry_at m k).rates (kind - 1) value)))) k
          (cond t (with_behaviour (node_view m k) value) (with_rates (node_view m k) (set (node_view m k).rates (kind - 1) value)))
      go true = entry_touched m g.typed.sized k (good-number m g k h) (g.owned k h) _ (g.fill k h) (omega arith)
      go false = entry_touched m g.typed.sized k (good-number m g k h) (g.owned k h) _ (g.fill k h) (omega arith)

  -- a status is set in a memory that differs at node k only
  status_touched : (m' : Memory) (d : Node) (status : ℕ) → Touched m m' k d → Touched m (status_of m' k status) k (with_status d status)
  unfolding entry_view node_view
  status_touched m' d status t =
      touched_trans t
      (touched_as (entry_touched m' t.sized k (good-number m g k h) t.tidy.owned _ t.tidy.fill (omega arith))
      (ap (λ (x : Node). with_status x status) t.own))

  clear_touched : Touched m (clear_node m k) k (cleared (node_view m k))
  unfolding clear_node entry_view node_view frames_from part
  clear_touched = entry_touched m g.typed.sized k (good-number m g k h) (g.owned k h) _ (omega arith) (omega arith)

  set_touched : (status : ℕ) → Touched m (status_in m k status) k (set_status (node_view m k) status)
  unfolding status_in set_status
  set_touched status = go (eqb status bus_off)
    where
      go : (t : Bool) → Touched m (status_of (cond t (clear_node m k) m) k status) k (with_status (cond t (cleared (node_view m k)) (node_view m k)) status)
      go true = status_touched _ _ status clear_touched
      go false = status_touched _ _ status (untouched m k g.typed.sized (good-tidy g k h))

  -- ---- Format Error

  -- the bytes of a Format Error are more than those that it answers
  answer_small : (bytes : List ℕ) → length (format_error bytes) ≤ 4_096 → length bytes < 65_536
  unfolding encode
  answer_small bytes l = let e = length-append (header (FormatError (length bytes))) bytes in omega arith

  answer_agrees : (bytes : List ℕ) → Agrees m.state.count (answer_in m k bytes) (answer_format_error (view m) k bytes)
  unfolding answer_in answer_format_error
  answer_agrees bytes = rw (view_at m k h, queue-length m g k h) (go (room_at m k (format_error bytes)) refl)
    where
      go : (t : Bool) → room_at m k (format_error bytes) ≡ t
          → Agrees m.state.count (cond t (goes_on (append m k (format_error bytes))) (stops queue_full))
          (cond t (done (with_node (view m) k (enqueue (node_view m k) (format_error bytes)))) (fails queue_full))
      go false q = refl
      go true q =
          let room = leb-true ((entry_at m k).fill + length (format_error bytes)) 4_096 q in
          one_agrees _ _ (append_touched m g.typed.sized k (good-number m g k h) (g.owned k h) (format_error bytes) room)
          (change_valid (answered (FormatError (length bytes)) (format_error bytes)
          (reads-format_error bytes (answer_small bytes (omega arith))) refl (rw (queue-length m g k h) room))
          (good_node m g k h))

  -- ---- Wakeup

  wakeup-part : (x : Memory) (j : ℕ) → wakeup_at k x j ≡ wakeup_for k j (node_view x j)
  unfolding wakeup_at node_view
  wakeup-part x j = refl

  wakeup-valid : (now j : ℕ) (d : Node) → ValidNode now d → length d.queue + length (wakeup_for k j d) ≤ queue_capacity → ValidNode now (wake k j d)
  wakeup-valid now j d v r = go (eqb j k || is_off d) r
    where
      go : (t : Bool) → length d.queue + length (cond t [] (encode Wakeup [])) ≤ queue_capacity
          → ValidNode now (enqueue d (cond t [] (encode Wakeup [])))
      go true r = subst (λ (q : List ℕ). ValidNode now (with_queue d q)) (sym (append-nil d.queue)) v
      go false r = change_valid (answered Wakeup (encode Wakeup []) reads-wakeup refl r) v

  wake_step : all_have_room (wakeup_for k) (view m) ≡ true → (x : Memory) (j : ℕ) → j < m.state.count → Sized x → Same m x j
      → x.state.round ≡ m.state.round → Touched x (wake_at k x j) j (wake k j (node_view m j))
  wake_step q x j l s a r =
      let f = good-fits m g j l in
      let e : node_view x j ≡ node_view m j = same_view a f in
      let b : wakeup_at k x j ≡ wakeup_for k j (node_view m j) = wakeup-part x j ∙ ap (wakeup_for k j) e in
      let room : (entry_at x j).fill + length (wakeup_for k j (node_view m j)) ≤ 4_096 = rw a.entry (room_one (wakeup_for k) m g q j l) in
      rw (b, ← e) (append_touched x s j (good-number m g j l) (same-tidy a f (good-tidy g j l)).owned (wakeup_for k j (node_view x j)) (rw e room))

  woken : all_have_room (wakeup_for k) (view m) ≡ true
      → Agrees m.state.count (goes_on (in_turn (wake_at k) 0 m.state.count m))
      (done (with_nodes (view m) (each_node (wake k) 0 (view m).nodes)))
  unfolding view
  woken q =
      let each : (i : ℕ) → i < m.state.count → ValidNode m.state.round (wake k i (node_view m i)) =
      λ i l. wakeup-valid m.state.round i (node_view m i) (good_node m g i l) (rw (queue-length m g i l) (room_one (wakeup_for k) m g q i l)) in
      let t = in_turn_lem m (wake k) m.state.round each (wake_at k) (wake_step q) g.typed.sized in
      let e = going_view m _ (wake k) g t in
      let v = valid-each (view m) (wake k) m.state.round g.valid g.typed.round
      (λ j l. let l' : j < m.state.count = rw (view-length m) at l in rw (view_at m j l') (each j l')) in
      (e, going_good m _ (wake k) g t _ e v, t.count)

  wakeup_agrees : Agrees m.state.count (wakeup_in m k) (take_wakeup (view m) k)
  unfolding wakeup_in take_wakeup
  wakeup_agrees =
      rw (view_at m k h, status-view, room-view (wakeup_at k m) (wakeup_for k) m g (λ i l. wakeup-part m i))
      (go (off_at m k) (all_have_room (wakeup_for k) (view m)) refl)
    where
      go : (o t : Bool) → all_have_room (wakeup_for k) (view m) ≡ t
          → Agrees m.state.count
          (cond o (goes_on m) (cond t (goes_on (in_turn (wake_at k) 0 m.state.count m)) (stops queue_full)))
          (cond o (done (view m)) (cond t (done (with_nodes (view m) (each_node (wake k) 0 (view m).nodes))) (fails queue_full)))
      go true t q = (refl, g, refl)
      go false true q = woken q
      go false false q = refl

  -- ---- one item

  pub item_agrees : (i : Item) → ValidItem i → Bytes (bytes_of i) → Agrees m.state.count (item_in m k i) (take_item (view m) k i)
  unfolding item_in take_item
  item_agrees (operation (FormatError n) bytes) v u = (refl, g, refl)
  item_agrees (operation (CanTransmit id ide rtr dl) bytes) v u = transmit_agrees (CanTransmit id ide rtr dl) bytes refl u v
  item_agrees (operation (FdTransmit id ide brs esi dl) bytes) v u = transmit_agrees (FdTransmit id ide brs esi dl) bytes refl u v
  item_agrees (operation (XlTransmit id ide sec sdt vcid af dl) bytes) v u =
      transmit_agrees (XlTransmit id ide sec sdt vcid af dl) bytes refl u v
  item_agrees (operation (Confirm id) bytes) v u = answer_agrees bytes
  item_agrees (operation (ArbitrationLost id) bytes) v u = answer_agrees bytes
  item_agrees (operation (BusError id code flag sender) bytes) v u = answer_agrees bytes
  item_agrees (operation (Configuration kind value) bytes) v u =
      rw (view_at m k h)
      (one_agrees _ _ (configure_touched kind value) (change_valid (configured kind value (found v).lawful) (good_node m g k h)))
  item_agrees (operation (Status status) bytes) v u =
      rw (view_at m k h) (one_agrees _ _ (set_touched status) (change_valid (status_set status (found v).lawful) (good_node m g k h)))
  item_agrees (operation Wakeup bytes) v u = wakeup_agrees
  item_agrees (fault number bytes) v u = go (unanswered bytes)
    where
      go : (t : Bool) → Agrees m.state.count (cond t (goes_on m) (answer_in m k bytes)) (cond t (done (view m)) (answer_format_error (view m) k bytes))
      go true = (refl, g, refl)
      go false = answer_agrees bytes
