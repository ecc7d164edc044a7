-- The model's steps by what the state alone decides: each goes on to the memory after it, or stops, as it is checked.
-- Assumes nothing.
use mathlib.Core.Path.{◌≡◌, refl, sym, ap, ◌∙◌}
use mathlib.Core.Bool.{Bool, true, false, cond, not}
use mathlib.Core.List.{List, [], ◌∷◌}
use Prim.Native.Nat.{ℕ, zero, suc, ◌+◌, ◌-◌}
use native.Mathlib.Nat.{one-mul}
use lib.Dec.{leb, eqb}
use lib.ListN.{length, set, drop}
use Rattle.operation.specs.Format.{head_length, header, encode}
use Rattle.operation.specs.declared.Operation.{Operation}
use Rattle.operation.specs.declared.Operation.TheVariants.{FormatError, CanTransmit, FdTransmit, XlTransmit, Confirm, ArbitrationLost, BusError, Configuration, Status, Wakeup}
use Rattle.decoder.specs.Stream.{Item, operation, fault, bytes_of}
use Rattle.plain_bus.specs.Held.{bus_off}
use Rattle.plain_bus.specs.Refusal.{Refusal, four_pending, queue_full}
use Rattle.plain_bus.specs.Submit.{format_error, unanswered}
use Rattle.bus_state.specs.Memory.{Memory, slots_per_node}
use Rattle.bus_state.specs.Entries.{with_entry, entry_status, entry_behaviour, entry_rates, entry_pending}
use Rattle.bus_state.specs.declared.NodeState.{NodeState}
use Rattle.bus_model.specs.Primitives.{entry_at, off_at, set_entry, put_frame, fill_slot, append, clear_node}
use Rattle.bus_model.specs.Submit.{Progress, goes_on, stops, room_at, room_for_each, transmit_in, configure_in, status_of, status_in, wakeup_at, wakeup_in, answer_in, item_in, items_in}
use Rattle.submission.specs.Effects.{operation_effect, fault_effect, effect_of}
use Rattle.submission.specs.Counting.{is_wakeup, unreached, wakeup_length, wakeup_room, woken_by, cleared, status_set, entry_check, entry_after, check, state_after, and_then, check_items}
use Rattle.submission.specs.Carrying.{memory_after, memory_after_all}
use Rattle.submission.specs.declared.Effect.{Effect}
use Rattle.submission.specs.declared.Effect.TheVariants.{Nothing, Transmit, Answer, SetRate, SetBehaviour, SetStatus, Wake}
use Rattle.submission.specs.declared.Lack.{Lack}
use Rattle.submission.specs.declared.Lack.TheVariants.{FourPending, QueueFull}
use Rattle.std.specs.Prelude.{Result, Ok, Err}
use Rattle.submission.proofs.Entries.{same-entry, entry_again}
use Rattle.submission.proofs.Carries.{answer_length_lem, woken_memory}

-- the model's refusal, by what a step lacks
abbrev stopped_by : Lack → Refusal
stopped_by FourPending = four_pending
stopped_by QueueFull = queue_full

-- what a check gives, with the memory after the step
abbrev pub gives : Result (Unit {0}) Lack → Memory → Progress
gives (Ok z) m = goes_on m
gives (Err lack) m = stops (stopped_by lack)

-- ---- one step

module _ (m : Memory) (k : ℕ) where
  transmit-counts : (op : Operation) (bytes : List ℕ) → transmit_in m k op bytes ≡ gives (check m.state k (Transmit op) (length bytes)) (memory_after m k (Transmit op) bytes)
  unfolding transmit_in check is_wakeup entry_check memory_after
  transmit-counts op bytes = go (off_at m k) (leb slots_per_node (entry_at m k).pending) (put_frame m k op (drop (head_length op) bytes))
    where
      go : (o c : Bool) (x : Memory)
          → cond o (goes_on m) (cond c (stops four_pending) (goes_on x)) ≡ gives (cond o (Ok tt) (cond c (Err FourPending) (Ok tt))) (cond o m x)
      go true c x = refl
      go false true x = refl
      go false false x = refl

  answer-counts : (bytes : List ℕ) → answer_in m k bytes ≡ gives (check m.state k Answer (length bytes)) (memory_after m k Answer bytes)
  unfolding answer_in check is_wakeup entry_check memory_after
  answer-counts bytes = rw (← answer_length_lem bytes) (go (room_at m k (format_error bytes)) (append m k (format_error bytes)))
    where
      go : (r : Bool) (x : Memory) → cond r (goes_on x) (stops queue_full) ≡ gives (cond r (Ok tt) (Err QueueFull)) x
      go true x = refl
      go false x = refl

  wakeup_length_lem : (j : ℕ) → length (wakeup_at k m j) ≡ wakeup_length (entry_at m j).status k j
  unfolding wakeup_at wakeup_length encode header
  wakeup_length_lem j = go (unreached (entry_at m j).status k j)
    where
      go : (t : Bool) → length (cond t [] (encode Wakeup [])) ≡ cond t 0 8
      go true = refl
      go false = refl

  room-counts : (j n : ℕ) → room_for_each (wakeup_at k m) m j n ≡ wakeup_room m.state.nodes k 1 j n
  unfolding room_for_each wakeup_room
  room-counts j zero = refl
  room-counts j (suc n) = rw (wakeup_length_lem j, one-mul (wakeup_length (entry_at m j).status k j), room-counts (suc j) n)

  wake-counts : (bytes : List ℕ) → wakeup_in m k ≡ gives (check m.state k Wake (length bytes)) (memory_after m k Wake bytes)
  unfolding wakeup_in check is_wakeup entry_check memory_after
  wake-counts bytes = rw (room-counts 0 m.state.count) (go (off_at m k) (wakeup_room m.state.nodes k 1 0 m.state.count) _)
    where
      go : (o r : Bool) (x : Memory)
          → cond o (goes_on m) (cond r (goes_on x) (stops queue_full)) ≡ gives (cond (not o) (cond r (Ok tt) (Err QueueFull)) (Ok tt)) (cond o m x)
      go true r x = refl
      go false true x = refl
      go false false x = refl

  item-counts : (i : Item) → item_in m k i ≡ gives (check m.state k (effect_of i) (length (bytes_of i))) (memory_after m k (effect_of i) (bytes_of i))
  unfolding item_in configure_in check is_wakeup entry_check operation_effect fault_effect memory_after
  item-counts (operation (FormatError n) bytes) = refl
  item-counts (operation (CanTransmit id ide rtr dl) bytes) = transmit-counts (CanTransmit id ide rtr dl) bytes
  item-counts (operation (FdTransmit id ide brs esi dl) bytes) = transmit-counts (FdTransmit id ide brs esi dl) bytes
  item-counts (operation (XlTransmit id ide sec sdt vcid af dl) bytes) = transmit-counts (XlTransmit id ide sec sdt vcid af dl) bytes
  item-counts (operation (Confirm id) bytes) = answer-counts bytes
  item-counts (operation (ArbitrationLost id) bytes) = answer-counts bytes
  item-counts (operation (BusError id code flag sender) bytes) = answer-counts bytes
  item-counts (operation (Configuration kind value) bytes) = go (eqb kind 4)
    where
      go : (t : Bool)
          → goes_on (cond t (set_entry m k (entry_behaviour (entry_at m k) value))
          (set_entry m k (entry_rates (entry_at m k) (set (entry_at m k).rates (kind - 1) value))))
          ≡ gives (check m.state k (cond t (SetBehaviour value) (SetRate (kind - 1) value)) (length bytes))
          (memory_after m k (cond t (SetBehaviour value) (SetRate (kind - 1) value)) bytes)
      go true = refl
      go false = refl
  item-counts (operation (Status status) bytes) = refl
  item-counts (operation Wakeup bytes) = wake-counts bytes
  item-counts (fault number bytes) = go (unanswered bytes)
    where
      go : (t : Bool)
          → cond t (goes_on m) (answer_in m k bytes)
          ≡ gives (check m.state k (cond t Nothing Answer) (length bytes)) (memory_after m k (cond t Nothing Answer) bytes)
      go true = refl
      go false = answer-counts bytes

  -- the state after a step is decided by the state before it
  state-counts : (e : Effect) (bytes : List ℕ) → (memory_after m k e bytes).state ≡ state_after m.state k e (length bytes)
  unfolding memory_after state_after is_wakeup entry_after set_entry put_frame fill_slot append status_in status_set clear_node
  state-counts Nothing bytes = sym (same-entry m.state k)
  state-counts (Transmit op) bytes = go (off_at m k)
    where
      go : (o : Bool)
          → (cond o m (put_frame m k op (drop (head_length op) bytes))).state
          ≡ with_entry m.state k (cond o (entry_at m k) (entry_pending (entry_at m k) ((entry_at m k).pending + 1)))
      go true = sym (same-entry m.state k)
      go false = refl
  state-counts Answer bytes = rw (← answer_length_lem bytes)
  state-counts (SetRate i rate) bytes = refl
  state-counts (SetBehaviour behaviour) bytes = refl
  state-counts (SetStatus status) bytes = go (eqb status bus_off)
    where
      go : (t : Bool)
          → (status_of (cond t (clear_node m k) m) k status).state
          ≡ with_entry m.state k (entry_status (cond t (cleared (entry_at m k)) (entry_at m k)) status)
      go true = entry_again m.state k (cleared (entry_at m k)) (λ (d : NodeState). entry_status d status)
      go false = refl
  state-counts Wake bytes =
      go (off_at m k) _ (ap (λ (x : Memory). x.state) (woken_memory m.state k 0 m.state.count m.slots m.payload m.queues))
    where
      go : (o : Bool) (x : Memory) → x.state ≡ woken_by m.state k 1
          → (cond o m x).state ≡ cond (not o) (woken_by m.state k 1) (with_entry m.state k (entry_at m k))
      go true x e = sym (same-entry m.state k)
      go false x e = e

-- ---- all steps

stopped : (k : ℕ) (is : List Item) (r : Refusal) → items_in k is (stops r) ≡ stops r
unfolding items_in
stopped k [] r = refl
stopped k (i ∷ is) r = refl

pub items-count : (k : ℕ) (is : List Item) (m : Memory) → items_in k is (goes_on m) ≡ gives (check_items k is m.state) (memory_after_all k is m)
unfolding items_in check_items memory_after_all
items-count k [] m = refl
items-count k (i ∷ is) m =
    let e = state-counts m k (effect_of i) (bytes_of i) in
    ap (items_in k is) (item-counts m k i)
    ∙ rw (← e) (go (check m.state k (effect_of i) (length (bytes_of i))) (memory_after m k (effect_of i) (bytes_of i)) (items-count k is _))
  where
    go : (v : Result (Unit {0}) Lack) (x : Memory) → items_in k is (goes_on x) ≡ gives (check_items k is x.state) (memory_after_all k is x)
        → items_in k is (gives v x) ≡ gives (and_then v (check_items k is x.state)) (memory_after_all k is x)
    go (Ok z) x h = h
    go (Err lack) x h = stopped k is (stopped_by lack)

-- the state of what a step leaves
pub state_after_step : (m : Memory) (k : ℕ) (e : Effect) (bytes : List ℕ) {x : Memory} → x ≡ memory_after m k e bytes
    → x.state ≡ state_after m.state k e (length bytes)
state_after_step m k e bytes h = ap (λ (y : Memory). y.state) h ∙ state-counts m k e bytes
