-- One turn of a pass over a buffer, by what its step does: of the check, and of carrying it out.
-- Assumes nothing.
use mathlib.Core.Path.{◌≡◌, sym, ap, ◌∙◌}
use mathlib.Core.Bool.{true, false}
use mathlib.Core.List.{List, []}
use Prim.Native.Nat.{ℕ, ◌+◌, ◌*◌, ◌-◌, ◌≤◌, ◌<◌}
use native.Mathlib.Omega.{arith}
use lib.ListN.{length, set, take, drop, length-set}
use Rattle.buffers.specs.Parts.{over}
use Rattle.operation.specs.Format.{head_length}
use Rattle.operation.specs.declared.Operation.{Operation}
use Rattle.decoder.specs.Stream.{items_of}
use Rattle.slots.specs.Blocks.{slot_of, set_block}
use Rattle.slots.specs.declared.Slot.{Slot}
use Rattle.plain_bus.specs.Submit.{format_error}
use Rattle.plain_bus.specs.Calls.{max_submit}
use Rattle.bus_state.specs.Memory.{Memory, held, slots_per_node, bytes_per_slot, bytes_per_queue, node_state, is_off}
use Rattle.bus_state.specs.declared.State.{State}
use Rattle.bus_state.specs.declared.NodeState.{NodeState}
use Rattle.submission.specs.Effects.{Taken}
use Rattle.submission.specs.Counting.{is_wakeup, wakeup_room, woken_by, answer_length, entry_check, entry_after, check, check_items}
use Rattle.submission.specs.Carrying.{memory_after, memory_after_all, queue_with, wakeups_laid}
use Rattle.submission.specs.declared.Effect.TheVariants.{Transmit, Answer, Wake}
use Rattle.submission.specs.declared.Step.{Step}
use Rattle.submission.specs.declared.Lack.{Lack}
use Rattle.submission.specs.declared.Lack.TheVariants.{QueueFull}
use Rattle.std.specs.Prelude.{Ok, Err}
use Rattle.submission.proofs.Entries.{entry_there}
use Rattle.submission.proofs.Stands.{stand, fill-after, Stood, stand-first, stand_there, stand-room, stand-laid, stand-next}
use Rattle.submission.proofs.Checks.{transmit-few, answer-fits, wake-room, entry-can}
use Rattle.submission.proofs.Carries.{quiet, after-quiet, after-answer, after-wake, after_frame}
use Rattle.submission.proofs.Walks.{bytes-length, check-first, wakeup-fails, wakeup-goes, entry-fails, entry-goes, step-check, step-memory}

-- ---- how far a pass has come, at first and after one more step

pub stood-first : (s : State) (k : ℕ) (buffer : List ℕ) (d : NodeState) → s.count ≤ 8 → length s.nodes ≡ 8 → k < 8 → length buffer ≤ max_submit
    → d ≡ node_state s k → d.fill ≤ bytes_per_queue → Stood s k buffer 0 0 d
stood-first s k buffer d few eight number short e fill =
    record {
      begun = record { few = few; eight = eight; number = number; own = rw (← e) fill };
      fill = fill;
      short = short;
      counted = omega arith;
      within = omega arith;
      room = λ h. absurd (omega arith);
    }

module _ {s : State} {k : ℕ} {buffer : List ℕ} {at u : ℕ} {d : NodeState} (g : Stood s k buffer at u d) (r : Step) (t : Taken buffer at r) where
  stood-entry : entry_check d r.effect (r.end - at) ≡ Ok tt → Stood s k buffer r.end u (entry_after d r.effect (r.end - at))
  stood-entry e =
      record {
        begun = g.begun;
        fill = fill-after d r.effect (r.end - at) g.fill e;
        short = g.short;
        counted = omega (arith, g.counted, t.forward);
        within = t.within;
        room = g.room;
      }

  stood-wakeup : wakeup_room s.nodes k (u + 1) 0 s.count ≡ true → Stood s k buffer r.end (u + 1) d
  stood-wakeup e =
      record {
        begun = g.begun;
        fill = g.fill;
        short = g.short;
        counted = omega (arith, g.counted, t.forward);
        within = t.within;
        room = λ _. e;
      }

-- ---- the check

-- the items from a position on decide as all do
pub record Checking (s : State) (k : ℕ) (buffer : List ℕ) (at u : ℕ) (d : NodeState) : Type 0 where
  pub stood : Stood s k buffer at u d
  pub decides : check_items k (items_of (drop at buffer)) (stand s k u d) ≡ check_items k (items_of buffer) s

pub checking_first : (s : State) (k : ℕ) (buffer : List ℕ) (d : NodeState) → s.count ≤ 8 → length s.nodes ≡ 8 → k < 8 → length buffer ≤ max_submit
    → d ≡ node_state s k → d.fill ≤ bytes_per_queue → Checking s k buffer 0 0 d
checking_first s k buffer d few eight number short e fill =
    let g = stood-first s k buffer d few eight number short e fill in
    record { stood = g; decides = ap (check_items k (items_of buffer)) (rw e (stand-first s k g.begun)) }

module _ {s : State} {k : ℕ} {buffer : List ℕ} {at u : ℕ} {d : NodeState} (g : Checking s k buffer at u d) (r : Step) (t : Taken buffer at r) where
  at_node : k < length (woken_by s k u).nodes
  at_node = stand_there s k g.stood.begun u

  pub full-checked : is_wakeup d r.effect ≡ true → wakeup_room s.nodes k (u + 1) 0 s.count ≡ false
      → check_items k (items_of buffer) s ≡ Err QueueFull
  full-checked w e =
      sym g.decides
      ∙ wakeup-fails buffer at r t k (woken_by s k u) d at_node w (stand-room s k g.stood.begun u d g.stood.fill ∙ e)

  pub wakeup-checked : is_wakeup d r.effect ≡ true → wakeup_room s.nodes k (u + 1) 0 s.count ≡ true
      → Checking s k buffer r.end (u + 1) d
  wakeup-checked w e =
      record {
        stood = stood-wakeup g.stood r t e;
        decides =
            ap (check_items k (items_of (drop r.end buffer))) (sym (stand-next s k g.stood.begun u d))
            ∙ sym (wakeup-goes buffer at r t k (woken_by s k u) d at_node w (stand-room s k g.stood.begun u d g.stood.fill ∙ e))
            ∙ g.decides;
      }

  pub entry-refused : {lack : Lack} → is_wakeup d r.effect ≡ false → entry_check d r.effect (r.end - at) ≡ Err lack
      → check_items k (items_of buffer) s ≡ Err lack
  entry-refused w e = sym g.decides ∙ entry-fails buffer at r t k (woken_by s k u) d at_node w e

  pub entry-checked : {x : NodeState} → is_wakeup d r.effect ≡ false → entry_check d r.effect (r.end - at) ≡ Ok tt
      → x ≡ entry_after d r.effect (r.end - at) → Checking s k buffer r.end u x
  entry-checked w e n =
      rw n
      (record {
        stood = stood-entry g.stood r t e;
        decides = sym (entry-goes buffer at r t k (woken_by s k u) d at_node w e) ∙ g.decides;
      })

-- ---- carrying it out

-- the steps from a position on can be done, and give what all steps give
pub record Going (s : State) (k : ℕ) (buffer : List ℕ) (all : List Slot → Memory) (at u : ℕ) (d : NodeState) (block : List Slot) (p q : List ℕ) : Type 0 where
  pub stood : Stood s k buffer at u d
  pub four : length block ≡ 4
  pub goes : check_items k (items_of (drop at buffer)) (stand s k u d) ≡ Ok tt
  pub gives : (slots : List Slot)
      → memory_after_all k (items_of (drop at buffer)) (held (stand s k u d) (set_block slots (slots_per_node * k) block) p q) ≡ all slots

pub going_first : (s : State) (k : ℕ) (buffer : List ℕ) (d : NodeState) (block : List Slot) (p q : List ℕ)
    → s.count ≤ 8 → length s.nodes ≡ 8 → k < 8 → length buffer ≤ max_submit → d ≡ node_state s k → d.fill ≤ bytes_per_queue
    → length block ≡ 4 → check_items k (items_of buffer) s ≡ Ok tt
    → Going s k buffer (λ (slots : List Slot). memory_after_all k (items_of buffer) (held s (set_block slots (slots_per_node * k) block) p q)) 0 0 d block p q
going_first s k buffer d block p q few eight number short e fill four goes =
    let g = stood-first s k buffer d few eight number short e fill in
    let f : stand s k 0 d ≡ s = rw e (stand-first s k g.begun) in
    record {
      stood = g;
      four = four;
      goes = ap (check_items k (items_of buffer)) f ∙ goes;
      gives = λ slots. ap (λ (x : State). memory_after_all k (items_of buffer) (held x (set_block slots (slots_per_node * k) block) p q)) f;
    }

module _ {s : State} {k : ℕ} {buffer : List ℕ} {all : List Slot → Memory} {at u : ℕ} {d : NodeState} {block : List Slot} {p q : List ℕ}
    (g : Going s k buffer all at u d block p q) (r : Step) (t : Taken buffer at r) where
  there : k < length (woken_by s k u).nodes
  there = stand_there s k g.stood.begun u

  -- the step can be done: what that says of the sender's entry and of the queues
  can : check (stand s k u d) k r.effect (r.end - at) ≡ Ok tt
  can = check-first buffer at r t k (stand s k u d) g.goes

  pub turn_can : entry_check d r.effect (r.end - at) ≡ Ok tt
  turn_can = rw (entry_there (woken_by s k u) k d there) at (entry-can (stand s k u d) k (r.end - at) r.effect can)

  pub turn_few : {op : Operation} → r.effect ≡ Transmit op → is_off d ≡ false → d.pending < 4
  turn_few {op} e o = transmit-few d op (r.end - at) (rw e at turn_can) o

  pub turn_fits : r.effect ≡ Answer → d.fill + answer_length (length (take (r.end - at) (drop at buffer))) ≤ 4_096
  turn_fits e = rw (bytes-length buffer at r.end t.forward t.within) (answer-fits d (r.end - at) (rw e at turn_can))

  pub turn_room : r.effect ≡ Wake → is_off d ≡ false → wakeup_room s.nodes k (u + 1) 0 s.count ≡ true
  turn_room e o =
      sym (stand-room s k g.stood.begun u d g.stood.fill)
      ∙ wake-room (stand s k u d) k (r.end - at) (rw e at can) (rw (entry_there (woken_by s k u) k d there) o)

  -- what a turn left goes on as what it met did
  turned : {u' : ℕ} {d' : NodeState} {block' : List Slot} {p' q' : List ℕ}
      → Stood s k buffer r.end u' d' → length block' ≡ 4
      → ((slots : List Slot)
      → held (stand s k u' d') (set_block slots (slots_per_node * k) block') p' q'
      ≡ memory_after (held (stand s k u d) (set_block slots (slots_per_node * k) block) p q) k r.effect (take (r.end - at) (drop at buffer)))
      → Going s k buffer all r.end u' d' block' p' q'
  turned stood four e =
      record {
        stood = stood;
        four = four;
        goes = step-check buffer at r t k _ (e []) g.goes;
        gives = λ slots. step-memory buffer at r t k _ (e slots) ∙ g.gives slots;
      }

  -- by what the step does besides its change of the entry
  module _ {x : NodeState} (n : x ≡ entry_after d r.effect (r.end - at)) where
    pub quiet-turn : quiet d r.effect ≡ true → Going s k buffer all r.end u x block p q
    quiet-turn o =
        turned (rw n (stood-entry g.stood r t turn_can)) g.four
        (λ slots. rw n (after-quiet (woken_by s k u) k d there p q _ _ _ r.effect o))

    pub answer-turn : {y : List ℕ} → r.effect ≡ Answer → y ≡ queue_with d k q (format_error (take (r.end - at) (drop at buffer))) → Going s k buffer all r.end u x block p y
    answer-turn e a =
        turned (rw n (stood-entry g.stood r t turn_can)) g.four
        (λ slots. rw (n, e, a) (after-answer (woken_by s k u) k d there p q _ _ _ (bytes-length buffer at r.end t.forward t.within)))

    pub wake-turn : {y : List ℕ} → r.effect ≡ Wake → is_off d ≡ false
        → y ≡ wakeups_laid s.nodes k u 0 s.count q → Going s k buffer all r.end (u + 1) x block p y
    unfolding entry_after
    wake-turn e o a =
        let same : x ≡ d = n ∙ rw e in
        turned (rw same (stood-wakeup g.stood r t (turn_room e o))) g.four
        (λ slots. rw (same, ← stand-next s k g.stood.begun u d, a, ← stand-laid s k g.stood.begun u d q, e) (after-wake (woken_by s k u) k d there p q _ (r.end - at) _ o))

    pub frame-turn : {op : Operation} {b : List Slot} {y bytes : List ℕ} → r.effect ≡ Transmit op → is_off d ≡ false
        → bytes ≡ drop (head_length op) (take (r.end - at) (drop at buffer)) → b ≡ set block d.pending (slot_of op k s.round)
        → y ≡ over p (bytes_per_slot * (slots_per_node * k + d.pending)) bytes → Going s k buffer all r.end u x b y q
    frame-turn e o f m a =
        turned (rw n (stood-entry g.stood r t turn_can)) (rw (m, length-set) g.four)
        (λ slots. rw (n, e, m, a) (after_frame (woken_by s k u) k d there p q _ _ slots block _ o g.four (turn_few e o) f))
