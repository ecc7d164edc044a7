-- Going over the items of a buffer from a position on: one step, then the rest.
-- Assumes nothing.
use mathlib.Core.Path.{◌≡◌, refl, sym, ap, ◌∙◌}
use mathlib.Core.Bool.{true, false, cond}
use mathlib.Core.List.{List, []}
use Prim.Native.Nat.{ℕ, ◌-◌, ◌≤◌, ◌<◌}
use native.Mathlib.Omega.{arith}
use lib.ListN.{length, take, drop, length-drop, drop_of_length-le}
use lib.Seq.{length-take-le}
use Rattle.decoder.specs.Stream.{Item, bytes_of, items_of}
use Rattle.plain_bus.proofs.Whole.{items-nil}
use Rattle.bus_state.specs.Memory.{Memory}
use Rattle.bus_state.specs.Entries.{with_entry}
use Rattle.bus_state.specs.declared.State.{State}
use Rattle.bus_state.specs.declared.NodeState.{NodeState}
use Rattle.submission.specs.Effects.{Taken}
use Rattle.submission.specs.Counting.{is_wakeup, wakeup_room, woken_by, entry_check, entry_after, check, state_after, and_then, check_items}
use Rattle.submission.specs.Carrying.{memory_after, memory_after_all}
use Rattle.submission.specs.declared.Effect.{Effect}
use Rattle.submission.specs.declared.Step.{Step}
use Rattle.submission.specs.declared.Lack.{Lack}
use Rattle.submission.specs.declared.Lack.TheVariants.{QueueFull}
use Rattle.std.specs.Prelude.{Result, Ok, Err}
use Rattle.submission.proofs.Entries.{entry_there, entry_last, stored_again}
use Rattle.submission.proofs.Wakes.{woken_sender}
use Rattle.submission.proofs.Counts.{state_after_step}

-- ---- a step from the state with the sender's entry d, by its kind

module _ (s : State) (k : ℕ) (d : NodeState) (h : k < length s.nodes) (e : Effect) (size : ℕ) where
  check-wakeup : is_wakeup d e ≡ true → check (with_entry s k d) k e size ≡ cond (wakeup_room (with_entry s k d).nodes k 1 0 s.count) (Ok tt) (Err QueueFull)
  unfolding check
  check-wakeup w = rw (entry_there s k d h, w)

  check-entry : is_wakeup d e ≡ false → check (with_entry s k d) k e size ≡ entry_check d e size
  unfolding check
  check-entry w = rw (entry_there s k d h, w)

  after-wakeup : is_wakeup d e ≡ true → state_after (with_entry s k d) k e size ≡ with_entry (woken_by (with_entry s k d) k 1) k d
  unfolding state_after
  after-wakeup w =
      rw (entry_there s k d h, w)
      (sym (stored_again (woken_by (with_entry s k d) k 1) k d (woken_sender k 1 (with_entry s k d).nodes 0 s.count ∙ entry_there s k d h)))

  after-entry : is_wakeup d e ≡ false → state_after (with_entry s k d) k e size ≡ with_entry s k (entry_after d e size)
  unfolding state_after
  after-entry w = rw (entry_there s k d h, w) (entry_last s k d (entry_after d e size))

-- ---- no item is left at the end

none_left : (s : List ℕ) (at : ℕ) → length s ≤ at → items_of (drop at s) ≡ []
none_left s at h = rw (drop_of_length-le s h) items-nil

pub check-end : (s : List ℕ) (at k : ℕ) (x : State) → length s ≤ at → check_items k (items_of (drop at s)) x ≡ Ok tt
unfolding check_items
check-end s at k x h = ap (λ (is : List Item). check_items k is x) (none_left s at h)

pub memory-end : (s : List ℕ) (at k : ℕ) (m : Memory) → length s ≤ at → memory_after_all k (items_of (drop at s)) m ≡ m
unfolding memory_after_all
memory-end s at k m h = ap (λ (is : List Item). memory_after_all k is m) (none_left s at h)

-- ---- one step, then the rest

-- the bytes from one position to another
pub bytes-length : (s : List ℕ) (at end : ℕ) → at < end → end ≤ length s → length (take (end - at) (drop at s)) ≡ end - at
bytes-length s at end h g = length-take-le (end - at) (drop at s) (rw length-drop (omega arith))

module _ (s : List ℕ) (at : ℕ) (r : Step) (t : Taken s at r) (k : ℕ) where
  check_unrolled : (x : State)
      → check_items k (items_of (drop at s)) x
      ≡ and_then (check x k r.effect (r.end - at)) (check_items k (items_of (drop r.end s)) (state_after x k r.effect (r.end - at)))
  unfolding check_items
  check_unrolled x =
      let n : length (bytes_of t.item) ≡ r.end - at = ap length t.bytes ∙ bytes-length s at r.end t.forward t.within in
      ap (λ (is : List Item). check_items k is x) t.items ∙ rw (← t.effect, n)

  check-fails : (x : State) {lack : Lack} → check x k r.effect (r.end - at) ≡ Err lack → check_items k (items_of (drop at s)) x ≡ Err lack
  check-fails x e = check_unrolled x ∙ rw e

  check-goes : (x : State) → check x k r.effect (r.end - at) ≡ Ok tt
      → check_items k (items_of (drop at s)) x ≡ check_items k (items_of (drop r.end s)) (state_after x k r.effect (r.end - at))
  check-goes x e = check_unrolled x ∙ rw e

  -- by the kind of the step, from the state with the sender's entry d
  module _ (x : State) (d : NodeState) (h : k < length x.nodes) where
    pub wakeup-fails : is_wakeup d r.effect ≡ true → wakeup_room (with_entry x k d).nodes k 1 0 x.count ≡ false
        → check_items k (items_of (drop at s)) (with_entry x k d) ≡ Err QueueFull
    wakeup-fails w e = check-fails (with_entry x k d) (check-wakeup x k d h r.effect (r.end - at) w ∙ rw e)

    pub wakeup-goes : is_wakeup d r.effect ≡ true → wakeup_room (with_entry x k d).nodes k 1 0 x.count ≡ true
        → check_items k (items_of (drop at s)) (with_entry x k d)
        ≡ check_items k (items_of (drop r.end s)) (with_entry (woken_by (with_entry x k d) k 1) k d)
    wakeup-goes w e =
        check-goes (with_entry x k d) (check-wakeup x k d h r.effect (r.end - at) w ∙ rw e)
        ∙ ap (check_items k (items_of (drop r.end s))) (after-wakeup x k d h r.effect (r.end - at) w)

    pub entry-fails : {lack : Lack} → is_wakeup d r.effect ≡ false → entry_check d r.effect (r.end - at) ≡ Err lack
        → check_items k (items_of (drop at s)) (with_entry x k d) ≡ Err lack
    entry-fails w e = check-fails (with_entry x k d) (check-entry x k d h r.effect (r.end - at) w ∙ e)

    pub entry-goes : is_wakeup d r.effect ≡ false → entry_check d r.effect (r.end - at) ≡ Ok tt
        → check_items k (items_of (drop at s)) (with_entry x k d)
        ≡ check_items k (items_of (drop r.end s)) (with_entry x k (entry_after d r.effect (r.end - at)))
    entry-goes w e =
        check-goes (with_entry x k d) (check-entry x k d h r.effect (r.end - at) w ∙ e)
        ∙ ap (check_items k (items_of (drop r.end s))) (after-entry x k d h r.effect (r.end - at) w)

  pub check-first : (x : State) → check_items k (items_of (drop at s)) x ≡ Ok tt → check x k r.effect (r.end - at) ≡ Ok tt
  check-first x e = go (check x k r.effect (r.end - at)) _ (sym (check_unrolled x) ∙ e)
    where
      go : (v w : Result (Unit {0}) Lack) → and_then v w ≡ Ok tt → v ≡ Ok tt
      go (Ok z) w e = refl
      go (Err lack) w e = e

  pub memory_unrolled : (m : Memory)
      → memory_after_all k (items_of (drop at s)) m
      ≡ memory_after_all k (items_of (drop r.end s)) (memory_after m k r.effect (take (r.end - at) (drop at s)))
  unfolding memory_after_all
  memory_unrolled m = ap (λ (is : List Item). memory_after_all k is m) t.items ∙ rw (t.effect, ← t.bytes)

  -- what a step left goes on as what it met did
  module _ (m : Memory) {x : Memory} (e : x ≡ memory_after m k r.effect (take (r.end - at) (drop at s))) where
    step-state : x.state ≡ state_after m.state k r.effect (r.end - at)
    step-state =
        let n = bytes-length s at r.end t.forward t.within in
        rw n at (state_after_step m k r.effect (take (r.end - at) (drop at s)) e)

    pub step-check : check_items k (items_of (drop at s)) m.state ≡ Ok tt → check_items k (items_of (drop r.end s)) x.state ≡ Ok tt
    step-check g = rw step-state (sym (check-goes m.state (check-first m.state g)) ∙ g)

    pub step-memory : memory_after_all k (items_of (drop r.end s)) x ≡ memory_after_all k (items_of (drop at s)) m
    step-memory = ap (memory_after_all k (items_of (drop r.end s))) e ∙ sym (memory_unrolled m)
