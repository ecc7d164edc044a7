-- A call that is refused hands back the memory as it was, whatever it was; a start changes no payload
-- and no queue byte; refusals 1 and 3 are given before any other.
-- Assumes nothing.
use mathlib.Core.Path.{◌≡◌, refl}
use Prim.Native.Nat.{ℕ}
use native.Mathlib.Omega.{arith}
use mathlib.Core.Bool.{Bool, true, false, cond, not, ◌&&◌}
use mathlib.Core.List.{List}
use lib.Dec.{leb, ltb}
use lib.ListN.{length}
use Rattle.decoder.specs.Stream.{items_of}
use Rattle.plain_bus.specs.Held.{last_round}
use Rattle.plain_bus.specs.Refusal.{bad_node_count, invalid, not_attached, buffer_too_long, bad_injection, queue_full, rounds_used_up, room_too_small}
use Rattle.plain_bus.specs.Order.{Entry, Winner, nobody, wins}
use Rattle.plain_bus.specs.Round.{Injection, is_errored, winner_id}
use Rattle.plain_bus.specs.Calls.{accepted, carried, collected, max_submit}
use Rattle.bus_state.specs.Memory.{Memory, lent_well}
use Rattle.bus_state.specs.Valid.{valid_state}
use Rattle.bus_model.specs.Primitives.{entry_at, empty_queue, start_memory}
use Rattle.bus_model.specs.Submit.{Progress, goes_on, stops, room_for_each, items_in}
use Rattle.bus_model.specs.Round.{winner_in, owed_at, after_round_in}
use Rattle.bus_model.specs.Calls.{wrong_memory, reply_done, Result, replies, refusing, checked, attached_in, no_start, start_in, taken_in, submitted, submit_in, wrong_injection_in, arbitrate_in, rounded, round_in, queue_at, collection, collect_in}

-- ---- 1 and 3

module _ (m : Memory) (r : Result) where
  pub refused-lent : lent_well m ≡ false → checked m r ≡ record { reply = wrong_memory; memory = m }
  unfolding checked
  refused-lent e = rw e

  pub refused-invalid : lent_well m ≡ true → valid_state m.state m.slots ≡ false → checked m r ≡ refusing invalid m
  unfolding checked
  refused-invalid e q = rw (e, q)

-- ---- nothing is changed

abbrev pub SameMemory : Memory → Result → Type 0
SameMemory m r = reply_done r.reply ≡ false → r.memory ≡ m

-- what is done is not refused
done-kept : {P : Type 0} → true ≡ false → P
done-kept e = let z : ◌≡◌ {A = ℕ} 0 1 = cc in absurd (omega arith)

checked-kept : (m : Memory) (r : Result) → SameMemory m r → SameMemory m (checked m r)
unfolding checked
checked-kept m r k = go (lent_well m) (valid_state m.state m.slots)
  where
    go : (a b : Bool) → SameMemory m (cond (not a) (record { reply = wrong_memory; memory = m }) (cond (not b) (refusing invalid m) r))
    go false b = λ e. refl
    go true false = λ e. refl
    go true true = k

pub submit-kept : (m : Memory) (k : ℕ) (buffer : List ℕ) → SameMemory m (submit_in m k buffer)
unfolding submit_in submitted
submit-kept m k buffer =
    checked-kept m (submitted m k buffer) (go (attached_in m k) (ltb max_submit (length buffer)) (items_in k (items_of buffer) (goes_on m)))
  where
    go : (a b : Bool) (p : Progress) → SameMemory m (cond (not a) (refusing not_attached m) (cond b (refusing buffer_too_long m) (taken_in m p)))
    go false b p = λ e. refl
    go true true p = λ e. refl
    go true false (goes_on after) = λ e. done-kept e
    go true false (stops r) = λ e. refl

pub round-kept : (m : Memory) (e : Injection) → SameMemory m (round_in m e)
unfolding round_in rounded arbitrate_in
round-kept m e = checked-kept m (rounded m e) (go (wrong_injection_in m e) (winner_in m))
  where
    won : (w : Entry) (age : ℕ) (a b : Bool)
        → SameMemory m
        (cond (not a) (refusing queue_full m)
        (cond b (refusing rounds_used_up m)
        (replies (carried w.owner (winner_id w) (is_errored e) age) (after_round_in e w m))))
    won w age false b = λ e. refl
    won w age true true = λ e. refl
    won w age true false = λ e. done-kept e

    go : (a : Bool) (x : Winner) → SameMemory m (cond a (refusing bad_injection m) (arbitrate_in m e x))
    go true x = λ e. refl
    go false nobody = λ e. refl
    go false (wins w) = won w _ (room_for_each (owed_at e w m) m 0 m.state.count) (leb last_round m.state.round)

pub collect-kept : (m : Memory) (k room : ℕ) → SameMemory m (collect_in m k room)
unfolding collect_in collection
collect-kept m k room = checked-kept m (collection m k room) (go (attached_in m k) (ltb room (entry_at m k).fill))
  where
    go : (a b : Bool)
        → SameMemory m
        (cond (not a) (refusing not_attached m) (cond b (refusing room_too_small m) (replies (collected (queue_at m k)) (empty_queue m k))))
    go false b = λ e. refl
    go true true = λ e. refl
    go true false = λ e. done-kept e

-- ---- start

-- what a start leaves: payload and queue bytes always, and the slots and a state of node count 0 where it is refused
pub record Left (m : Memory) (r : Result) : Type 0 where
  pub payload : r.memory.payload ≡ m.payload
  pub queues : r.memory.queues ≡ m.queues
  pub none : reply_done r.reply ≡ false → r.memory ≡ no_start m

pub start_left : (m : Memory) (count : ℕ) → Left m (start_in m count)
unfolding start_in start_memory
start_left m count = go (lent_well m) (leb 2 count && leb count 8)
  where
    go : (a b : Bool)
        → Left m
        (cond (not a) (record { reply = wrong_memory; memory = no_start m })
        (cond b (replies accepted (start_memory m count)) (refusing bad_node_count (no_start m))))
    go false b = record { payload = refl; queues = refl; none = λ e. refl }
    go true false = record { payload = refl; queues = refl; none = λ e. refl }
    go true true = record { payload = refl; queues = refl; none = λ e. done-kept e }
