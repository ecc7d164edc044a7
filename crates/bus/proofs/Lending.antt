-- When the lent memory has the sizes it must have, what a call then comes to, and what the tests for 1 and 3 say.
-- Assumes nothing.
use mathlib.Core.Path.{◌≡◌, refl, sym, ap, ◌∙◌}
use mathlib.Core.Bool.{Bool, true, false, cond, ◌&&◌}
use mathlib.Core.List.{List}
use Rattle.std.specs.Prelude.{Result, Ok, Err, is_ok}
use native.Mathlib.Omega.{arith}
use Prim.Native.Nat.{ℕ}
use lib.Dec.{leb, ltb, eqb}
use lib.ListN.{length}
use borrow.Author.Tests.{eqb-true, eqb-false}
use Rattle.operation.proofs.Tests.{false_is_true}
use Rattle.bus_state.specs.Memory.{Memory, held, slot_count, payload_bytes, queue_bytes, lent_well}
use Rattle.bus_state.specs.Valid.{valid_state}
use Rattle.bus_state.specs.declared.State.{State}
use Rattle.slots.specs.declared.Slot.{Slot}
use Rattle.scan.proofs.Scanned.{valid_key, invalid_key}
use Rattle.outcome.specs.Outcome.{Outcome, answer_of}
use Rattle.outcome.specs.Ended.{Ended, ended}
use Rattle.outcome.specs.declared.Refusal.{Refusal}
use Rattle.outcome.specs.declared.Refusal.TheVariants.{WrongMemory, Invalid}
use Rattle.bus.specs.Left.{left, leaves}
use Rattle.bus.specs.Given.{Scanned, Counted}
use Rattle.bus.specs.Tested.{lent_sizes, tested}
use Rattle.plain_bus.specs.Refusal.{bad_node_count, invalid, not_attached, room_too_small}
use Rattle.plain_bus.specs.Calls.{accepted, collected}
use Rattle.bus_model.specs.Primitives.{entry_at, empty_queue, start_memory}
use Rattle.bus_model.specs.Calls as model
use Rattle.bus_model.specs.Calls.{wrong_memory, replies, refusing, checked, attached_in, no_start, start_in, queue_at}
use Rattle.bus_model.specs.Calls.{collection, buffer_after}

pub wrong_second : (p q r : Bool) → q ≡ false → (p && q && r) ≡ false
wrong_second true true r e = false_is_true (sym e)
wrong_second true false r e = refl
wrong_second false q r e = refl

pub sizes_of : (m : Memory) → length m.slots ≡ slot_count
    → lent_well m ≡ lent_sizes slot_count (length m.payload) (length m.queues)
unfolding lent_well lent_sizes
sizes_of m e = rw e

-- 1, 3, and past them
pub refused-memory : (m : Memory) (r : model.Result) → lent_well m ≡ false → checked m r ≡ record { reply = wrong_memory; memory = m }
unfolding checked
refused-memory m r e = rw e

pub refused-invalid : (m : Memory) (r : model.Result) → lent_well m ≡ true → valid_state m.state
    m.slots ≡ false → checked m r ≡ refusing invalid m
unfolding checked
refused-invalid m r e f = rw (e, f)

pub passed : (m : Memory) (r : model.Result) → lent_well m ≡ true → valid_state m.state m.slots ≡ true → checked m r ≡ r
unfolding checked
passed m r e f = rw (e, f)

-- a start
pub start_wrong : (m : Memory) (count : ℕ) → lent_well m ≡ false → start_in m count ≡ record { reply = wrong_memory; memory = no_start m }
unfolding start_in
start_wrong m count e = rw e

pub start-refused : (m : Memory) (count : ℕ) → lent_well m ≡ true → (leb 2 count && leb count 8) ≡ false → start_in m count ≡ refusing
    bad_node_count (no_start m)
unfolding start_in
start-refused m count e f = rw (e, f)

pub start-accepted : (m : Memory) (count : ℕ) → lent_well m ≡ true → (leb 2 count && leb count 8) ≡ true → start_in m count ≡ replies
    accepted (start_memory m count)
unfolding start_in
start-accepted m count e f = rw (e, f)

-- a collect, past 1 and 3
pub collect_unattached : (m : Memory) (k room : ℕ) → attached_in m k ≡ false → collection m k room ≡ refusing not_attached m
unfolding collection
collect_unattached m k room e = rw e

pub collect_small : (m : Memory) (k room : ℕ) → attached_in m k ≡ true → ltb room (entry_at m k).fill ≡ true
    → collection m k room ≡ refusing room_too_small m
unfolding collection
collect_small m k room e f = rw (e, f)

pub collect-done : (m : Memory) (k room : ℕ) → attached_in m k ≡ true → ltb room (entry_at m k).fill ≡ false
    → collection m k room ≡ replies (collected (queue_at m k)) (empty_queue m k)
unfolding collection
collect-done m k room e f = rw (e, f)

-- ---- by the key of the pass

module _ {s : State} {key : ℕ} {a : List Slot} (h : Scanned s key a) where
  pub valid_by_key : (key ≡ 0 → ⊥) → valid_state s a ≡ true
  valid_by_key n = let e = h.key-is in valid_key s a (omega (arith, n))

  pub invalid_by_key : key ≡ 0 → valid_state s a ≡ false
  invalid_by_key e = invalid_key s a (h.key-is ∙ e)

-- ---- by the tests for 1 and 3

-- the three ways that they end
by_tests : (l k : Bool) (P : Result (Unit {0}) Refusal → Type 0) → (l ≡ false → P (Err WrongMemory)) → (l ≡ true → k ≡ true → P (Err Invalid))
    → (l ≡ true → k ≡ false → P (Ok tt)) → P (cond l (cond k (Err Invalid) (Ok tt)) (Err WrongMemory))
by_tests false k P wrong unsound past = wrong refl
by_tests true true P wrong unsound past = unsound refl refl
by_tests true false P wrong unsound past = past refl refl

-- an outcome that leaves the memory as it was; of tests that are passed it is o
abbrev ends_as : Memory → Outcome → Result (Unit {0}) Refusal → Ended
ends_as m o (Err u) = record { outcome = Err u; memory = m }
ends_as m o (Ok z) = record { outcome = o; memory = m }

all_true : (p q r : Bool) → (p && q && r) ≡ true → (p ≡ true) × ((q ≡ true) × (r ≡ true))
all_true true true true e = (refl, (refl, refl))
all_true true true false e = false_is_true e
all_true true false r e = false_is_true e
all_true false q r e = false_is_true e

-- what a result leaves, by what it comes to
pub leaves_as : (r : model.Result) (o : Outcome) (m : Memory) → ended r ≡ record { outcome = o; memory = m }
    → leaves r ≡ left (answer_of o m.state) m.slots m.payload m.queues
leaves_as r o m e =
    ap (λ (x : Ended). left (answer_of x.outcome x.memory.state) x.memory.slots x.memory.payload x.memory.queues) e

-- the slots of a call that has as many as it must have
pub counted : {s : State} {key : ℕ} {a : List Slot} → Scanned s key a → Counted s slot_count key a
counted h = record { count = h.slots; key-is = λ n. h.key-is }

-- past both tests
pub record Past (s : State) (key : ℕ) (a : List Slot) (p q : List ℕ) : Type 0 where
  pub scan : Scanned s key a
  pub keyed : key ≡ 0 → ⊥
  pub payload : length p ≡ payload_bytes
  pub queues : length q ≡ queue_bytes
  pub valid : valid_state s a ≡ true
  pub lent_well_lem : lent_well (held s a p q) ≡ true

module _ {s : State} {slots key : ℕ} {a : List Slot} (h : Counted s slots key a) (p q : List ℕ) where
  sizes : lent_well (held s a p q) ≡ lent_sizes slots (length p) (length q)
  unfolding lent_well lent_sizes
  sizes = rw h.count

  each-size : lent_sizes slots (length p) (length q) ≡ true → (slots ≡ slot_count) × ((length p ≡ payload_bytes) × (length q ≡ queue_bytes))
  unfolding lent_sizes
  each-size l =
      let e = all_true (eqb slots slot_count) (eqb (length p) payload_bytes) (eqb (length q) queue_bytes) l in
      (eqb-true slots slot_count e.0, (eqb-true (length p) payload_bytes e.1.0, eqb-true (length q) queue_bytes e.1.1))

  scanned_by : lent_sizes slots (length p) (length q) ≡ true → Scanned s key a
  scanned_by l = let n : length a ≡ slot_count = h.count ∙ (each-size l).0 in record { slots = n; key-is = h.key-is n }

  pub refused-ends : (r : model.Result) (o : Refusal) → tested slots (length p) (length q) key ≡ Err o
      → ended (checked (held s a p q) r) ≡ record { outcome = Err o; memory = held s a p q }
  unfolding tested
  refused-ends r o =
      let m = held s a p q in
      by_tests (lent_sizes slots (length p) (length q)) (eqb key 0)
      (λ t. t ≡ Err o → ended (checked (held s a p q) r) ≡ record { outcome = Err o; memory = held s a p q })
      (λ l e. ap ended (refused-memory m r (sizes ∙ l)) ∙ ap (ends_as m (Err o)) e)
      (λ l k e. ap ended (refused-invalid m r (sizes ∙ l) (invalid_by_key (scanned_by l) (eqb-true key 0 k))) ∙ ap (ends_as m (Err o)) e)
      (λ l k e. false_is_true (sym (ap is_ok e)))

  pub refused_writes : (r : model.Result) (o : Refusal) → tested slots (length p) (length q) key ≡ Err o → (b : List ℕ)
      → buffer_after (checked (held s a p q) r).reply b ≡ b
  unfolding tested
  refused_writes r o =
      let m = held s a p q in
      by_tests (lent_sizes slots (length p) (length q)) (eqb key 0)
      (λ t. t ≡ Err o → (b : List ℕ) → buffer_after (checked (held s a p q) r).reply b ≡ b)
      (λ l e b. ap (λ (z : model.Result). buffer_after z.reply b) (refused-memory m r (sizes ∙ l)))
      (λ l k e b. ap (λ (z : model.Result). buffer_after z.reply b) (refused-invalid m r (sizes ∙ l) (invalid_by_key (scanned_by l)
      (eqb-true key 0 k))))
      (λ l k e. false_is_true (sym (ap is_ok e)))

  pub past_tests : tested slots (length p) (length q) key ≡ Ok tt → Past s key a p q
  unfolding tested
  past_tests =
      by_tests (lent_sizes slots (length p) (length q)) (eqb key 0) (λ t. t ≡ Ok tt → Past s key a p q)
      (λ l e. false_is_true (ap is_ok e)) (λ l k e. false_is_true (ap is_ok e))
      (λ l k e. record {
        scan = scanned_by l;
        keyed = eqb-false key 0 k;
        payload = (each-size l).1.0;
        queues = (each-size l).1.1;
        valid = valid_by_key (scanned_by l) (eqb-false key 0 k);
        lent_well_lem = sizes ∙ l;
      })
