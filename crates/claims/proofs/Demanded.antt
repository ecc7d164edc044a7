-- What is demanded of each call holds of what its contract says that it answers and leaves.
-- Assumes nothing.
use mathlib.Core.Path.{◌≡◌, refl, sym, ap, ◌∙◌, subst}
use Prim.Native.Nat.{ℕ}
use native.Mathlib.Omega.{arith}
use mathlib.Core.Bool.{Bool, true, false, cond, not, ◌&&◌}
use mathlib.Core.List.{List, []}
use lib.Dec.{leb}
use lib.ListN.{length, take, drop, replicate}
use Rattle.slots.specs.Slots.{free_slot}
use Rattle.slots.specs.declared.Slot.{Slot}
use Rattle.plain_bus.specs.Refusal.{bad_node_count}
use Rattle.plain_bus.specs.Calls.{accepted, bytes_given, start}
use Rattle.plain_bus.specs.Register.{Update, updated, rejected, update_number, enter, read}
use Rattle.bus_state.specs.Memory.{Memory, held, slot_count, lent_well}
use Rattle.bus_state.specs.Valid.{valid_state}
use Rattle.bus_state.specs.declared.State.{State}
use Rattle.bus_state.proofs.Validity.{validity_tested}
use Rattle.bus_model.specs.Primitives.{new_state, start_memory}
use Rattle.bus_model.specs.Calls.{wrong_memory, replies, refusing, no_start, start_in, collect_in, buffer_after}
use Rattle.bus_model.specs.Refines.{TypedMemory}
use Rattle.bus_model.proofs.Refused as model
use Rattle.bus_model.proofs.Start.{start_refines}
use Rattle.outcome.specs.Outcome.{refusal_row}
use Rattle.bus.specs.Left.{Left, leaves}
use Rattle.open_frames.specs.Record.{open_in, answered}
use Rattle.open_frames.specs.declared.Register.{Register}
use Rattle.open_frames.specs.declared.RegisterAnswer.{RegisterAnswer}
use Rattle.claims.specs.Demands.{Call, collects, Passes, SameAs, Demanded, Started, entered, closed, Enters, Closes}
use Rattle.claims.proofs.Model.{left_by, memory_of, given_by}
use Rattle.claims.proofs.Answers.{left-memory, left-answer}
use Rattle.claims.proofs.Numbers.{numbered, result-kept, call_kept, collect-past, start-number}
use Rattle.claims.proofs.Rounds.{typed-lent, same_as, if_round, still_known}
use Rattle.claims.proofs.Rows.{enter-number, read_number}

-- ---- submit, round and collect

pub demanded_by : (m : Memory) (c : Call) → (lent_well m ≡ true → TypedMemory m)
    → Demanded c m (left_by m c).answer (given_by m c) (memory_of (left_by m c))
demanded_by m c t = record {
  number = numbered m c t;
  kept = call_kept m c;
  same = λ p. same_as m c (t p.lent) (tested p);
  round = λ p n. if_round m c (t p.lent) (tested p) n;
  accepted = λ p. still_known m c (t p.lent) (tested p);
}
  where
    tested : Passes m → valid_state m.state m.slots ≡ true
    tested p = (validity_tested m p.lent).1 p.valid

pub demanded : (m : Memory) (c : Call) (l : Left) (out : List ℕ) → (lent_well m ≡ true → TypedMemory m) → l ≡ left_by m c
    → out ≡ given_by m c → Demanded c m l.answer out (memory_of l)
demanded m c l out t e g =
    subst (λ (x : Left). Demanded c m x.answer out (memory_of x)) (sym e)
    (subst (λ (b : List ℕ). Demanded c m (left_by m c).answer b (memory_of (left_by m c))) (sym g) (demanded_by m c t))

-- the caller's buffer after a collect: the bytes given, and what was there past them
module _ (m : Memory) (node : ℕ) (buffer out : List ℕ) (l : Left) (e : l ≡ left_by m (collects node buffer))
    (f : out ≡ buffer_after (collect_in m node (length buffer)).reply buffer) where
  pub given_is : take l.answer.length out ≡ given_by m (collects node buffer)
  unfolding left_by given_by
  given_is =
      ap (take l.answer.length) f
      ∙ ap (λ (x : Left). take x.answer.length (buffer_after (collect_in m node (length buffer)).reply buffer)) e

  pub past-given : drop l.answer.length out ≡ drop l.answer.length buffer
  unfolding left_by
  past-given =
      let after = buffer_after (collect_in m node (length buffer)).reply buffer in
      ap (drop l.answer.length) f
      ∙ subst (λ (x : Left). drop x.answer.length after ≡ drop x.answer.length buffer) (sym e) (collect-past m node buffer)

-- ---- start

-- a start that answers 0 found memory of the right sizes and a node count from 2 to 8
pub record Accepted (m : Memory) (count : ℕ) : Type 0 where
  pub lent : lent_well m ≡ true
  pub fits : (leb 2 count && leb count 8) ≡ true

pub start-accepted : (m : Memory) (count : ℕ) → (leaves (start_in m count)).answer.number ≡ 0 → Accepted m count
unfolding start_in
start-accepted m count = go (lent_well m) refl (leb 2 count && leb count 8) refl
  where
    go : (t : Bool) → lent_well m ≡ t → (u : Bool) → (leb 2 count && leb count 8) ≡ u
        → (leaves
        (cond (not t) (record { reply = wrong_memory; memory = no_start m })
        (cond u (replies accepted (start_memory m count)) (refusing bad_node_count (no_start m))))
        ).answer.number ≡ 0
        → Accepted m count
    go true a true b e = record { lent = a; fits = b }
    go true a false b e = absurd (omega (arith, e))
    go false a u b e = absurd (omega (arith, e))

start_frees : (m : Memory) (count : ℕ) → Accepted m count → (leaves (start_in m count)).slots ≡ replicate slot_count free_slot
unfolding start_in start_memory
start_frees m count a = rw (a.lent, a.fits)

-- the memory after a start: the payload and the queues are those that were lent
pub start_memory_lem : (m : Memory) (count : ℕ)
    → let l = leaves (start_in m count) in held l.answer.state l.slots m.payload m.queues ≡ (start_in m count).memory
start_memory_lem m count =
    let r = start_in m count in
    let k = model.start_left m count in
    (λ i. held (leaves r).answer.state r.memory.slots (sym k.payload i) (sym k.queues i)) ∙ left-memory r

no_bytes : (count : ℕ) → (leb 2 count && leb count 8) ≡ true → bytes_given (start count).answer ≡ []
unfolding start
no_bytes count e = rw e

start-same : (m : Memory) (count : ℕ) → Accepted m count
    → SameAs (start count) (leaves (start_in m count)).answer [] (start_in m count).memory
start-same m count a =
    let s = start_refines m count a.lent a.fits in
    let l = typed-lent (start_in m count).memory s.typed in
    record {
      answer = left-answer (start_in m count) (start count).answer s.answer;
      bytes = sym (no_bytes count a.fits);
      bus = s.bus;
      passes = record { lent = l; valid = (validity_tested (start_in m count).memory l).0 s.valid };
    }

pub started_by_lem : (slots : List Slot) (payload queues : List ℕ) (count : ℕ)
    → let l = leaves (start_in (held (new_state 0) slots payload queues) count) in
    Started slots payload queues count l.answer l.slots
unfolding lent_well new_state
started_by_lem slots payload queues count =
    let m = held (new_state 0) slots payload queues in
    let l = leaves (start_in m count) in
    let k = result-kept m (start_in m count) (model.start_left m count).none in
    record {
      number = start-number m count;
      kept = λ n.
          let e = k n in
          let s : l.answer.state ≡ new_state 0 = ap (λ (x : Left). x.answer.state) e in (
            ap (λ (x : Left). x.answer) e ∙ ap (refusal_row l.answer.number) (sym s),
            ap (λ (x : State). x.count) s,
            ap (λ (x : Left). x.slots) e,
          );
      freed = λ z. start_frees m count (start-accepted m count z);
      same = λ z. subst (SameAs (start count) l.answer []) (sym (start_memory_lem m count)) (start-same m count
          (start-accepted m count z));
    }

pub started : (slots : List Slot) (payload queues : List ℕ) (count : ℕ) (l : Left)
    → l ≡ leaves (start_in (held (new_state 0) slots payload queues) count) → Started slots payload queues count l.answer l.slots
started slots payload queues count l e =
    subst (λ (x : Left). Started slots payload queues count x.answer x.slots) (sym e) (started_by_lem slots payload queues count)

-- ---- the registers

answered-number : (r : Register) (u : Update) → (answered r u).number ≡ update_number u
answered-number r (updated x) = refl
answered-number r (rejected x) = refl

answered-kept : (r : Register) (u : Update) → ((answered r u).number ≡ 0 → ⊥) → (answered r u).register ≡ r
answered-kept r (updated x) n = absurd (n refl)
answered-kept r (rejected x) n = refl

pub enters : (r : Register) (buffer : List ℕ) (a : RegisterAnswer) → a ≡ entered r buffer → Enters r buffer a
enters r buffer a e =
    subst (Enters r buffer) (sym e) (record {
      answer = refl;
      number = answered-number r (enter (open_in r) buffer) ∙ enter-number (open_in r) buffer;
      kept = answered-kept r (enter (open_in r) buffer);
    })

pub closes : (r : Register) (bytes : List ℕ) (a : RegisterAnswer) → a ≡ closed r bytes → Closes r bytes a
closes r bytes a e =
    subst (Closes r bytes) (sym e) (record {
      answer = refl;
      number = answered-number r (read (open_in r) bytes) ∙ read_number (open_in r) bytes;
      kept = answered-kept r (read (open_in r) bytes);
    })
