-- Demand 1: 1 and 3 stand before the numbers of the plain bus (Rows), and a refused call gives only its number and leaves all as
-- it was.
-- Assumes nothing.
use mathlib.Core.Path.{◌≡◌, refl, ap, ◌∙◌}
use Prim.Native.Nat.{ℕ, ◌+◌}
use native.Mathlib.Nat.{zero-add}
use mathlib.Core.Bool.{Bool, true, false, cond, not, ◌&&◌}
use mathlib.Core.List.{List, []}
use lib.Dec.{leb}
use lib.ListN.{length, take, drop}
use lib.Seq.{drop-append_seam}
use Rattle.buffers.specs.Parts.{over}
use Rattle.plain_bus.specs.Refusal.{bad_node_count}
use Rattle.plain_bus.specs.Calls.{refused, accepted, idle, carried, collected}
use Rattle.plain_bus.specs.Session as session
use Rattle.bus_state.specs.Memory.{Memory, view, lent_well}
use Rattle.bus_state.specs.Valid.{valid_state}
use Rattle.bus_state.specs.declared.State.{State}
use Rattle.bus_model.specs.Primitives.{start_memory}
use Rattle.bus_model.specs.Calls.{Reply, wrong_memory, answers, reply_done, Result, replies, refusing, checked, no_start, start_in, submitted, submit_in, rounded, round_in, collection, collect_in, buffer_after}
use Rattle.bus_model.specs.Refines.{TypedMemory}
use Rattle.bus_model.specs.Session.{call_in}
use Rattle.bus_model.proofs.Refused as model
use Rattle.outcome.specs.Outcome.{refusal_row, answer_of}
use Rattle.outcome.specs.Ended.{outcome_is}
use Rattle.bus.specs.Left.{Left, left, leaves}
use Rattle.claims.specs.Numbers.{first_row, start_rows, plain_rows, call_rows}
use Rattle.claims.specs.Demands.{Call, submits, arbitrates, collects, plain_call}
use Rattle.claims.proofs.Model.{left_by, memory_of, given_by}
use Rattle.claims.proofs.Answers.{left-call, refusal_row_lem}
use Rattle.claims.proofs.Calls.{same_number}
use Rattle.claims.proofs.Rows.{plain_number}

-- ---- the numbers

-- each call is what it does behind 1 and 3
behind : (m : Memory) (c : session.Call) → Result
behind m (session.submission k buffer) = submitted m k buffer
behind m (session.round e) = rounded m e
behind m (session.collection k room) = collection m k room

call-checked : (m : Memory) (c : session.Call) → call_in m c ≡ checked m (behind m c)
unfolding call_in submit_in round_in collect_in behind
call-checked m (session.submission k buffer) = refl
call-checked m (session.round e) = refl
call-checked m (session.collection k room) = refl

pub numbered : (m : Memory) (c : Call) → (lent_well m ≡ true → TypedMemory m)
    → (left_by m c).answer.number ≡ first_row (call_rows m (plain_call c))
unfolding first_row
numbered m c typed = go (lent_well m) refl (valid_state m.state m.slots) refl
  where
    go : (t : Bool) → lent_well m ≡ t → (u : Bool) → valid_state m.state m.slots ≡ u
        → (left_by m c).answer.number ≡ cond (not t) 1 (cond (not u) 3 (first_row (plain_rows (view m) (plain_call c))))
    go false e u q = rw (left-call m c, call-checked m (plain_call c), model.refused-lent m (behind m (plain_call c)) e)
    go true e false q = rw (left-call m c, call-checked m (plain_call c), model.refused-invalid m (behind m (plain_call c)) e q)
    go true e true q =
        same_number (record { bus = refl; valid = q; typed = typed e }) c ∙ plain_number (view m) (plain_call c)

-- ---- nothing is changed

-- a refused call gives only its number, and leaves what it found
abbrev KeptIn : Memory → Left → Type 0
KeptIn m l =
    (l.answer.number ≡ 0 → ⊥) → l ≡ left (refusal_row l.answer.number m.state) m.slots m.payload m.queues

-- a result that keeps the memory where it is refused
pub result-kept : (m : Memory) (r : Result) → model.SameMemory m r → KeptIn m (leaves r)
result-kept m r k = go r.reply r.memory k
  where
    go : (x : Reply) (y : Memory) → (reply_done x ≡ false → y ≡ m) → KeptIn m (leaves (record { reply = x; memory = y }))
    go wrong_memory y k n = rw (k refl)
    go (answers (refused x)) y k n = rw (k refl, refusal_row_lem x m.state)
    go (answers accepted) y k n = absurd (n refl)
    go (answers idle) y k n = absurd (n refl)
    go (answers (carried sender id errored age)) y k n = absurd (n refl)
    go (answers (collected bytes)) y k n = absurd (n refl)

same_memory : (m : Memory) (c : session.Call) → model.SameMemory m (call_in m c)
unfolding call_in
same_memory m (session.submission k buffer) = model.submit-kept m k buffer
same_memory m (session.round e) = model.round-kept m e
same_memory m (session.collection k room) = model.collect-kept m k room

-- and it gives no bytes
none-given : (m : Memory) (c : Call) → (left_by m c).answer.length ≡ 0 → given_by m c ≡ []
unfolding left_by given_by
none-given m (submits node buffer u) e = refl
none-given m (arbitrates present code detector) e = refl
none-given m (collects node buffer) e = ap (λ (n : ℕ). take n (buffer_after (collect_in m node (length buffer)).reply buffer)) e

pub call_kept : (m : Memory) (c : Call) → ((left_by m c).answer.number ≡ 0 → ⊥)
    → ((left_by m c).answer ≡ refusal_row (left_by m c).answer.number m.state) × (memory_of (left_by m c) ≡ m) × (given_by m c ≡ [])
call_kept m c n =
    let k : KeptIn m (left_by m c) = rw (left-call m c) (result-kept m (call_in m (plain_call c)) (same_memory m (plain_call c))) in
    let e = k n in
    (ap (λ (l : Left). l.answer) e, ap memory_of e, none-given m c (ap (λ (l : Left). l.answer.length) e))

-- the caller's buffer past the length given
buffer_past : (r : Reply) (s : State) (buffer : List ℕ)
    → drop (answer_of (outcome_is r) s).length (buffer_after r buffer) ≡ drop (answer_of (outcome_is r) s).length buffer
unfolding over
buffer_past wrong_memory s buffer = refl
buffer_past (answers (refused x)) s buffer = refl
buffer_past (answers accepted) s buffer = refl
buffer_past (answers idle) s buffer = refl
buffer_past (answers (carried sender id errored age)) s buffer = refl
buffer_past (answers (collected bytes)) s buffer =
    drop-append_seam bytes (drop (0 + length bytes) buffer) ∙ ap (λ (n : ℕ). drop n buffer) (zero-add (length bytes))

pub collect-past : (m : Memory) (node : ℕ) (buffer : List ℕ)
    → let r = collect_in m node (length buffer) in
    drop (leaves r).answer.length (buffer_after r.reply buffer) ≡ drop (leaves r).answer.length buffer
collect-past m node buffer = let r = collect_in m node (length buffer) in buffer_past r.reply r.memory.state buffer

-- ---- start

pub start-number : (m : Memory) (count : ℕ) → (leaves (start_in m count)).answer.number ≡ first_row (start_rows m count)
unfolding start_in first_row
start-number m count = go (lent_well m) (leb 2 count && leb count 8)
  where
    go : (t u : Bool)
        → (leaves
        (cond (not t) (record { reply = wrong_memory; memory = no_start m })
        (cond u (replies accepted (start_memory m count)) (refusing bad_node_count (no_start m))))
        ).answer.number
        ≡ cond (not t) 1 (cond (not u) 2 0)
    go false u = refl
    go true false = refl
    go true true = refl
