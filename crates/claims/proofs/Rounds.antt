-- Demand 2: each call is the plain bus's (Calls); a round that is not refused is idle, or carried out and then does what the laws of
-- plain_bus say of the winner.
-- Assumes nothing.
use mathlib.Core.Path.{◌≡◌, refl, sym, ap, ◌∙◌, subst}
use Prim.Native.Nat.{ℕ, ◌<◌}
use mathlib.Core.Logic.{◌⊎◌}
use mathlib.Core.Bool.{Bool, true, false, cond, not}
use lib.Dec.{leb, eqb}
use lib.ListN.{length}
use Rattle.operation.proofs.Tests.{false_is_true}
use Rattle.plain_bus.specs.Held.{Frame, Bus, last_round, node_at}
use Rattle.plain_bus.specs.Refusal.{invalid, bad_injection, queue_full, rounds_used_up}
use Rattle.plain_bus.specs.Order.{Entry, Winner, nobody, wins}
use Rattle.plain_bus.specs.Round.{Injection, is_errored, winner_id, injection_from}
use Rattle.plain_bus.specs.Calls.{refused, accepted, idle, carried, collected, Outcome}
use Rattle.plain_bus.specs.Session as session
use Rattle.plain_bus.proofs.ValidBus.{Valid}
use Rattle.plain_bus.proofs.Winner.{winner-pending, winner-first, nobody-pending}
use Rattle.plain_bus.proofs.Outcomes.{Came, turned_down, idled, carried_out, came}
use Rattle.plain_bus.proofs.Rounds.{age_difference, round_grows, round-queue, discarded, winner-removed, losers_wait}
use Rattle.bus_state.specs.Memory.{Memory, view, lent_well}
use Rattle.bus_state.specs.Valid.{valid_state}
use Rattle.bus_state.proofs.Validity.{validity_tested}
use Rattle.bus_model.specs.Submit.{room_for_each}
use Rattle.bus_model.specs.Round.{winner_in, owed_at, after_round_in}
use Rattle.bus_model.specs.Calls.{Reply, wrong_memory, answers, Result, replies, refusing, checked, wrong_injection_in, arbitrate_in, rounded, round_in}
use Rattle.bus_model.specs.Refines.{TypedMemory, Refines}
use Rattle.bus_model.proofs.Validity.{valid-good}
use Rattle.bus_model.proofs.Session.{Follows}
use Rattle.bus_model.proofs.Round.{round_refines}
use Rattle.bus.specs.Left.{leaves}
use Rattle.claims.specs.Demands.{Call, submits, arbitrates, collects, plain_call, SameAs, Round, idles, takes, IfRound, Among}
use Rattle.claims.proofs.Model.{left_by, memory_of, given_by}
use Rattle.claims.proofs.Answers.{left-memory, left-number, done-number}
use Rattle.claims.proofs.Calls.{given-same, same_answer, follows}
use Rattle.claims.proofs.Pending.{call_known}

-- ---- each call

-- memory that is of its types and sizes is lent well
pub typed-lent : (m : Memory) → TypedMemory m → lent_well m ≡ true
unfolding lent_well
typed-lent m t = rw (t.sized.slots, t.sized.payload, t.sized.queues)

pub same_as : (m : Memory) (c : Call) → TypedMemory m → valid_state m.state m.slots ≡ true
    → SameAs (session.call (view m) (plain_call c)) (left_by m c).answer (given_by m c) (memory_of (left_by m c))
same_as m c t v =
    let f : Follows m (view m) = record { bus = refl; valid = v; typed = t } in
    let n = follows f c in
    let l = typed-lent (memory_of (left_by m c)) n.typed in
    record {
      answer = same_answer f c;
      bytes = given-same f c;
      bus = n.bus;
      passes = record { lent = l; valid = (validity_tested (memory_of (left_by m c)) l).0 n.valid };
    }

-- ---- an idle round changes nothing

abbrev says_idle : Reply → Bool
says_idle wrong_memory = false
says_idle (answers (refused r)) = false
says_idle (answers accepted) = false
says_idle (answers idle) = true
says_idle (answers (carried sender id errored age)) = false
says_idle (answers (collected bytes)) = false

abbrev Idle : Memory → Result → Type 0
Idle m r = says_idle r.reply ≡ true → r ≡ replies idle m

checked-idle : (m : Memory) (r : Result) → Idle m r → Idle m (checked m r)
unfolding checked
checked-idle m r k = go (lent_well m) (valid_state m.state m.slots)
  where
    go : (a b : Bool) → Idle m (cond (not a) (record { reply = wrong_memory; memory = m }) (cond (not b) (refusing invalid m) r))
    go false b = false_is_true
    go true false = false_is_true
    go true true = k

round-idle : (m : Memory) (e : Injection) → Idle m (round_in m e)
unfolding round_in rounded arbitrate_in
round-idle m e = checked-idle m (rounded m e) (go (wrong_injection_in m e) (winner_in m))
  where
    won : (w : Entry) (age : ℕ) (a b : Bool)
        → Idle m
        (cond (not a) (refusing queue_full m)
        (cond b (refusing rounds_used_up m)
        (replies (carried w.owner (winner_id w) (is_errored e) age) (after_round_in e w m))))
    won w age false b = false_is_true
    won w age true true = false_is_true
    won w age true false = false_is_true

    go : (a : Bool) (x : Winner) → Idle m (cond a (refusing bad_injection m) (arbitrate_in m e x))
    go true x = false_is_true
    go false nobody = λ q. refl
    go false (wins w) = won w _ (room_for_each (owed_at e w m) m 0 m.state.count) (leb last_round m.state.round)

-- ---- a round that is not refused

module _ (m : Memory) (e : Injection) (v : Valid (view m)) where
  abbrev RoundIs : Result → Type 0
  RoundIs r = Round e m (leaves r).answer (memory_of (leaves r))

  round_is : {o : Outcome} → Came (view m) (session.round e) o → Refines (round_in m e) o
      → (leaves (round_in m e)).answer.number ≡ 0 → RoundIs (round_in m e)
  round_is (turned_down x) f n =
      let zero = sym (left-number (round_in m e) (refused x) f.answer) ∙ n in
      false_is_true (sym (done-number (refused x)) ∙ ap (λ (k : ℕ). eqb k 0) zero)
  round_is (idled d q) f n =
      subst RoundIs (sym (round-idle m e (ap says_idle f.answer))) (idles (nobody-pending (view m) q) refl refl)
  round_is (carried_out d w l q room last) f n =
      let p = winner-pending (view m) w q in
      let h = p.attached in
      takes w
      (rw (left-memory (round_in m e), f.bus, f.answer)
      (record {
        pending = p;
        first = winner-first (view m) w q;
        busy = refl;
        sender = refl;
        id = refl;
        errored = refl;
        age = age_difference (view m) w v q;
        round = round_grows (view m) e w;
        queues = round-queue (view m) e w;
        removed = winner-removed (view m) e w h;
        discarded = discarded (view m) e w;
        waiting = losers_wait (view m) e w;
      }))

pub if_round : (m : Memory) (c : Call) → TypedMemory m → valid_state m.state m.slots ≡ true → (left_by m c).answer.number ≡ 0
    → IfRound c m (left_by m c).answer (memory_of (left_by m c))
unfolding left_by session.call
if_round m (submits node buffer u) t v n = tt
if_round m (arbitrates present code detector) t v n =
    let e = injection_from present code detector in
    round_is m e (valid-good m t v).valid (came (view m) (session.round e)) (round_refines m e t v) n
if_round m (collects node buffer) t v n = tt

-- what is pending after a call
pub still_known : (m : Memory) (c : Call) → TypedMemory m → valid_state m.state m.slots ≡ true → (j : ℕ)
    → j < length (view m).nodes → (f : Frame) → Among f (node_at (view (memory_of (left_by m c))) j).pending
    → Among f (node_at (view m) j).pending ⊎ (f.accepted ≡ (view m).round)
still_known m c t v j h f a =
    call_known (view m) (plain_call c) j h f (subst (λ (b : Bus). Among f (node_at b j).pending) (same_as m c t v).bus a)
