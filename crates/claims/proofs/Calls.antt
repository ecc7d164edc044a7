-- One call on a memory that is a plain bus by its view: it has the plain bus's answer and gives its bytes, and the memory that it
-- leaves is the plain bus after it.
-- Assumes nothing.
use mathlib.Core.Path.{◌≡◌, refl, subst}
use Prim.Native.Nat.{ℕ}
use mathlib.Core.List.{List, []}
use lib.ListN.{length}
use Rattle.plain_bus.specs.Held.{Bus}
use Rattle.plain_bus.specs.Round.{Injection, injection_from}
use Rattle.plain_bus.specs.Calls.{answer_number, bytes_given, Outcome}
use Rattle.plain_bus.specs.Session as session
use Rattle.plain_bus.proofs.Outcomes.{Came, turned_down, idled, took, carried_out, came}
use Rattle.bus_state.specs.Memory.{Memory}
use Rattle.bus_model.specs.Calls.{answers, collect_in}
use Rattle.bus_model.specs.Refines.{Refines}
use Rattle.bus_model.specs.Session.{call_in, ByteCall}
use Rattle.bus_model.proofs.Session.{Follows, call_refines}
use Rattle.outcome.specs.Outcome.{answer_of}
use Rattle.outcome.specs.Ended.{outcome_is}
use Rattle.claims.specs.Demands.{Call, submits, arbitrates, collects, plain_call}
use Rattle.claims.proofs.Model.{left_by, given_by, memory_of}
use Rattle.claims.proofs.Answers.{left-memory, left-call, left-number, left-answer, front-given}

-- a submitted buffer holds bytes
bytes_of : (c : Call) → ByteCall (plain_call c)
bytes_of (submits node buffer u) = u
bytes_of (arbitrates present code detector) = tt
bytes_of (collects node buffer) = tt

-- a call on a memory that is the plain bus by its view
pub refines : {m : Memory} {b : Bus} → Follows m b → (c : Call) → Refines (call_in m (plain_call c)) (session.call b (plain_call c))
refines {m} f c =
    subst (λ (x : Bus). Refines (call_in m (plain_call c)) (session.call x (plain_call c))) f.bus
    (call_refines m (plain_call c) f.typed f.valid (bytes_of c))

pub same_number : {m : Memory} {b : Bus} → Follows m b → (c : Call)
    → (left_by m c).answer.number ≡ answer_number (session.call b (plain_call c)).answer
same_number {m} {b} f c =
    rw (left-call m c) (left-number (call_in m (plain_call c)) (session.call b (plain_call c)).answer (refines f c).answer)

-- a submit and a round give no bytes
none-submitted : {b : Bus} {k : ℕ} {buffer : List ℕ} {o : Outcome} → Came b (session.submission k buffer) o
    → [] ≡ bytes_given o.answer
none-submitted (turned_down r) = refl
none-submitted (took k buffer b' h e) = refl

none_arbitrated : {b : Bus} {e : Injection} {o : Outcome} → Came b (session.round e) o → [] ≡ bytes_given o.answer
none_arbitrated (turned_down r) = refl
none_arbitrated (idled e q) = refl
none_arbitrated (carried_out e w l q room last) = refl

pub given-same : {m : Memory} {b : Bus} → Follows m b → (c : Call) → given_by m c ≡ bytes_given (session.call b (plain_call c)).answer
unfolding given_by call_in
given-same {b = b} f (submits node buffer u) = none-submitted (came b (session.submission node buffer))
given-same {b = b} f (arbitrates present code detector) =
    none_arbitrated (came b (session.round (injection_from present code detector)))
given-same {m} {b} f (collects node buffer) =
    let r = collect_in m node (length buffer) in
    let e = (refines f (collects node buffer)).answer in
    rw e (front-given (session.call b (session.collection node (length buffer))).answer r.memory.state buffer)

-- the answer but for its state is the plain bus's
pub same_answer : {m : Memory} {b : Bus} → Follows m b → (c : Call)
    → (left_by m c).answer ≡ answer_of (outcome_is (answers (session.call b (plain_call c)).answer)) (left_by m c).answer.state
same_answer {m} {b} f c =
    rw (left-call m c) (left-answer (call_in m (plain_call c)) (session.call b (plain_call c)).answer (refines f c).answer)

pub follows : {m : Memory} {b : Bus} → Follows m b → (c : Call)
    → Follows (memory_of (left_by m c)) (session.call b (plain_call c)).bus
follows {m} {b} f c =
    let r = refines f c in
    rw (left-call m c, left-memory (call_in m (plain_call c))) (record { bus = r.bus; valid = r.valid; typed = r.typed })
