-- What a call leaves, from the result that its contract names: the state in its answer, the number of a refusal, the bytes given.
-- Assumes nothing.
use mathlib.Core.Path.{◌≡◌, refl, sym, ap, ◌∙◌}
use Prim.Native.Nat.{ℕ, ◌+◌}
use mathlib.Core.Bool.{false}
use mathlib.Core.List.{List}
use lib.Dec.{eqb}
use lib.ListN.{length, take, drop}
use lib.Seq.{take-append_seam}
use Rattle.std.specs.Prelude.{Ok, Err}
use Rattle.buffers.specs.Parts.{over}
use Rattle.plain_bus.specs.Refusal.{Refusal, number_of, bad_node_count, invalid, not_attached, buffer_too_long, bad_injection, four_pending, queue_full, rounds_used_up, room_too_small}
use Rattle.plain_bus.specs.Calls.{Answer, refused, accepted, idle, carried, collected, is_done, answer_number, bytes_given}
use Rattle.bus_state.specs.Memory.{Memory, held}
use Rattle.bus_state.specs.declared.State.{State}
use Rattle.bus_model.specs.Calls.{Reply, answers, Result, buffer_after}
use Rattle.bus_model.specs.Session.{call_in}
use Rattle.outcome.specs.Outcome.{Outcome, refusal_is, refusal_number, refusal_row, answer_of}
use Rattle.outcome.specs.Ended.{outcome_is}
use Rattle.outcome.specs.declared.Done.TheVariants.{Accepted, Idle, Carried, Collected}
use Rattle.bus.specs.Left.{leaves}
use Rattle.claims.specs.Demands.{Call, submits, arbitrates, collects, plain_call}
use Rattle.claims.proofs.Model.{left_by, memory_of}

-- ---- the state

-- an answer has the state that it was made with
answer-state : (o : Outcome) (s : State) → (answer_of o s).state ≡ s
answer-state (Err refusal) s = refl
answer-state (Ok Accepted) s = refl
answer-state (Ok Idle) s = refl
answer-state (Ok (Carried sender id errored age)) s = refl
answer-state (Ok (Collected n)) s = refl

pub left-state : (r : Result) → (leaves r).answer.state ≡ r.memory.state
left-state r = answer-state (outcome_is r.reply) r.memory.state

-- the next call finds the result's memory
pub left-memory : (r : Result) → memory_of (leaves r) ≡ r.memory
left-memory r = ap (λ (s : State). held s r.memory.slots r.memory.payload r.memory.queues) (left-state r)

-- each call of a session is that of the model
pub left-call : (m : Memory) (c : Call) → left_by m c ≡ leaves (call_in m (plain_call c))
unfolding left_by call_in
left-call m (submits node buffer u) = refl
left-call m (arbitrates present code detector) = refl
left-call m (collects node buffer) = refl

-- ---- the number and the bytes

-- a refusal has the number of the plain bus's
pub refusal_number_lem : (r : Refusal) → refusal_number (refusal_is r) ≡ number_of r
refusal_number_lem bad_node_count = refl
refusal_number_lem invalid = refl
refusal_number_lem not_attached = refl
refusal_number_lem buffer_too_long = refl
refusal_number_lem bad_injection = refl
refusal_number_lem four_pending = refl
refusal_number_lem queue_full = refl
refusal_number_lem rounds_used_up = refl
refusal_number_lem room_too_small = refl

-- and gives only that
pub refusal_row_lem : (r : Refusal) (s : State) → answer_of (Err (refusal_is r)) s ≡ refusal_row (number_of r) s
refusal_row_lem r s = ap (λ n. refusal_row n s) (refusal_number_lem r)

-- which is not 0
refusal-number : (r : Refusal) → eqb (number_of r) 0 ≡ false
refusal-number bad_node_count = refl
refusal-number invalid = refl
refusal-number not_attached = refl
refusal-number buffer_too_long = refl
refusal-number bad_injection = refl
refusal-number four_pending = refl
refusal-number queue_full = refl
refusal-number rounds_used_up = refl
refusal-number room_too_small = refl

-- number 0 says that the call was done
pub done-number : (a : Answer) → eqb (answer_number a) 0 ≡ is_done a
done-number (refused r) = refusal-number r
done-number accepted = refl
done-number idle = refl
done-number (carried sender id errored age) = refl
done-number (collected bytes) = refl

pub answer_number_lem : (a : Answer) (s : State) → (answer_of (outcome_is (answers a)) s).number ≡ answer_number a
answer_number_lem (refused r) s = refusal_number_lem r
answer_number_lem accepted s = refl
answer_number_lem idle s = refl
answer_number_lem (carried sender id errored age) s = refl
answer_number_lem (collected bytes) s = refl

-- a result with an answer of the plain bus leaves its number
pub left-number : (r : Result) (a : Answer) → r.reply ≡ answers a → (leaves r).answer.number ≡ answer_number a
left-number r a e =
    ap (λ (x : Reply). (answer_of (outcome_is x) r.memory.state).number) e ∙ answer_number_lem a r.memory.state

-- and that answer, but for the state
pub left-answer : (r : Result) (a : Answer) → r.reply ≡ answers a
    → (leaves r).answer ≡ answer_of (outcome_is (answers a)) (leaves r).answer.state
left-answer r a e =
    ap (λ (x : Reply). answer_of (outcome_is x) r.memory.state) e ∙ ap (answer_of (outcome_is (answers a))) (sym (left-state r))

-- as much of the caller's buffer as the answer's length says is what the plain bus gave
pub front-given : (a : Answer) (s : State) (buffer : List ℕ)
    → take (answer_of (outcome_is (answers a)) s).length (buffer_after (answers a) buffer) ≡ bytes_given a
unfolding over
front-given (refused r) s buffer = refl
front-given accepted s buffer = refl
front-given idle s buffer = refl
front-given (carried sender id errored age) s buffer = refl
front-given (collected bytes) s buffer = take-append_seam bytes (drop (0 + length bytes) buffer)
