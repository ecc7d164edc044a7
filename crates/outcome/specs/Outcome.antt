-- Believed. The outcome of a call: which case each answer of the plain bus is, and what is answered in each case (01, "Numbers that calls
-- answer with").
-- Assumes nothing.
use Rattle.std.specs.Prelude.{ℕ, cond, length, Result, Ok, Err}
use Rattle.plain_bus.specs.Refusal as plain
use Rattle.plain_bus.specs.Calls as calls
use Rattle.bus_state.specs.declared.State.{State}
use Rattle.outcome.specs.declared.Refusal.{Refusal}
use Rattle.outcome.specs.declared.Refusal.TheVariants.{WrongMemory, BadNodeCount, Invalid, NotAttached, BufferTooLong, BadInjection, FourPending, QueueFull, RoundsUsedUp, RoomTooSmall}
use Rattle.outcome.specs.declared.Done.{Done}
use Rattle.outcome.specs.declared.Done.TheVariants.{Accepted, Idle, Carried, Collected}
use Rattle.outcome.specs.declared.Answer.{Answer}

abbrev pub Outcome : Type 0
Outcome = Result Done Refusal

abbrev pub refusal_is : plain.Refusal → Refusal
refusal_is plain.bad_node_count = BadNodeCount
refusal_is plain.invalid = Invalid
refusal_is plain.not_attached = NotAttached
refusal_is plain.buffer_too_long = BufferTooLong
refusal_is plain.bad_injection = BadInjection
refusal_is plain.four_pending = FourPending
refusal_is plain.queue_full = QueueFull
refusal_is plain.rounds_used_up = RoundsUsedUp
refusal_is plain.room_too_small = RoomTooSmall

-- the case of an answer; of collected bytes it has the number
abbrev pub outcome_of : calls.Answer → Outcome
outcome_of (calls.refused r) = Err (refusal_is r)
outcome_of calls.accepted = Ok Accepted
outcome_of calls.idle = Ok Idle
outcome_of (calls.carried sender id errored age) = Ok (Carried sender id errored age)
outcome_of (calls.collected bytes) = Ok (Collected (length bytes))

abbrev pub refusal_number : Refusal → ℕ
refusal_number WrongMemory = plain.wrong_memory_number
refusal_number BadNodeCount = plain.number_of plain.bad_node_count
refusal_number Invalid = plain.number_of plain.invalid
refusal_number NotAttached = plain.number_of plain.not_attached
refusal_number BufferTooLong = plain.number_of plain.buffer_too_long
refusal_number BadInjection = plain.number_of plain.bad_injection
refusal_number FourPending = plain.number_of plain.four_pending
refusal_number QueueFull = plain.number_of plain.queue_full
refusal_number RoundsUsedUp = plain.number_of plain.rounds_used_up
refusal_number RoomTooSmall = plain.number_of plain.room_too_small

abbrev pub answer_row : (number id age length sender idle errored : ℕ) → State → Answer
answer_row number id age length sender idle errored s = record {
  number = number;
  id = id;
  age = age;
  length = length;
  sender = sender;
  idle = idle;
  errored = errored;
  state = s;
}

-- a refusal gives only its number
abbrev pub refusal_row : ℕ → State → Answer
refusal_row number s = answer_row number 0 0 0 0 0 0 s

abbrev pub answer_of : Outcome → State → Answer
answer_of (Err refusal) s = refusal_row (refusal_number refusal) s
answer_of (Ok Accepted) s = answer_row 0 0 0 0 0 0 0 s
answer_of (Ok Idle) s = answer_row 0 0 0 0 0 1 0 s
answer_of (Ok (Carried sender id errored age)) s = answer_row 0 id age 0 sender 0 (cond errored 1 0) s
answer_of (Ok (Collected n)) s = answer_row 0 0 0 n 0 0 0 s
