-- Believed. The calls: each one's refusals in their order, and what it does and answers when there is none (01, "Numbers that calls
-- answer with", "Handing in", "One round"). A refusal hands back the bus as it was.
-- Assumes nothing.
use Rattle.std.specs.Prelude.{ℕ, List, [], Bool, true, false, cond, not, ◌&&◌, ◌||◌, leb, ltb, length}
use Rattle.operation.specs.Rules.{one_of, error_codes}
use Rattle.decoder.specs.Stream.{items_of}
use Rattle.plain_bus.specs.Held.{Bus, last_round, is_off, new_bus, attached, node_at, with_node, with_queue, all_have_room}
use Rattle.plain_bus.specs.Refusal.{Refusal, number_of, bad_node_count, not_attached, buffer_too_long, bad_injection, queue_full, rounds_used_up, room_too_small}
use Rattle.plain_bus.specs.Submit.{Step, done, fails, take_items}
use Rattle.plain_bus.specs.Order.{Winner, nobody, wins, winner}
use Rattle.plain_bus.specs.Round.{Injection, no_error, injected, is_errored, winner_id, owed, after_round, age}

-- what a call answers; a round that is carried out answers sender, ID, whether errored, and age
pub data Answer : Type 0 where
  refused : Refusal → Answer
  accepted : Answer
  idle : Answer
  carried : ℕ → ℕ → Bool → ℕ → Answer
  collected : List ℕ → Answer

abbrev pub is_done : Answer → Bool
is_done (refused r) = false
is_done accepted = true
is_done idle = true
is_done (carried sender id errored age) = true
is_done (collected bytes) = true

-- the number that 01 gives an answer
abbrev pub answer_number : Answer → ℕ
answer_number (refused r) = number_of r
answer_number accepted = 0
answer_number idle = 0
answer_number (carried sender id errored age) = 0
answer_number (collected bytes) = 0

-- the bytes that a collect gave
abbrev pub bytes_given : Answer → List ℕ
bytes_given (refused r) = []
bytes_given accepted = []
bytes_given idle = []
bytes_given (carried sender id errored age) = []
bytes_given (collected bytes) = bytes

pub record Outcome : Type 0 where
  pub answer : Answer
  pub bus : Bus

abbrev pub gives : Answer → Bus → Outcome
gives a b = record { answer = a; bus = b }

abbrev pub refuses : Refusal → Bus → Outcome
refuses r b = gives (refused r) b

-- ---- start: 2; a refused one gives a bus of no node

unfoldable pub start : ℕ → Outcome
start count = cond (leb 2 count && leb count 8) (gives accepted (new_bus count)) (refuses bad_node_count (new_bus 0))

-- ---- submit (01: hand-in): 4, 5, then 8 or 9 of the first step that fails

abbrev pub max_submit : ℕ
max_submit = 4_086

abbrev pub taken_whole : Bus → Step → Outcome
taken_whole b (done after) = gives accepted after
taken_whole b (fails r) = refuses r b

unfoldable pub submit : Bus → ℕ → List ℕ → Outcome
submit b k buffer =
    cond (not (attached b k)) (refuses not_attached b)
    (cond (ltb max_submit (length buffer)) (refuses buffer_too_long b)
    (taken_whole b (take_items k (items_of buffer) (done b))))

-- ---- round: 6, then idle, then 9, then 10

unfoldable pub wrong_injection : Bus → Injection → Bool
wrong_injection b no_error = false
wrong_injection b (injected code detector) =
    not (one_of code error_codes) || not (attached b detector) || is_off (node_at b detector)

unfoldable pub arbitrate : Bus → Injection → Winner → Outcome
arbitrate b e nobody = gives idle b
arbitrate b e (wins w) =
    cond (not (all_have_room (owed e w) b)) (refuses queue_full b)
    (cond (leb last_round b.round) (refuses rounds_used_up b)
    (gives (carried w.owner (winner_id w) (is_errored e) (age b w)) (after_round e w b)))

unfoldable pub run_round : Bus → Injection → Outcome
run_round b e = cond (wrong_injection b e) (refuses bad_injection b) (arbitrate b e (winner b))

-- ---- collect: 4, then 11; room is the length of the caller's buffer

unfoldable pub collect : Bus → ℕ → ℕ → Outcome
collect b k room =
    cond (not (attached b k)) (refuses not_attached b)
    (cond (ltb room (length (node_at b k).queue)) (refuses room_too_small b)
    (gives (collected (node_at b k).queue) (with_node b k (with_queue (node_at b k) []))))
