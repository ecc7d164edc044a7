-- Contract. The calls on the state and the lent memory: refusals 1 and 3, then those of the plain call in its order (01, "Numbers that
-- calls answer with"). A refusal hands back the memory as it was; a refused start a state of node count 0.
-- Assumes nothing.
use Rattle.std.specs.Prelude.{ℕ, ◌-◌, ◌*◌, List, Bool, false, cond, not, ◌&&◌, ◌||◌, leb, ltb, length}
use Rattle.operation.specs.Rules.{one_of, error_codes}
use Rattle.buffers.specs.Parts.{part, over}
use Rattle.decoder.specs.Stream.{items_of}
use Rattle.plain_bus.specs.Held.{last_round}
use Rattle.plain_bus.specs.Refusal.{Refusal, bad_node_count, invalid, not_attached, buffer_too_long, bad_injection, queue_full, rounds_used_up, room_too_small}
use Rattle.plain_bus.specs.Order.{Winner, nobody, wins}
use Rattle.plain_bus.specs.Round.{Injection, no_error, injected, is_errored, winner_id}
use Rattle.plain_bus.specs.Calls.{Answer, refused, accepted, idle, carried, collected, is_done, max_submit}
use Rattle.bus_state.specs.Memory.{Memory, bytes_per_queue, lent_well}
use Rattle.bus_state.specs.Valid.{valid_state}
use Rattle.bus_model.specs.Primitives.{entry_at, off_at, with_state, empty_queue, new_state, start_memory}
use Rattle.bus_model.specs.Submit.{Progress, goes_on, stops, room_for_each, items_in}
use Rattle.bus_model.specs.Round.{winner_in, owed_at, after_round_in}

-- an answer of the plain bus, or refusal 1
pub data Reply : Type 0 where
  wrong_memory : Reply
  answers : Answer → Reply

abbrev pub reply_done : Reply → Bool
reply_done wrong_memory = false
reply_done (answers a) = is_done a

pub record Result : Type 0 where
  pub reply : Reply
  pub memory : Memory

abbrev pub replies : Answer → Memory → Result
replies a m = record { reply = answers a; memory = m }

abbrev pub refusing : Refusal → Memory → Result
refusing r m = replies (refused r) m

-- 1 and 3 in front of what a call does
unfoldable pub checked : Memory → Result → Result
checked m r =
    cond (not (lent_well m)) (record { reply = wrong_memory; memory = m })
    (cond (not (valid_state m.state m.slots)) (refusing invalid m) r)

abbrev pub attached_in : Memory → ℕ → Bool
attached_in m k = ltb k m.state.count

-- ---- start: 1, 2

abbrev pub no_start : Memory → Memory
no_start m = with_state m (new_state 0)

unfoldable pub start_in : Memory → ℕ → Result
start_in m count =
    cond (not (lent_well m)) (record { reply = wrong_memory; memory = no_start m })
    (cond (leb 2 count && leb count 8) (replies accepted (start_memory m count)) (refusing bad_node_count (no_start m)))

-- ---- submit: 4, 5, then 8 or 9 of the first step that fails

abbrev pub taken_in : Memory → Progress → Result
taken_in m (goes_on after) = replies accepted after
taken_in m (stops r) = refusing r m

unfoldable pub submitted : Memory → ℕ → List ℕ → Result
submitted m k buffer =
    cond (not (attached_in m k)) (refusing not_attached m)
    (cond (ltb max_submit (length buffer)) (refusing buffer_too_long m) (taken_in m (items_in k (items_of buffer) (goes_on m))))

unfoldable pub submit_in : Memory → ℕ → List ℕ → Result
submit_in m k buffer = checked m (submitted m k buffer)

-- ---- round: 6, then idle, then 9, then 10

unfoldable pub wrong_injection_in : Memory → Injection → Bool
wrong_injection_in m no_error = false
wrong_injection_in m (injected code detector) =
    not (one_of code error_codes) || not (attached_in m detector) || off_at m detector

unfoldable pub arbitrate_in : Memory → Injection → Winner → Result
arbitrate_in m e nobody = replies idle m
arbitrate_in m e (wins w) =
    cond (not (room_for_each (owed_at e w m) m 0 m.state.count)) (refusing queue_full m)
    (cond (leb last_round m.state.round) (refusing rounds_used_up m)
    (replies (carried w.owner (winner_id w) (is_errored e) (m.state.round - w.frame.accepted)) (after_round_in e w m)))

unfoldable pub rounded : Memory → Injection → Result
rounded m e = cond (wrong_injection_in m e) (refusing bad_injection m) (arbitrate_in m e (winner_in m))

unfoldable pub round_in : Memory → Injection → Result
round_in m e = checked m (rounded m e)

-- ---- collect: 4, 11; the queue goes to the front of the caller's buffer

unfoldable pub queue_at : Memory → ℕ → List ℕ
queue_at m k = part (bytes_per_queue * k) (entry_at m k).fill m.queues

unfoldable pub collection : Memory → ℕ → ℕ → Result
collection m k room =
    cond (not (attached_in m k)) (refusing not_attached m)
    (cond (ltb room (entry_at m k).fill) (refusing room_too_small m) (replies (collected (queue_at m k)) (empty_queue m k)))

unfoldable pub collect_in : Memory → ℕ → ℕ → Result
collect_in m k room = checked m (collection m k room)

-- the caller's buffer after a collect with this reply
abbrev pub buffer_after : Reply → List ℕ → List ℕ
buffer_after wrong_memory buffer = buffer
buffer_after (answers (refused r)) buffer = buffer
buffer_after (answers accepted) buffer = buffer
buffer_after (answers idle) buffer = buffer
buffer_after (answers (carried sender id errored age)) buffer = buffer
buffer_after (answers (collected bytes)) buffer = over buffer 0 bytes
