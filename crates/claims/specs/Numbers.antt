-- Believed. The refusals of each call, a row a number, in the order in which they are tried (01, "Numbers that calls answer with").
-- Assumes nothing.
use Rattle.std.specs.Prelude.{ℕ, List, [], ◌∷◌, Option, Some, None, Bool, true, false, cond, not, ◌&&◌, leb, ltb, eqb, length}
use Rattle.operation.specs.declared.Operation.{Operation}
use Rattle.operation.specs.Format.{data_length, length_of}
use Rattle.operation.specs.Rules.{legal}
use Rattle.decoder.specs.Stream.{items_of}
use Rattle.plain_bus.specs.Held.{Bus, last_round, attached, node_at, all_have_room}
use Rattle.plain_bus.specs.Refusal.{number_of}
use Rattle.plain_bus.specs.Submit.{Step, done, fails, take_items}
use Rattle.plain_bus.specs.Order.{Winner, nobody, wins, winner}
use Rattle.plain_bus.specs.Round.{Injection, owed}
use Rattle.plain_bus.specs.Calls.{max_submit, wrong_injection}
use Rattle.plain_bus.specs.Register.{Register, valid_register, Update, updated, rejected, updates, enter_item, read_item}
use Rattle.plain_bus.specs.Session.{Call, submission, round, collection}
use Rattle.bus_state.specs.Memory.{Memory, view, lent_well}
use Rattle.bus_state.specs.Valid.{valid_state}

-- a number, and whether it applies. The first that applies is given, and 0 where none does
abbrev pub Rows : Type 0
Rows = List (ℕ × Bool)

unfoldable pub first_row : Rows → ℕ
first_row [] = 0
first_row (r ∷ rs) = cond r.1 r.0 (first_row rs)

-- ---- the bus

abbrev pub start_rows : Memory → ℕ → Rows
start_rows m count = (1, not (lent_well m)) ∷ (2, not (leb 2 count && leb count 8)) ∷ []

-- the number of the first step of a buffer that fails
abbrev pub step_number : Step → ℕ
step_number (done b) = 0
step_number (fails r) = number_of r

abbrev pub is_idle : Winner → Bool
is_idle nobody = true
is_idle (wins w) = false

-- whether every queue has room for what a round owes it
abbrev pub room_for : Injection → Winner → Bus → Bool
room_for e nobody b = true
room_for e (wins w) b = all_have_room (owed e w) b

-- 8 against 9 goes by the first step that fails; idle, which is number 0, is decided after 6 and before 9
unfoldable pub plain_rows : Bus → Call → Rows
plain_rows b (submission k buffer) =
    let s = step_number (take_items k (items_of buffer) (done b)) in
    (4, not (attached b k)) ∷ (5, ltb max_submit (length buffer)) ∷ (8, eqb s 8) ∷ (9, eqb s 9) ∷ []
plain_rows b (round e) =
    (6, wrong_injection b e)
    ∷ (0, is_idle (winner b)) ∷ (9, not (room_for e (winner b) b)) ∷ (10, leb last_round b.round) ∷ []
plain_rows b (collection k room) = (4, not (attached b k)) ∷ (11, ltb room (length (node_at b k).queue)) ∷ []

-- of submit, round and collect
abbrev pub call_rows : Memory → Call → Rows
call_rows m c = (1, not (lent_well m)) ∷ (3, not (valid_state m.state m.slots)) ∷ plain_rows (view m) c

-- ---- writing

-- whether so many data bytes can be written with what a record names: an operation that meets its rules, with as many bytes as it says
abbrev pub can_write : Option Operation → ℕ → Bool
can_write None given = false
can_write (Some op) given = legal op && eqb given (data_length op) && leb given 65_535

-- whether it fits into a buffer of so many bytes
abbrev pub fits_in : Option Operation → ℕ → Bool
fits_in None room = true
fits_in (Some op) room = leb (length_of op) room

abbrev pub write_rows : Option Operation → ℕ → ℕ → Rows
write_rows n given room = (7, not (can_write n given)) ∷ (11, not (fits_in n room)) ∷ []

-- ---- the register: the steps of entering are rejected by 12 only, and those of reading by 13

abbrev pub is_rejected : Update → Bool
is_rejected (updated r) = false
is_rejected (rejected x) = true

abbrev pub enter_rows : Register → List ℕ → Rows
enter_rows r buffer = (3, not (valid_register r)) ∷ (12, is_rejected (updates enter_item (items_of buffer) (updated r))) ∷ []

abbrev pub read_rows : Register → List ℕ → Rows
read_rows r buffer = (3, not (valid_register r)) ∷ (13, is_rejected (updates read_item (items_of buffer) (updated r))) ∷ []
