-- The number of each call of the plain bus, and of its registers, is that of the first row of 01's table that applies.
-- Assumes nothing.
use mathlib.Core.Path.{◌≡◌, refl, ap}
use Prim.Native.Nat.{ℕ}
use mathlib.Core.Logic.{◌⊎◌, inl, inr}
use mathlib.Core.Bool.{Bool, true, false, cond, not}
use mathlib.Core.List.{List, [], ◌∷◌}
use lib.Dec.{leb, ltb, eqb}
use lib.ListN.{length}
use Rattle.operation.specs.declared.Operation.{Operation}
use Rattle.operation.specs.declared.Operation.TheVariants.{FormatError, CanTransmit, FdTransmit, XlTransmit, Confirm, ArbitrationLost, BusError, Configuration, Status, Wakeup}
use Rattle.operation.specs.Kinds.{id_of}
use Rattle.decoder.specs.Stream.{Item, operation, fault, items_of}
use Rattle.plain_bus.specs.Closing.{closes}
use Rattle.plain_bus.specs.Held.{Bus, max_pending, last_round, is_off, with_queue, attached, node_at, with_node, has_room, all_have_room}
use Rattle.plain_bus.specs.Refusal.{not_attached, buffer_too_long, bad_injection, four_pending, queue_full, rounds_used_up, room_too_small, RegisterRefusal, register_number, invalid_register, register_full, register_differs}
use Rattle.plain_bus.specs.Submit.{Step, done, fails, take_transmit, wakeup_for, take_wakeup, format_error, answer_format_error, unanswered, take_item, take_items}
use Rattle.plain_bus.specs.Order.{Entry, Winner, nobody, wins, winner}
use Rattle.plain_bus.specs.Round.{Injection, is_errored, winner_id, owed, after_round, age}
use Rattle.plain_bus.specs.Calls.{carried, collected, answer_number, gives, refuses, max_submit, taken_whole, submit, wrong_injection, arbitrate, run_round, collect}
use Rattle.plain_bus.specs.Register.{Register, max_open, valid_register, Update, updated, rejected, update_number, updates, open_id, enter_item, enter, is_open, close_id, read_item, read}
use Rattle.plain_bus.specs.Session as session
use Rattle.claims.specs.Numbers.{first_row, step_number, is_idle, room_for, plain_rows, is_rejected, enter_rows, read_rows}

-- ---- the bus

-- a step fails by 8 or 9 only
abbrev ByStep : Step → Type 0
ByStep (done b) = Unit {0}
ByStep (fails r) = (r ≡ four_pending) ⊎ (r ≡ queue_full)

step_either : (t : Bool) (x y : Step) → ByStep x → ByStep y → ByStep (cond t x y)
step_either true x y p q = p
step_either false x y p q = q

transmit_step : (b : Bus) (k : ℕ) (op : Operation) (bytes : List ℕ) → ByStep (take_transmit b k op bytes)
unfolding take_transmit
transmit_step b k op bytes =
    step_either (is_off (node_at b k)) _ _ tt (step_either (leb max_pending (length (node_at b k).pending)) _ _ (inl refl) tt)

answer_step : (b : Bus) (k : ℕ) (bytes : List ℕ) → ByStep (answer_format_error b k bytes)
unfolding answer_format_error
answer_step b k bytes = step_either (has_room (node_at b k) (format_error bytes)) _ _ tt (inr refl)

wakeup_step : (b : Bus) (k : ℕ) → ByStep (take_wakeup b k)
unfolding take_wakeup
wakeup_step b k = step_either (is_off (node_at b k)) _ _ tt (step_either (all_have_room (wakeup_for k) b) _ _ tt (inr refl))

item_step_lem : (b : Bus) (k : ℕ) (i : Item) → ByStep (take_item b k i)
unfolding take_item
item_step_lem b k (operation (FormatError n) bytes) = tt
item_step_lem b k (operation (CanTransmit id ide rtr dl) bytes) = transmit_step b k (CanTransmit id ide rtr dl) bytes
item_step_lem b k (operation (FdTransmit id ide brs esi dl) bytes) = transmit_step b k (FdTransmit id ide brs esi dl) bytes
item_step_lem b k (operation (XlTransmit id ide sec sdt vcid af dl) bytes) =
    transmit_step b k (XlTransmit id ide sec sdt vcid af dl) bytes
item_step_lem b k (operation (Confirm id) bytes) = answer_step b k bytes
item_step_lem b k (operation (ArbitrationLost id) bytes) = answer_step b k bytes
item_step_lem b k (operation (BusError id code flag sender) bytes) = answer_step b k bytes
item_step_lem b k (operation (Configuration kind value) bytes) = tt
item_step_lem b k (operation (Status status) bytes) = tt
item_step_lem b k (operation Wakeup bytes) = wakeup_step b k
item_step_lem b k (fault number bytes) = step_either (unanswered bytes) _ _ tt (answer_step b k bytes)

items_step : (k : ℕ) (is : List Item) (s : Step) → ByStep s → ByStep (take_items k is s)
unfolding take_items
items_step k [] s p = p
items_step k (i ∷ is) (fails r) p = p
items_step k (i ∷ is) (done b) p = items_step k is (take_item b k i) (item_step_lem b k i)

submit-number : (b : Bus) (k : ℕ) (buffer : List ℕ)
    → answer_number (submit b k buffer).answer ≡ first_row (plain_rows b (session.submission k buffer))
unfolding submit plain_rows first_row
submit-number b k buffer =
    go (attached b k) (ltb max_submit (length buffer)) (take_items k (items_of buffer) (done b))
    (items_step k (items_of buffer) (done b) tt)
  where
    go : (t u : Bool) (s : Step) → ByStep s
        → answer_number (cond (not t) (refuses not_attached b) (cond u (refuses buffer_too_long b) (taken_whole b s))).answer
        ≡ cond (not t) 4 (cond u 5 (cond (eqb (step_number s) 8) 8 (cond (eqb (step_number s) 9) 9 0)))
    go false u s p = refl
    go true true s p = refl
    go true false (done c) p = refl
    go true false (fails r) (inl e) = rw e
    go true false (fails r) (inr e) = rw e

round_number : (b : Bus) (e : Injection) → answer_number (run_round b e).answer ≡ first_row (plain_rows b (session.round e))
unfolding run_round arbitrate plain_rows first_row
round_number b e = go (wrong_injection b e) (winner b)
  where
    won : (w : Entry) (t u : Bool)
        → answer_number
        (cond (not t) (refuses queue_full b)
        (cond u (refuses rounds_used_up b)
        (gives (carried w.owner (winner_id w) (is_errored e) (age b w)) (after_round e w b)))).answer
        ≡ cond (not t) 9 (cond u 10 0)
    won w true true = refl
    won w true false = refl
    won w false u = refl

    go : (t : Bool) (x : Winner)
        → answer_number (cond t (refuses bad_injection b) (arbitrate b e x)).answer
        ≡ cond t 6 (cond (is_idle x) 0 (cond (not (room_for e x b)) 9 (cond (leb last_round b.round) 10 0)))
    go true x = refl
    go false nobody = refl
    go false (wins w) = won w (all_have_room (owed e w) b) (leb last_round b.round)

collect-number : (b : Bus) (k room : ℕ)
    → answer_number (collect b k room).answer ≡ first_row (plain_rows b (session.collection k room))
unfolding collect plain_rows first_row
collect-number b k room = go (attached b k) (ltb room (length (node_at b k).queue))
  where
    go : (t u : Bool)
        → answer_number
        (cond (not t) (refuses not_attached b)
        (cond u (refuses room_too_small b)
        (gives (collected (node_at b k).queue) (with_node b k (with_queue (node_at b k) []))))).answer
        ≡ cond (not t) 4 (cond u 11 0)
    go false u = refl
    go true true = refl
    go true false = refl

pub plain_number : (b : Bus) (c : session.Call) → answer_number (session.call b c).answer ≡ first_row (plain_rows b c)
unfolding session.call
plain_number b (session.submission k buffer) = submit-number b k buffer
plain_number b (session.round e) = round_number b e
plain_number b (session.collection k room) = collect-number b k room

-- ---- the register

-- rejected by x only
abbrev Only : RegisterRefusal → Update → Type 0
Only x (updated r) = Unit {0}
Only x (rejected y) = y ≡ x

only_either : (x : RegisterRefusal) (t : Bool) (u v : Update) → Only x u → Only x v → Only x (cond t u v)
only_either x true u v p q = p
only_either x false u v p q = q

open_only : (r : Register) (id : ℕ) → Only register_full (open_id r id)
unfolding open_id
open_only r id =
    only_either register_full r.off _ _ tt (only_either register_full (leb max_open (length r.opened)) _ _ refl tt)

enter_only : (r : Register) (i : Item) → Only register_full (enter_item r i)
unfolding enter_item
enter_only r (operation (FormatError n) bytes) = tt
enter_only r (operation (CanTransmit id ide rtr dl) bytes) = open_only r id
enter_only r (operation (FdTransmit id ide brs esi dl) bytes) = open_only r id
enter_only r (operation (XlTransmit id ide sec sdt vcid af dl) bytes) = open_only r id
enter_only r (operation (Confirm id) bytes) = tt
enter_only r (operation (ArbitrationLost id) bytes) = tt
enter_only r (operation (BusError id code flag sender) bytes) = tt
enter_only r (operation (Configuration kind value) bytes) = tt
enter_only r (operation (Status status) bytes) = tt
enter_only r (operation Wakeup bytes) = tt
enter_only r (fault number bytes) = tt

read_only : (r : Register) (i : Item) → Only register_differs (read_item r i)
unfolding read_item close_id
read_only r (operation op bytes) =
    only_either register_differs (closes op) _ _ (only_either register_differs (is_open (id_of op) r.opened) _ _ tt refl) tt
read_only r (fault number bytes) = tt

updates_only : (x : RegisterRefusal) (step : Register → Item → Update) → ((r : Register) (i : Item) → Only x (step r i))
    → (is : List Item) (u : Update) → Only x u → Only x (updates step is u)
unfolding updates
updates_only x step o [] u p = p
updates_only x step o (i ∷ is) (rejected y) p = p
updates_only x step o (i ∷ is) (updated r) p = updates_only x step o is (step r i) (o r i)

-- 3 stands before it
valid-number : (x : RegisterRefusal) (t : Bool) (u : Update) → Only x u
    → update_number (cond t u (rejected invalid_register)) ≡ first_row ((3, not t) ∷ (register_number x, is_rejected u) ∷ [])
unfolding first_row
valid-number x false u p = refl
valid-number x true (updated r) p = refl
valid-number x true (rejected y) p = ap register_number p

pub enter-number : (r : Register) (buffer : List ℕ) → update_number (enter r buffer) ≡ first_row (enter_rows r buffer)
unfolding enter
enter-number r buffer =
    valid-number register_full (valid_register r) (updates enter_item (items_of buffer) (updated r))
    (updates_only register_full enter_item enter_only (items_of buffer) (updated r) tt)

pub read_number : (r : Register) (buffer : List ℕ) → update_number (read r buffer) ≡ first_row (read_rows r buffer)
unfolding read
read_number r buffer =
    valid-number register_differs (valid_register r) (updates read_item (items_of buffer) (updated r))
    (updates_only register_differs read_item read_only (items_of buffer) (updated r) tt)
