-- Believed. The register that a node keeps of its open frames (01: the book, "The book").
-- Assumes nothing.
use Rattle.std.specs.Prelude.{ℕ, List, [], ◌∷◌, ◌++◌, Bool, true, false, cond, not, ◌&&◌, ◌||◌, leb, eqb, length}
use Rattle.operation.specs.Rules.{max_extended_id}
use Rattle.operation.specs.declared.Operation.TheVariants.{FormatError, CanTransmit, FdTransmit, XlTransmit, Confirm, ArbitrationLost, BusError, Configuration, Status, Wakeup}
use Rattle.decoder.specs.Stream.{Item, operation, fault, items_of}
use Rattle.operation.specs.Kinds.{id_of}
use Rattle.plain_bus.specs.Closing.{closes}
use Rattle.plain_bus.specs.Held.{bus_off}
use Rattle.plain_bus.specs.Refusal.{RegisterRefusal, register_number, invalid_register, register_full, register_differs}

-- the open ID numbers, repeats allowed, and whether the node is Bus-Off
pub record Register : Type 0 where
  pub opened : List ℕ
  pub off : Bool

-- 4 pending frames and 341 closing operations of twelve bytes in a queue
abbrev pub max_open : ℕ
max_open = 345

abbrev pub with_opened : Register → List ℕ → Register
with_opened r x = record { opened = x; off = r.off }

abbrev pub new_register : Register
new_register = record { opened = []; off = false }

-- ---- validity

unfoldable pub none_above : ℕ → List ℕ → Bool
none_above limit [] = true
none_above limit (x ∷ xs) = leb x limit && none_above limit xs

-- at most 345 IDs, none above the largest, and none when Bus-Off
unfoldable pub valid_register : Register → Bool
valid_register r =
    leb (length r.opened) max_open
    && none_above max_extended_id r.opened
    && (not r.off || eqb (length r.opened) 0)

-- what a register call gives, and each of its steps: the register after it (number 0), or the refusal
pub data Update : Type 0 where
  updated : Register → Update
  rejected : RegisterRefusal → Update

-- the number that 01 gives, and the register after a call that found it as r: a refusal hands it back as it was
abbrev pub update_number : Update → ℕ
update_number (updated r) = 0
update_number (rejected x) = register_number x

abbrev pub register_after : Register → Update → Register
register_after r (updated r') = r'
register_after r (rejected x) = r

-- a step an item, one by one: the first that is rejected decides
unfoldable pub updates : (Register → Item → Update) → List Item → Update → Update
updates step [] u = u
updates step (i ∷ is) (rejected x) = rejected x
updates step (i ∷ is) (updated r) = updates step is (step r i)

-- a call on a register that is not valid is refused by 3, before all else
abbrev pub if_valid : Register → Update → Update
if_valid r u = cond (valid_register r) u (rejected invalid_register)

-- ---- entering a submitted buffer

-- a Transmit adds its ID at the end, unless Bus-Off; a 346th is refused by 12
unfoldable pub open_id : Register → ℕ → Update
open_id r id =
    cond r.off (updated r)
    (cond (leb max_open (length r.opened)) (rejected register_full) (updated (with_opened r (r.opened ++ id ∷ []))))

-- a Status sets whether the node is Bus-Off, and Status Bus-Off empties the list
unfoldable pub with_off : Register → Bool → Register
with_off r true = record { opened = []; off = true }
with_off r false = record { opened = r.opened; off = false }

unfoldable pub note_status : Register → ℕ → Register
note_status r status = with_off r (eqb status bus_off)

unfoldable pub enter_item : Register → Item → Update
enter_item r (operation (FormatError n) bytes) = updated r
enter_item r (operation (CanTransmit id ide rtr dl) bytes) = open_id r id
enter_item r (operation (FdTransmit id ide brs esi dl) bytes) = open_id r id
enter_item r (operation (XlTransmit id ide sec sdt vcid af dl) bytes) = open_id r id
enter_item r (operation (Confirm id) bytes) = updated r
enter_item r (operation (ArbitrationLost id) bytes) = updated r
enter_item r (operation (BusError id code flag sender) bytes) = updated r
enter_item r (operation (Configuration kind value) bytes) = updated r
enter_item r (operation (Status status) bytes) = updated (note_status r status)
enter_item r (operation Wakeup bytes) = updated r
enter_item r (fault number bytes) = updated r

unfoldable pub enter : Register → List ℕ → Update
enter r buffer = if_valid r (updates enter_item (items_of buffer) (updated r))

-- ---- reading a collected buffer

unfoldable pub is_open : ℕ → List ℕ → Bool
is_open id [] = false
is_open id (x ∷ xs) = eqb x id || is_open id xs

-- without the first equal ID, the rest keeping their order
unfoldable pub remove : ℕ → List ℕ → List ℕ
remove id [] = []
remove id (x ∷ xs) = cond (eqb x id) xs (x ∷ remove id xs)

-- a closing operation takes its ID out; one with no such ID open is refused by 13
unfoldable pub close_id : Register → ℕ → Update
close_id r id = cond (is_open id r.opened) (updated (with_opened r (remove id r.opened))) (rejected register_differs)

unfoldable pub read_item : Register → Item → Update
read_item r (operation op bytes) = cond (closes op) (close_id r (id_of op)) (updated r)
read_item r (fault number bytes) = updated r

unfoldable pub read : Register → List ℕ → Update
read r buffer = if_valid r (updates read_item (items_of buffer) (updated r))
