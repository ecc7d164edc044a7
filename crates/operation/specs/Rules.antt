-- Believed. The content rules (01, "Operations as bytes": ranges and values of fields; 02, wish 7), one test a rule.
-- Assumes nothing.
use Rattle.std.specs.Prelude.{ℕ, List, [], ◌∷◌, Bool, true, false, cond, ◌&&◌, ◌||◌, leb, eqb}
use Rattle.operation.specs.declared.Operation.{Operation}
use Rattle.operation.specs.declared.Operation.TheVariants.{FormatError, CanTransmit, FdTransmit, XlTransmit, Confirm, ArbitrationLost, BusError, Configuration, Status, Wakeup}

-- every test of a list passes, and so did t before it
unfoldable pub all_after : Bool → List Bool → Bool
all_after t [] = t
all_after t (u ∷ us) = all_after (t && u) us

abbrev pub all : List Bool → Bool
all ts = all_after true ts

-- x is one of the numbers of a list
unfoldable pub one_of : ℕ → List ℕ → Bool
one_of x [] = false
one_of x (y ∷ ys) = eqb x y || one_of x ys

-- the largest 11-bit and 29-bit ID
abbrev pub max_standard_id : ℕ
max_standard_id = 2_047

abbrev pub max_extended_id : ℕ
max_extended_id = 536_870_911

-- the largest ID of a Transmit, by its Ide
abbrev pub max_id : ℕ → ℕ
max_id ide = cond (eqb ide 0) max_standard_id max_extended_id

-- 0 or 1
abbrev pub is_bit : ℕ → Bool
is_bit x = leb x 1

-- the DL of CAN, CAN FD and CAN XL
abbrev pub can_length : ℕ → Bool
can_length dl = leb dl 8

unfoldable pub fd_length : ℕ → Bool
fd_length dl = leb dl 8 || one_of dl (12 ∷ 16 ∷ 20 ∷ 24 ∷ 32 ∷ 48 ∷ 64 ∷ [])

abbrev pub xl_length : ℕ → Bool
xl_length dl = leb 1 dl && leb dl 2_048

-- the values of 000's tables of Error Code (BIT_ERROR to BROKEN_ERROR_FRAME), Error Flag (PRIMARY_ERROR_FLAG,
-- SECONDARY_ERROR_FLAG), Status (ERROR_ACTIVE, ERROR_PASSIVE, BUS_OFF) and Arbitration Lost Behavior
-- (BUFFER_AND_RETRANSMIT, DISCARD_AND_NOTIFY)
abbrev pub error_codes : List ℕ
error_codes = 1 ∷ 2 ∷ 3 ∷ 4 ∷ 5 ∷ 6 ∷ []

abbrev pub error_flags : List ℕ
error_flags = 1 ∷ 2 ∷ []

abbrev pub statuses : List ℕ
statuses = 1 ∷ 2 ∷ 3 ∷ []

abbrev pub behaviours : List ℕ
behaviours = 1 ∷ 2 ∷ []

-- what a Configuration carries: a baud rate that is not 0, or a behaviour
abbrev pub setting_rule : ℕ → ℕ → Bool
setting_rule kind value = cond (eqb kind 4) (one_of value behaviours) (leb 1 value)

-- a remote frame (Rtr 1) has no data field: its DL is 0 (02, wish 7)
abbrev pub remote_rule : ℕ → ℕ → Bool
remote_rule rtr dl = eqb rtr 0 || eqb dl 0

unfoldable pub rules : Operation → List Bool
rules (FormatError n) = []
rules (CanTransmit id ide rtr dl) = is_bit ide ∷ leb id (max_id ide) ∷ is_bit rtr ∷ can_length dl ∷ remote_rule rtr dl ∷ []
rules (FdTransmit id ide brs esi dl) = is_bit ide ∷ leb id (max_id ide) ∷ is_bit brs ∷ is_bit esi ∷ fd_length dl ∷ []
rules (XlTransmit id ide sec sdt vcid af dl) = is_bit ide ∷ leb id (max_id ide) ∷ is_bit sec ∷ xl_length dl ∷ []
rules (Confirm id) = leb id max_extended_id ∷ []
rules (ArbitrationLost id) = leb id max_extended_id ∷ []
rules (BusError id code flag sender) =
    leb id max_extended_id ∷ one_of code error_codes ∷ one_of flag error_flags ∷ is_bit sender ∷ []
rules (Configuration kind value) = leb 1 kind ∷ leb kind 4 ∷ setting_rule kind value ∷ []
rules (Status status) = one_of status statuses ∷ []
rules Wakeup = []

-- the operation meets its content rules
unfoldable pub legal : Operation → Bool
legal op = all (rules op)
