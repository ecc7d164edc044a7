-- Believed. What stands at the front of some bytes: an operation, or a fault (01, "Operations as bytes", faults 1 to 5).
-- Assumes nothing.
use Rattle.std.specs.Prelude.{ℕ, List, Bool, false, cond, not, ◌&&◌, ◌||◌, leb, ltb, eqb, length, get_or, take, Option, None, Some, Result, Ok, Err}
use Rattle.operation.specs.Number.{number_at}
use Rattle.operation.specs.Format.{length_of}
use Rattle.operation.specs.Rules.{legal}
use Rattle.operation.specs.declared.Operation.{Operation}
use Rattle.operation.specs.declared.Operation.TheVariants.{FormatError, CanTransmit, FdTransmit, XlTransmit, Confirm, ArbitrationLost, BusError, Configuration, Status, Wakeup}
use Rattle.decoder.specs.declared.Fault.{Fault}
use Rattle.decoder.specs.declared.Fault.TheVariants.{TooFewLeft, BadLength, UnknownCode, WrongLength, RuleBroken}
use Rattle.decoder.specs.declared.Front.{Front}

-- the number of a fault in 01
abbrev pub fault_number : Fault → ℕ
fault_number TooFewLeft = 1
fault_number BadLength = 2
fault_number UnknownCode = 3
fault_number WrongLength = 4
fault_number RuleBroken = 5

-- the ten kinds, and what is none of them
pub data Kind : Type 0 where
  format_error can fd xl confirm arbitration_lost bus_error configuration status wakeup unknown : Kind

abbrev pub kind_of : ℕ → Kind
kind_of code =
    cond (eqb code 0x01) format_error
    (cond (eqb code 0x10) can
    (cond (eqb code 0x11) fd
    (cond (eqb code 0x12) xl
    (cond (eqb code 0x20) confirm
    (cond (eqb code 0x30) arbitration_lost
    (cond (eqb code 0x31) bus_error
    (cond (eqb code 0x40) configuration
    (cond (eqb code 0x41) status
    (cond (eqb code 0x42) wakeup
    unknown)))))))))

-- what the bytes of one operation are taken for: the fewest bytes that hold its fields (of a Configuration, its kind),
-- and the operation that the fields make; a byte past the end counts as 0
pub data Shape : Type 0 where
  none : Shape
  holds : ℕ → Operation → Shape

-- what a Configuration carries: one byte for a behaviour, four for a baud rate
abbrev pub setting_of : ℕ → List ℕ → ℕ
setting_of kind t = cond (eqb kind 4) (get_or t 9 0) (number_at 4 t 9)

unfoldable pub shape_of : Kind → List ℕ → Shape
shape_of format_error t = holds 10 (FormatError (number_at 2 t 8))
shape_of can t = holds 16 (CanTransmit (number_at 4 t 8) (get_or t 12 0) (get_or t 13 0) (number_at 2 t 14))
shape_of fd t = holds 17 (FdTransmit (number_at 4 t 8) (get_or t 12 0) (get_or t 13 0) (get_or t 14 0) (number_at 2 t 15))
shape_of xl t =
    holds 22
    (XlTransmit (number_at 4 t 8) (get_or t 12 0) (get_or t 13 0) (get_or t 14 0) (get_or t 15 0) (number_at 4 t 16) (number_at 2 t 20))
shape_of confirm t = holds 12 (Confirm (number_at 4 t 8))
shape_of arbitration_lost t = holds 12 (ArbitrationLost (number_at 4 t 8))
shape_of bus_error t = holds 15 (BusError (number_at 4 t 8) (get_or t 12 0) (get_or t 13 0) (get_or t 14 0))
shape_of configuration t =
    holds 9 (Configuration (get_or t 8 0) (setting_of (get_or t 8 0) t))
shape_of status t = holds 9 (Status (get_or t 8 0))
shape_of wakeup t = holds 8 Wakeup
shape_of unknown t = none

-- ---- fault 4, in 01's words

-- "an operation too short to hold DL, n or kind"
abbrev pub too_short : ℕ → ℕ → Bool
too_short n least = ltb n least

-- "a kind outside 1 to 4", of a Configuration
abbrev pub kind_outside : Operation → Bool
kind_outside (FormatError n) = false
kind_outside (CanTransmit id ide rtr dl) = false
kind_outside (FdTransmit id ide brs esi dl) = false
kind_outside (XlTransmit id ide sec sdt vcid af dl) = false
kind_outside (Confirm id) = false
kind_outside (ArbitrationLost id) = false
kind_outside (BusError id code flag sender) = false
kind_outside (Configuration kind value) = not (leb 1 kind && leb kind 4)
kind_outside (Status value) = false
kind_outside Wakeup = false

-- "length not that of the table for the code and its DL, n or kind"
abbrev pub length_not_of_table : ℕ → Operation → Bool
length_not_of_table n op = not (eqb n (length_of op))

-- ---- what the bytes of one operation are

-- by the tests of length and content: fault 4, fault 5, or what was read
unfoldable pub verdict : {A : Type 0} → Bool → Bool → A → Result A Fault
verdict wrongLength lawful x = cond wrongLength (Err WrongLength) (cond lawful (Ok x) (Err RuleBroken))

-- an operation of n bytes: fault 3, 4 or 5, or the operation
unfoldable pub judge : ℕ → Shape → Result Operation Fault
judge n none = Err UnknownCode
judge n (holds least op) = verdict (too_short n least || kind_outside op || length_not_of_table n op) (legal op) op

-- the length field
abbrev pub stated_length : List ℕ → ℕ
stated_length s = number_at 4 s 4

-- the bytes of one operation, by its code
unfoldable pub decode : List ℕ → Result Operation Fault
decode t = judge (length t) (shape_of (kind_of (number_at 4 t 0)) t)

-- the length of the operation that what remains of a buffer starts with; none where it is not all there
unfoldable pub whole_length : List ℕ → Option ℕ
whole_length s =
    cond (ltb (length s) 8) None
    (cond (ltb (stated_length s) 8) None
    (cond (ltb (length s) (stated_length s)) None (Some (stated_length s))))

-- what stands at the front, with the number of bytes that it takes up
abbrev pub sized : Result Operation Fault → ℕ → Front
sized item size = record { item = item; size = size }

-- the front of what remains of a buffer: none at the end, fault 1 or 2, which take up all of it, or what the bytes of the
-- stated length are
unfoldable pub front : List ℕ → Option Front
front s =
    cond (eqb (length s) 0) None
    (cond (ltb (length s) 8) (Some (sized (Err TooFewLeft) (length s)))
    (cond (ltb (stated_length s) 8) (Some (sized (Err BadLength) (length s)))
    (cond (ltb (length s) (stated_length s)) (Some (sized (Err BadLength) (length s)))
    (Some (sized (decode (take (stated_length s) s)) (stated_length s))))))

-- how many bytes are taken up
abbrev pub taken : Option Front → ℕ
taken None = 0
taken (Some f) = f.size
