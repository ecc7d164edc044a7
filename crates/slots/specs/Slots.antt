-- Believed. The pending slot (01: a place): what a slot holds of a Transmit.
-- Assumes nothing.
use Rattle.std.specs.Prelude.{ℕ, Bool, false, cond, eqb, Option, Some, None}
use Rattle.operation.specs.Rules.{legal}
use Rattle.operation.specs.declared.Operation.{Operation}
use Rattle.operation.specs.declared.Operation.TheVariants.{CanTransmit, FdTransmit, XlTransmit, Wakeup}
use Rattle.slots.specs.declared.Slot.{Slot}

abbrev pub slot_row : (accepted id af length kind owner first second third fourth : ℕ) → Slot
slot_row accepted id af length kind owner first second third fourth = record {
  accepted = accepted;
  id = id;
  af = af;
  length = length;
  kind = kind;
  owner = owner;
  first = first;
  second = second;
  third = third;
  fourth = fourth;
}

-- a slot that holds nothing
abbrev pub free_slot : Slot
free_slot = slot_row 0 0 0 0 0 0 0 0 0 0

-- the Transmit that a slot holds, by its kind: the code of the Transmit, or 0
unfoldable pub content_of : Slot → Option Operation
content_of s =
    cond (eqb s.kind 0x10) (Some (CanTransmit s.id s.first s.second s.length))
    (cond (eqb s.kind 0x11) (Some (FdTransmit s.id s.first s.second s.third s.length))
    (cond (eqb s.kind 0x12) (Some (XlTransmit s.id s.first s.second s.third s.fourth s.af s.length))
    None))

-- what is held, and Wakeup where nothing is
abbrev pub held_in : Option Operation → Operation
held_in None = Wakeup
held_in (Some op) = op

-- a frame that meets the content rules
abbrev pub legal_content : Option Operation → Bool
legal_content None = false
legal_content (Some op) = legal op
