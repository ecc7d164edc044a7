-- Believed. Which operations carry a frame, and which ID they name (01, "Operations as bytes").
-- Assumes nothing.
use Rattle.std.specs.Prelude.{ℕ, Bool, true, false}
use Rattle.operation.specs.declared.Operation.{Operation}
use Rattle.operation.specs.declared.Operation.TheVariants.{FormatError, CanTransmit, FdTransmit, XlTransmit, Confirm, ArbitrationLost, BusError, Configuration, Status, Wakeup}

abbrev pub is_transmit : Operation → Bool
is_transmit (FormatError n) = false
is_transmit (CanTransmit id ide rtr dl) = true
is_transmit (FdTransmit id ide brs esi dl) = true
is_transmit (XlTransmit id ide sec sdt vcid af dl) = true
is_transmit (Confirm id) = false
is_transmit (ArbitrationLost id) = false
is_transmit (BusError id code flag sender) = false
is_transmit (Configuration kind value) = false
is_transmit (Status status) = false
is_transmit Wakeup = false

-- the ID, and 0 where there is none
abbrev pub id_of : Operation → ℕ
id_of (FormatError n) = 0
id_of (CanTransmit id ide rtr dl) = id
id_of (FdTransmit id ide brs esi dl) = id
id_of (XlTransmit id ide sec sdt vcid af dl) = id
id_of (Confirm id) = id
id_of (ArbitrationLost id) = id
id_of (BusError id code flag sender) = id
id_of (Configuration kind value) = 0
id_of (Status status) = 0
id_of Wakeup = 0
