-- Believed. Which operations close an open frame (01, "The book").
-- Assumes nothing.
use Rattle.std.specs.Prelude.{Bool, true, false, eqb}
use Rattle.operation.specs.declared.Operation.{Operation}
use Rattle.operation.specs.declared.Operation.TheVariants.{FormatError, CanTransmit, FdTransmit, XlTransmit, Confirm, ArbitrationLost, BusError, Configuration, Status, Wakeup}

-- a closing operation: Confirm, Arbitration Lost, or Bus Error with Is Sender 1
abbrev pub closes : Operation → Bool
closes (FormatError n) = false
closes (CanTransmit id ide rtr dl) = false
closes (FdTransmit id ide brs esi dl) = false
closes (XlTransmit id ide sec sdt vcid af dl) = false
closes (Confirm id) = true
closes (ArbitrationLost id) = true
closes (BusError id code flag sender) = eqb sender 1
closes (Configuration kind value) = false
closes (Status status) = false
closes Wakeup = false
