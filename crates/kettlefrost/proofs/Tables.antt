-- The two tables of kinds fit each other: the record of an operation names that operation.
-- Assumes nothing.
use mathlib.Core.Path.{◌≡◌, refl}
use Rattle.std.specs.Prelude.{Some}
use Rattle.operation.specs.declared.Operation.{Operation}
use Rattle.operation.specs.declared.Operation.TheVariants.{FormatError, CanTransmit, FdTransmit, XlTransmit, Confirm, ArbitrationLost, BusError, Configuration, Status, Wakeup}
use Rattle.kettlefrost.specs.Flat.{flat, by_kind, named}
use Rattle.kettlefrost.specs.declared.FlatOperation.{FlatOperation}
use Rattle.operation.specs.Tables.{code_from}
use Rattle.decoder.proofs.Codes.{kind_by, kind_by_code}

pub named_flat : (op : Operation) → named (flat op) ≡ Some op
unfolding named
named_flat (FormatError n) = refl
named_flat (CanTransmit id ide rtr dl) = refl
named_flat (FdTransmit id ide brs esi dl) = refl
named_flat (XlTransmit id ide sec sdt vcid af dl) = refl
named_flat (Confirm id) = refl
named_flat (ArbitrationLost id) = refl
named_flat (BusError id code flag sender) = refl
named_flat (Configuration kind value) = refl
named_flat (Status state) = refl
named_flat Wakeup = refl

pub named_by : (f : FlatOperation) → named f ≡ by_kind (kind_by (code_from f.code)) f
unfolding named
named_by f = rw (kind_by_code f.code refl)
