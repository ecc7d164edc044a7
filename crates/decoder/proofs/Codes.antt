-- The kind of a code, by the table of codes that operation has.
-- Assumes nothing.
use mathlib.Core.Path.{◌≡◌, refl, sym, ◌∙◌, ap}
use mathlib.Core.Bool.{Bool, true, false, cond}
use Prim.Native.Nat.{ℕ}
use Rattle.std.specs.Prelude.{Result, Ok, Err}
use Rattle.operation.specs.declared.Code.{Code}
use Rattle.operation.specs.declared.Code.TheVariants as code
use Rattle.operation.specs.declared.NotInTable.{NotInTable}
use Rattle.operation.specs.Tables.{code_from}
use Rattle.decoder.specs.Front.{Kind, format_error, can, fd, xl, confirm, arbitration_lost, bus_error, configuration, status, wakeup, unknown, kind_of}

abbrev pub kind_by : Result Code NotInTable → Kind
kind_by (Ok code.FormatError) = format_error
kind_by (Ok code.CanTransmit) = can
kind_by (Ok code.FdTransmit) = fd
kind_by (Ok code.XlTransmit) = xl
kind_by (Ok code.Confirm) = confirm
kind_by (Ok code.ArbitrationLost) = arbitration_lost
kind_by (Ok code.BusError) = bus_error
kind_by (Ok code.Configuration) = configuration
kind_by (Ok code.Status) = status
kind_by (Ok code.Wakeup) = wakeup
kind_by (Err e) = unknown

kind_by-cond : (b : Bool) (r s : Result Code NotInTable) → kind_by (cond b r s) ≡ cond b (kind_by r) (kind_by s)
kind_by-cond true r s = refl
kind_by-cond false r s = refl

pub kind_by_code : (x : ℕ) {r : Result Code NotInTable} → code_from x ≡ r → kind_of x ≡ kind_by r
kind_by_code x e = sym (simp kind_by-cond) ∙ ap kind_by e
