-- A refusal changes nothing; else the runs of the header, one behind the other.
use Rattle.buffers.proofs.Laying.{in_turn_lem}
use Rattle.buffers.specs.Parts.{over}
use Rattle.encoder.proofs.Answers.{answers, refused, done_bare}
use Rattle.operation.specs.Format.{header}
use Rattle.operation.specs.Number.{little_endian}
use Rattle.operation.specs.declared.Operation.TheVariants.{BusError}
use mathlib.Core.List.{[], ◌∷◌, ◌++◌}
use mathlib.Core.Path.{◌≡◌, refl}
use Rattle.encoder.proofs.write_bus_error.Goals as goal

pub returns-in_err-size : goal.returns-in_err-size
returns-in_err-size c =
    let a = c.args in
    let h = refused (BusError a.id a.code a.flag a.sender) a.payload.now a.buffer.now (answers (BusError a.id a.code a.flag a.sender) _ _ c.bus_error_is_legal-lawful.ensures c.decide.ensures.value) c.in_err-size.was c.from_residual.ensures.1 in
    record { answer = h.0; written = h.1 }

pub returns : goal.returns
unfolding header
returns c =
    let a = c.args in
    let e = answers (BusError a.id a.code a.flag a.sender) _ _ c.bus_error_is_legal-lawful.ensures c.in_ok-size.ensures.value in
    let h : c.put.new.buffer ≡ over a.buffer.now 0 (header (BusError a.id a.code a.flag a.sender)) =
    rw (c.put.ensures, c.put_number.ensures, c.put_start.ensures, c.in_ok-size.ensures.accepted.0)
    (in_turn_lem a.buffer.now ((little_endian 4 0x31 ++ little_endian 4 15) ∷ (little_endian 4 a.id) ∷ (a.code ∷ a.flag ∷ a.sender ∷ []) ∷ [])) in
    record { answer = e; written = done_bare (BusError a.id a.code a.flag a.sender) a.payload.now a.buffer.now e refl h }
