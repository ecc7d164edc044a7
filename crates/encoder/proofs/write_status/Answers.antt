-- A refusal changes nothing; else the runs of the header, one behind the other.
use Rattle.buffers.proofs.Laying.{in_turn_lem}
use Rattle.buffers.specs.Parts.{over}
use Rattle.encoder.proofs.Answers.{answers, refused, done_bare}
use Rattle.operation.specs.Format.{header}
use Rattle.operation.specs.Number.{little_endian}
use Rattle.operation.specs.declared.Operation.TheVariants.{Status}
use mathlib.Core.List.{[], ◌∷◌, ◌++◌}
use mathlib.Core.Path.{◌≡◌, refl}
use Rattle.encoder.proofs.write_status.Goals as goal

pub returns-in_err-size : goal.returns-in_err-size
returns-in_err-size c =
    let a = c.args in
    let h = refused (Status a.status) a.payload.now a.buffer.now (answers (Status a.status) _ _ c.status_is_legal-lawful.ensures c.decide.ensures.value) c.in_err-size.was c.from_residual.ensures.1 in
    record { answer = h.0; written = h.1 }

pub returns : goal.returns
unfolding header
returns c =
    let a = c.args in
    let e = answers (Status a.status) _ _ c.status_is_legal-lawful.ensures c.in_ok-size.ensures.value in
    let h : c.put.new.buffer ≡ over a.buffer.now 0 (header (Status a.status)) =
    rw (c.put.ensures, c.put_start.ensures, c.in_ok-size.ensures.accepted.0)
    (in_turn_lem a.buffer.now ((little_endian 4 0x41 ++ little_endian 4 9) ∷ (a.status ∷ []) ∷ [])) in
    record { answer = e; written = done_bare (Status a.status) a.payload.now a.buffer.now e refl h }
