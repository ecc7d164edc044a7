-- A refusal changes nothing; else the runs of the header, one behind the other.
use Rattle.buffers.proofs.Laying.{in_turn_lem}
use Rattle.buffers.specs.Parts.{over}
use Rattle.encoder.proofs.Answers.{wakeup-lawful, answers, refused, done_bare}
use Rattle.operation.specs.Format.{header}
use Rattle.operation.specs.Number.{little_endian}
use Rattle.operation.specs.declared.Operation.TheVariants.{Wakeup}
use mathlib.Core.List.{[], ◌∷◌, ◌++◌}
use mathlib.Core.Path.{◌≡◌, refl}
use Rattle.encoder.proofs.write_wakeup.Goals as goal

pub returns-in_err-size : goal.returns-in_err-size
returns-in_err-size c =
    let a = c.args in
    let h = refused Wakeup a.payload.now a.buffer.now (answers Wakeup _ _ wakeup-lawful c.decide.ensures.value) c.in_err-size.was c.from_residual.ensures.1 in
    record { answer = h.0; written = h.1 }

pub returns : goal.returns
unfolding header
returns c =
    let a = c.args in
    let e = answers Wakeup _ _ wakeup-lawful c.in_ok-size.ensures.value in
    let h : c.put_start.new.buffer ≡ over a.buffer.now 0 (header Wakeup) =
    rw (c.put_start.ensures, c.in_ok-size.ensures.accepted.0)
    (in_turn_lem a.buffer.now ((little_endian 4 0x42 ++ little_endian 4 8) ∷ [])) in
    record { answer = e; written = done_bare Wakeup a.payload.now a.buffer.now e refl h }
