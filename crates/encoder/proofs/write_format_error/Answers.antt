-- A refusal changes nothing; else the runs of the header and the data, one behind the other.
use Rattle.buffers.proofs.Laying.{in_turn_lem}
use Rattle.buffers.specs.Parts.{over}
use Rattle.encoder.proofs.Answers.{format_error-lawful, answers, refused, done}
use Rattle.operation.specs.Format.{header}
use Rattle.operation.specs.Number.{little_endian}
use Rattle.operation.specs.declared.Operation.TheVariants.{FormatError}
use mathlib.Core.List.{[], ◌∷◌, ◌++◌}
use Prim.Native.Nat.{◌+◌}
use mathlib.Core.Path.{◌≡◌}
use Rattle.encoder.proofs.write_format_error.Goals as goal

pub returns-in_err-size : goal.returns-in_err-size
returns-in_err-size c =
    let a = c.args in
    let h = refused (FormatError a.n) a.payload.now a.buffer.now (answers (FormatError a.n) _ _ (format_error-lawful _) c.decide.ensures.value) c.in_err-size.was c.from_residual.ensures.1 in
    record { answer = h.0; written = h.1 }

pub returns : goal.returns
unfolding header
returns c =
    let a = c.args in
    let e = answers (FormatError a.n) _ _ (format_error-lawful _) c.in_ok-size.ensures.value in
    let h : c.put_number.new.buffer ≡ over a.buffer.now 0 (header (FormatError a.n)) =
    rw (c.put_number.ensures, c.from.ensures, c.put_start.ensures, c.in_ok-size.ensures.accepted.0)
    (in_turn_lem a.buffer.now ((little_endian 4 0x01 ++ little_endian 4 (10 + a.n)) ∷ (little_endian 2 a.n) ∷ [])) in
    record { answer = e; written = done (FormatError a.n) a.payload.now a.buffer.now e h c.put.ensures }
