-- A refusal changes nothing; else the runs of the header and the data, one behind the other.
use Rattle.buffers.proofs.Laying.{in_turn_lem}
use Rattle.buffers.specs.Parts.{over}
use Rattle.encoder.proofs.Answers.{answers, refused, done}
use Rattle.operation.specs.Format.{header}
use Rattle.operation.specs.Number.{little_endian}
use Rattle.operation.specs.declared.Operation.TheVariants.{FdTransmit}
use mathlib.Core.List.{[], ◌∷◌, ◌++◌}
use Prim.Native.Nat.{◌+◌}
use mathlib.Core.Path.{◌≡◌}
use Rattle.encoder.proofs.write_fd.Goals as goal

pub returns-in_err-size : goal.returns-in_err-size
returns-in_err-size c =
    let a = c.args in
    let h = refused (FdTransmit a.id a.ide a.brs a.esi a.dl) a.payload.now a.buffer.now (answers (FdTransmit a.id a.ide a.brs a.esi a.dl) _ _ c.fd_is_legal-lawful.ensures c.decide.ensures.value) c.in_err-size.was c.from_residual.ensures.1 in
    record { answer = h.0; written = h.1 }

pub returns : goal.returns
unfolding header
returns c =
    let a = c.args in
    let e = answers (FdTransmit a.id a.ide a.brs a.esi a.dl) _ _ c.fd_is_legal-lawful.ensures c.in_ok-size.ensures.value in
    let h : c.put_number-2.new.buffer ≡ over a.buffer.now 0 (header (FdTransmit a.id a.ide a.brs a.esi a.dl)) =
    rw (c.put_number-2.ensures, c.from.ensures, c.put.ensures, c.put_number.ensures, c.put_start.ensures, c.in_ok-size.ensures.accepted.0)
    (in_turn_lem a.buffer.now ((little_endian 4 0x11 ++ little_endian 4 (17 + a.dl)) ∷ (little_endian 4 a.id) ∷ (a.ide ∷ a.brs ∷ a.esi ∷ []) ∷ (little_endian 2 a.dl) ∷ [])) in
    record { answer = e; written = done (FdTransmit a.id a.ide a.brs a.esi a.dl) a.payload.now a.buffer.now e h c.put-2.ensures }
