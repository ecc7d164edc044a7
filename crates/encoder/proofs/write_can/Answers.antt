-- A refusal changes nothing; else the runs of the header and the data, one behind the other.
use Rattle.buffers.proofs.Laying.{in_turn_lem}
use Rattle.buffers.specs.Parts.{over}
use Rattle.encoder.proofs.Answers.{answers, refused, done}
use Rattle.operation.specs.Format.{header}
use Rattle.operation.specs.Number.{little_endian}
use Rattle.operation.specs.declared.Operation.TheVariants.{CanTransmit}
use mathlib.Core.List.{[], ◌∷◌, ◌++◌}
use Prim.Native.Nat.{◌+◌}
use mathlib.Core.Path.{◌≡◌}
use Rattle.encoder.proofs.write_can.Goals as goal

pub returns-in_err-size : goal.returns-in_err-size
returns-in_err-size c =
    let a = c.args in
    let h = refused (CanTransmit a.id a.ide a.rtr a.dl) a.payload.now a.buffer.now (answers (CanTransmit a.id a.ide a.rtr a.dl) _ _ c.can_is_legal-lawful.ensures c.decide.ensures.value) c.in_err-size.was c.from_residual.ensures.1 in
    record { answer = h.0; written = h.1 }

pub returns : goal.returns
unfolding header
returns c =
    let a = c.args in
    let e = answers (CanTransmit a.id a.ide a.rtr a.dl) _ _ c.can_is_legal-lawful.ensures c.in_ok-size.ensures.value in
    let h : c.put_number-2.new.buffer ≡ over a.buffer.now 0 (header (CanTransmit a.id a.ide a.rtr a.dl)) =
    rw (c.put_number-2.ensures, c.from.ensures, c.put.ensures, c.put_number.ensures, c.put_start.ensures, c.in_ok-size.ensures.accepted.0)
    (in_turn_lem a.buffer.now ((little_endian 4 0x10 ++ little_endian 4 (16 + a.dl)) ∷ (little_endian 4 a.id) ∷ (a.ide ∷ a.rtr ∷ []) ∷ (little_endian 2 a.dl) ∷ [])) in
    record { answer = e; written = done (CanTransmit a.id a.ide a.rtr a.dl) a.payload.now a.buffer.now e h c.put-2.ensures }
