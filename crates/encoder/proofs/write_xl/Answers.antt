-- A refusal changes nothing; else the runs of the header and the data, one behind the other.
use Rattle.buffers.proofs.Laying.{in_turn_lem}
use Rattle.buffers.specs.Parts.{over}
use Rattle.encoder.proofs.Answers.{answers, refused, done}
use Rattle.operation.specs.Format.{header}
use Rattle.operation.specs.Number.{little_endian}
use Rattle.operation.specs.declared.Operation.TheVariants.{XlTransmit}
use mathlib.Core.List.{[], ◌∷◌, ◌++◌}
use Prim.Native.Nat.{◌+◌}
use mathlib.Core.Path.{◌≡◌}
use Rattle.encoder.proofs.write_xl.Goals as goal

pub returns-in_err-size : goal.returns-in_err-size
returns-in_err-size c =
    let a = c.args in
    let h = refused (XlTransmit a.id a.ide a.sec a.sdt a.vcid a.af a.dl) a.payload.now a.buffer.now (answers (XlTransmit a.id a.ide a.sec a.sdt a.vcid a.af a.dl) _ _ c.xl_is_legal-lawful.ensures c.decide.ensures.value) c.in_err-size.was c.from_residual.ensures.1 in
    record { answer = h.0; written = h.1 }

pub returns : goal.returns
unfolding header
returns c =
    let a = c.args in
    let e = answers (XlTransmit a.id a.ide a.sec a.sdt a.vcid a.af a.dl) _ _ c.xl_is_legal-lawful.ensures c.in_ok-size.ensures.value in
    let h : c.put_number-3.new.buffer ≡ over a.buffer.now 0 (header (XlTransmit a.id a.ide a.sec a.sdt a.vcid a.af a.dl)) =
    rw (c.put_number-3.ensures, c.from.ensures, c.put_number-2.ensures, c.put.ensures, c.put_number.ensures, c.put_start.ensures, c.in_ok-size.ensures.accepted.0)
    (in_turn_lem a.buffer.now ((little_endian 4 0x12 ++ little_endian 4 (22 + a.dl)) ∷ (little_endian 4 a.id) ∷ (a.ide ∷ a.sec ∷ a.sdt ∷ a.vcid ∷ []) ∷ (little_endian 4 a.af) ∷ (little_endian 2 a.dl) ∷ [])) in
    record { answer = e; written = done (XlTransmit a.id a.ide a.sec a.sdt a.vcid a.af a.dl) a.payload.now a.buffer.now e h c.put-2.ensures }
