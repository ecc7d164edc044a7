-- A refusal changes nothing; else the runs of the header, by what a Configuration carries.
use Rattle.buffers.proofs.Laying.{in_turn_lem}
use Rattle.buffers.specs.Parts.{over}
use Rattle.encoder.proofs.Answers.{answers, refused, done_bare}
use Rattle.operation.specs.Format.{header}
use Rattle.operation.specs.Number.{little_endian}
use Rattle.operation.specs.declared.Operation.TheVariants.{Configuration}
use borrow.Author.Tests.{ne_eqb}
use mathlib.Core.List.{[], ◌∷◌, ◌++◌}
use mathlib.Core.Path.{◌≡◌, refl}
use Rattle.encoder.proofs.write_configuration.Goals as goal

pub returns-in_err-size : goal.returns-in_err-size
returns-in_err-size c =
    let a = c.args in
    let h = refused (Configuration a.kind a.value) a.payload.now a.buffer.now (answers (Configuration a.kind a.value) _ _ c.configuration_is_legal-lawful.ensures (rw c.configuration_length-head.ensures.0 at c.decide.ensures.value)) c.in_err-size.was c.from_residual.ensures.1 in
    record { answer = h.0; written = h.1 }

pub returns-then-kind : goal.returns-then-kind
unfolding header
returns-then-kind c =
    let a = c.args in
    let e = answers (Configuration a.kind a.value) _ _ c.configuration_is_legal-lawful.ensures (rw c.configuration_length-head.ensures.0 at c.in_ok-size.ensures.value) in
    let k = c.if-kind.true in
    let n = rw (c.configuration_length-head.ensures.0, k) at c.in_ok-size.ensures.accepted.0 in
    let h : c.put_number.new.buffer ≡ over a.buffer.now 0 (header (Configuration a.kind a.value)) =
    rw (c.put_number.ensures, c.put.ensures, c.put_start.ensures, n, k)
    (in_turn_lem a.buffer.now ((little_endian 4 0x40 ++ little_endian 4 10) ∷ (4 ∷ []) ∷ (little_endian 1 a.value) ∷ [])) in
    record { answer = e; written = done_bare (Configuration a.kind a.value) a.payload.now a.buffer.now e refl h }

pub returns : goal.returns
unfolding header
returns c =
    let a = c.args in
    let e = answers (Configuration a.kind a.value) _ _ c.configuration_is_legal-lawful.ensures (rw c.configuration_length-head.ensures.0 at c.in_ok-size.ensures.value) in
    let k = ne_eqb _ _ c.if-kind.false in
    let n = rw (c.configuration_length-head.ensures.0, k) at c.in_ok-size.ensures.accepted.0 in
    let h : c.put_number-2.new.buffer ≡ over a.buffer.now 0 (header (Configuration a.kind a.value)) =
    rw (c.put_number-2.ensures, c.put.ensures, c.put_start.ensures, n, k)
    (in_turn_lem a.buffer.now ((little_endian 4 0x40 ++ little_endian 4 13) ∷ (a.kind ∷ []) ∷ (little_endian 4 a.value) ∷ [])) in
    record { answer = e; written = done_bare (Configuration a.kind a.value) a.payload.now a.buffer.now e refl h }
