-- The header by its bytes; there are no data.
use Rattle.encoder.proofs.Answers.{answers, written_bare}
use Rattle.operation.specs.Format.{header}
use Rattle.operation.specs.Rules.{all_after, rules, legal}
use Rattle.operation.specs.declared.Operation.TheVariants.{ArbitrationLost}
use mathlib.Core.Path.{refl}
use Rattle.encoder.proofs.write_arbitration_lost.Goals as goal

pub returns : goal.returns
unfolding header legal rules all_after
returns c =
    let a = c.args in
    let e = answers (ArbitrationLost a.id) _ _ refl c.write_id.ensures.answer in
    record { answer = e; written = written_bare (ArbitrationLost a.id) a.payload.now a.buffer.now e refl c.write_id.ensures.written }
