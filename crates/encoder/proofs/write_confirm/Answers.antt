-- The header by its bytes; there are no data.
use Rattle.encoder.proofs.Answers.{answers, written_bare}
use Rattle.operation.specs.Format.{header}
use Rattle.operation.specs.Rules.{all_after, rules, legal}
use Rattle.operation.specs.declared.Operation.TheVariants.{Confirm}
use mathlib.Core.Path.{refl}
use Rattle.encoder.proofs.write_confirm.Goals as goal

pub returns : goal.returns
unfolding header legal rules all_after
returns c =
    let a = c.args in
    let e = answers (Confirm a.id) _ _ refl c.write_id.ensures.answer in
    record { answer = e; written = written_bare (Confirm a.id) a.payload.now a.buffer.now e refl c.write_id.ensures.written }
