-- The room that is required is the Wakeup's.
use Rattle.encoder.proofs.Answers.{wakeup-lawful}
use Rattle.operation.specs.declared.Operation.TheVariants.{Wakeup}
use Rattle.encoder.proofs.Behind.{laid_behind}
use mathlib.Core.List.{[]}
use mathlib.Core.Path.{refl, sym}
use native.Mathlib.Omega.{arith}
use Rattle.submission.proofs.lay_wakeup.Goals as goal

pub returns : goal.returns
returns c =
    laid_behind Wakeup [] c.args.queues.now _ c.args.at (sym wakeup-lawful) refl (omega arith) c.requires c.write_wakeup.ensures.written
