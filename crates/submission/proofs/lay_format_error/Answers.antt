-- The room that is required is the Format Error's.
use Rattle.encoder.proofs.Answers.{format_error-lawful}
use Rattle.operation.specs.declared.Operation.TheVariants.{FormatError}
use Rattle.encoder.proofs.Behind.{laid_behind}
use lib.ListN.{length}
use mathlib.Core.Path.{refl, sym}
use native.Mathlib.Omega.{arith}
use Rattle.submission.proofs.lay_format_error.Goals as goal

pub returns : goal.returns
returns c =
    let n = length c.args.bytes.now in
    laid_behind (FormatError (length c.args.bytes.now)) c.args.bytes.now c.args.queues.now _ c.args.at (sym (format_error-lawful _)) refl (omega arith) c.requires.1 c.write_format_error.ensures.written
