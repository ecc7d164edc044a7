-- That the step can be done bounds what it adds.
use Rattle.submission.proofs.Checks.{transmit-few, answer-fits}
use mathlib.Core.Path.{sym, ◌∙◌}
use native.Mathlib.Omega.{arith}
use Rattle.submission.proofs.entry_after.Goals as goal

pub overflow_add-d : goal.overflow_add-d
overflow_add-d c =
    let few = transmit-few _ _ _ (rw c.in-Transmit.is at c.requires.1) (sym c.is_off.ensures ∙ c.if-is_off.false) in
    omega arith

pub overflow_cast-fill-in-Answer : goal.overflow_cast-fill-in-Answer
overflow_cast-fill-in-Answer c =
    let fits = answer-fits _ _ (rw c.in-Answer.is at c.requires.1) in
    omega arith
