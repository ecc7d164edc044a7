-- What was read there, with its effect.
use Rattle.decoder.proofs.Found.{found}
use Rattle.decoder.proofs.Items.{next-item, next_is}
use Rattle.submission.proofs.Takes.{fault-taken, operation-taken}
use mathlib.Core.Path.{sym, ◌∙◌}
use borrow.Author.Rules.{rules}
use Rattle.submission.proofs.step_at.Goals as goal

pub slice_bounds-fault_effect-count : goal.slice_bounds-fault_effect-count
slice_bounds-fault_effect-count c =
    let n = next_is c.args.buffer.now c.args.at (sym c.read.ensures ∙ c.in_ok-reading.was) c.in-Err.is in
    let f = n.further in
    let w = n.within in
    search rules

pub slice_bounds-fault_effect-start : goal.slice_bounds-fault_effect-start
slice_bounds-fault_effect-start c =
    let n = next_is c.args.buffer.now c.args.at (sym c.read.ensures ∙ c.in_ok-reading.was) c.in-Err.is in
    let f = n.further in
    let w = n.within in
    search rules

pub slice_bounds-fault_effect-end : goal.slice_bounds-fault_effect-end
slice_bounds-fault_effect-end c =
    let n = next_is c.args.buffer.now c.args.at (sym c.read.ensures ∙ c.in_ok-reading.was) c.in-Err.is in
    let f = n.further in
    let w = n.within in
    search rules

pub operation_effect-effect-requires : goal.operation_effect-effect-requires
operation_effect-effect-requires c = (found (next_is c.args.buffer.now c.args.at (sym c.read.ensures ∙ c.in_ok-reading.was) c.in-Ok.is).stands).lawful

pub returns-in_err-reading : goal.returns-in_err-reading
returns-in_err-reading c =
    let n = (next-item c.args.buffer.now c.args.at (sym c.read.ensures ∙ c.in_err-reading.was)).0 in
    rw c.from_residual.ensures n

pub returns-in-Err : goal.returns-in-Err
returns-in-Err c = fault-taken _ _ _ (next_is c.args.buffer.now c.args.at (sym c.read.ensures ∙ c.in_ok-reading.was) c.in-Err.is) c.fault_effect-effect.ensures

pub returns-in-Ok : goal.returns-in-Ok
returns-in-Ok c = operation-taken _ _ _ (next_is c.args.buffer.now c.args.at (sym c.read.ensures ∙ c.in_ok-reading.was) c.in-Ok.is) c.operation_effect-effect.ensures
