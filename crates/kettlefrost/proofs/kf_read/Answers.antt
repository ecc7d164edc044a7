-- Past the end nothing remains; an operation that is all there goes by its code; else what stands at the front of the rest.
use Rattle.decoder.specs.Front.{front}
use Rattle.decoder.specs.Reading.{read_at}
use Rattle.decoder.proofs.Forward.{reads}
use Rattle.decoder.proofs.Streams.{onward}
use Rattle.decoder.proofs.Whole.{by_whole}
use Rattle.kettlefrost.specs.Calls.{read_answer}
use lib.ListN.{length, drop_of_length-le}
use lib.Seq.{length-take-le}
use mathlib.Core.Path.{sym, ap, ◌∙◌}
use Prim.Native.Nat.{◌≤◌}
use native.Mathlib.Omega.{arith}
use Rattle.kettlefrost.proofs.kf_read.Goals as goal

pub returns-in_default : goal.returns-in_default
unfolding read_at front
returns-in_default c =
    let a = c.args in
    let h : length a.buffer.now ≤ a.at = omega (arith, c.in_default.ensures.lookup) in
    rw (c.no_operation.ensures, drop_of_length-le a.buffer.now h)

pub slice_bounds-read_named-end : goal.slice_bounds-read_named-end
slice_bounds-read_named-end c =
    let r = c.in-Some.rest.now in
    sym (length-take-le c.in-Some-whole_length.size r (by_whole r (sym c.whole_length.ensures ∙ c.in-Some-whole_length.is)).0)

pub overflow_add-at : goal.overflow_add-at
overflow_add-at c =
    let w = by_whole c.in-Some.rest.now (sym c.whole_length.ensures ∙ c.in-Some-whole_length.is) in
    omega (arith, w.0, c.in-Some.ensures.lookup)

pub returns-in-Some-whole_length : goal.returns-in-Some-whole_length
returns-in-Some-whole_length c =
    let a = c.args in
    let cut = c.in-Some.ensures.lookup.0.2 in
    let w = by_whole c.in-Some.rest.now (sym c.whole_length.ensures ∙ c.in-Some-whole_length.is) in
    c.read_named.ensures ∙ ap (read_answer a.at) (reads a.buffer.now a.at (ap front (sym cut) ∙ w.1))

pub overflow_add-at-in-Some-read_front : goal.overflow_add-at-in-Some-read_front
overflow_add-at-in-Some-read_front c =
    omega (arith, onward c.in-Some.rest.now (sym c.read_front.ensures ∙ c.in-Some-read_front.is), c.in-Some.ensures.lookup)

pub returns-in-Some-read_front : goal.returns-in-Some-read_front
returns-in-Some-read_front c =
    let a = c.args in
    let cut = c.in-Some.ensures.lookup.0.2 in
    c.answer_item.ensures
    ∙ ap (read_answer a.at) (reads a.buffer.now a.at (ap front (sym cut) ∙ sym c.read_front.ensures ∙ c.in-Some-read_front.is))

pub returns-in-None : goal.returns-in-None
returns-in-None c =
    let a = c.args in
    let cut = c.in-Some.ensures.lookup.0.2 in
    c.no_operation-in-None.ensures
    ∙ ap (read_answer a.at) (reads a.buffer.now a.at (ap front (sym cut) ∙ sym c.read_front.ensures ∙ c.in-None.is))
