-- By the length of an operation that is all there: what it is decoded to, or else the tests of the remaining bytes.
use Rattle.decoder.proofs.Whole.{by_whole}
use borrow.Author.Tests.{eq-eqb, ne_eqb, lt-ltb, le-ltb}
use lib.Seq.{length-take-le}
use mathlib.Core.Path.{sym, ◌∙◌}
use Rattle.decoder.proofs.read_front.Goals as goal

pub slice_bounds-read_operation-end : goal.slice_bounds-read_operation-end
slice_bounds-read_operation-end c =
    sym (length-take-le c.in-Some.size c.args.s.now (by_whole c.args.s.now (sym c.whole_length.ensures ∙ c.in-Some.is)).0)

pub returns-in-Some : goal.returns-in-Some
returns-in-Some c =
    rw (c.read_operation-item.ensures) (sym (by_whole c.args.s.now (sym c.whole_length.ensures ∙ c.in-Some.is)).1)

pub returns-then-size-eq0 : goal.returns-then-size-eq0
returns-then-size-eq0 c =
    rw (by_whole c.args.s.now (sym c.whole_length.ensures ∙ c.in_default.is), eq-eqb _ 0 c.if-size-eq0.true)

pub returns-then-size-lt8 : goal.returns-then-size-lt8
returns-then-size-lt8 c =
    rw (by_whole c.args.s.now (sym c.whole_length.ensures ∙ c.in_default.is), ne_eqb _ 0 c.if-size-eq0.false, lt-ltb _ 8 c.if-size-lt8.true)

pub returns : goal.returns
returns c =
    rw (by_whole c.args.s.now (sym c.whole_length.ensures ∙ c.in_default.is), ne_eqb _ 0 c.if-size-eq0.false, le-ltb _ 8 c.if-size-lt8.false)
