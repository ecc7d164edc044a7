-- Past the end nothing remains; else what stands at the front of the rest, which stays within the buffer.
use Rattle.decoder.proofs.Forward.{reads}
use Rattle.decoder.proofs.Streams.{onward}
use Rattle.decoder.specs.Front.{front}
use Rattle.decoder.specs.Reading.{read_at}
use lib.ListN.{length, drop_of_length-le}
use Prim.Native.Nat.{◌≤◌}
use mathlib.Core.Path.{sym, ap, ◌∙◌}
use native.Mathlib.Omega.{arith}
use Rattle.decoder.proofs.Cursor.read.Goals as goal

pub returns-in_err-get : goal.returns-in_err-get
unfolding read_at front
returns-in_err-get c =
    let a = c.args in
    let h : length a.s.now ≤ a.self.at = omega (arith, c.in_err-get.ensures.lookup) in
    rw (c.from_residual.ensures, drop_of_length-le a.s.now h)

pub returns-in_err-front : goal.returns-in_err-front
returns-in_err-front c =
    let cut = c.in_ok-get.ensures.lookup.0.2 in
    c.from_residual-in_err-front.ensures
    ∙ reads c.args.s.now c.args.self.at (ap front (sym cut) ∙ sym c.read_front.ensures ∙ c.in_err-front.was)

pub overflow_add-next : goal.overflow_add-next
overflow_add-next c =
    omega (arith, onward c.in_ok-get.field-0.now (sym c.read_front.ensures ∙ c.in_ok-front.was), c.in_ok-get.ensures.lookup)

pub returns : goal.returns
returns c =
    let cut = c.in_ok-get.ensures.lookup.0.2 in
    reads c.args.s.now c.args.self.at (ap front (sym cut) ∙ sym c.read_front.ensures ∙ c.in_ok-front.was)
