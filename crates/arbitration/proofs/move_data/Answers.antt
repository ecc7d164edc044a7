use Prim.Native.Nat.{◌+◌}
use Rattle.arbitration.proofs.Moves.{data_next, data_end_lem}
use Rattle.scan.specs.Winner.{held_at}
use Rattle.operation.specs.Format.{data_length}
use mathlib.Core.Path.{◌≡◌, sym, ap, ◌∙◌}
use native.Mathlib.Numerals.{add-one}
use native.Mathlib.Omega.{arith}
use Rattle.arbitration.proofs.move_data.Goals as goal

pub shift-requires : goal.shift-requires
shift-requires c =
    let l = c.loop-q in
    let w = (c.requires.frames (l.q + 1) (omega arith) (omega arith)).short in
    let n : c.data_length-n.result ≡ data_length (held_at c.args.four (l.q + 1)) =
    c.data_length-n.ensures ∙ ap data_length c.held_in.ensures in
    (omega arith, omega arith)

pub loop-q-preserved : goal.loop-q-preserved
loop-q-preserved c =
    let l = c.loop-q in
    let a = c.args in
    let w = (c.requires.frames (l.q + 1) (omega arith) (omega arith)).short in
    let n : c.data_length-n.result ≡ data_length (held_at a.four (l.q + 1)) = c.data_length-n.ensures ∙ ap data_length c.held_in.ensures
    in
    rw (c.shift.ensures, n, add-one (a.at + l.q), add-one l.q)
    (sym (data_next a.four a.at l.q a.last l.payload (omega arith)) ∙ l.invariant)

pub returns : goal.returns
returns c =
    let a = c.args in
    let l = c.loop-q in
    sym (data_end_lem a.four a.at l.q a.last l.payload (omega arith)) ∙ l.invariant
