-- Each reading moves on, and not past the end: so a fault's bytes lie in the stream, and less of it is left.
use Rattle.std.proofs.Common.{rules, ◌≡◌, ℕ, ◌<◌, ◌≤◌, List, length, arith, sym, ◌∙◌}
use Rattle.std.proofs.Common.{Some}
use Rattle.decoder.specs.Reading.{read_at}
use Rattle.decoder.specs.declared.Reading.{Reading}
use Rattle.decoder.proofs.Items.{next-item}
use Rattle.decode.proofs.print_all.Goals as goal

moves : (s : List ℕ) (at : ℕ) {r : Reading} → read_at s at ≡ Some r → (at < r.next.at) × (r.next.at ≤ length s)
moves s at e = let n = next-item s at e in (n.further, n.within)

pub slice_bounds-fault-count : goal.slice_bounds-fault-count
slice_bounds-fault-count c =
    let m = moves c.args.s.now c.loop-item.cursor.at (sym c.read.ensures ∙ c.in-Some.is) in
    omega arith

pub slice_bounds-fault-start : goal.slice_bounds-fault-start
slice_bounds-fault-start c =
    let m = moves c.args.s.now c.loop-item.cursor.at (sym c.read.ensures ∙ c.in-Some.is) in
    search rules

pub slice_bounds-fault-end : goal.slice_bounds-fault-end
slice_bounds-fault-end c =
    let m = moves c.args.s.now c.loop-item.cursor.at (sym c.read.ensures ∙ c.in-Some.is) in
    search rules

pub loop-item-smaller-in-Ok : goal.loop-item-smaller-in-Ok
loop-item-smaller-in-Ok c =
    let m = moves c.args.s.now c.loop-item.cursor.at (sym c.read.ensures ∙ c.in-Some.is) in
    omega arith

pub loop-item-smaller : goal.loop-item-smaller
loop-item-smaller c =
    let m = moves c.args.s.now c.loop-item.cursor.at (sym c.read.ensures ∙ c.in-Some.is) in
    omega arith
