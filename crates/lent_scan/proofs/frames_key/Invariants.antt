-- What is left of the steps gives what all give.
use Rattle.std.proofs.Common.{◌-◌, ◌≡◌, ◌*◌}
use Rattle.scan.specs.Scan.{steps_of, begun}
use Rattle.lent_scan.proofs.frames_key.Given as goal

abbrev pub invariant-loop-p : goal.invariant-loop-p
invariant-loop-p l = steps_of (l.p-end - l.p) l.p l.j l.slots l.run ≡ steps_of l.n (4 * l.j) l.j l.slots (begun l.key)
