-- What is left of the nodes gives what all give.
use Rattle.std.proofs.Common.{◌-◌, ◌≡◌}
use Rattle.scan.specs.Scan.{nodes_key, scanned}
use Rattle.lent_scan.proofs.scan.Given as goal

abbrev pub invariant-loop-j : goal.invariant-loop-j
invariant-loop-j l = nodes_key (l.j-end - l.j) l.j l.fn.s l.slots l.key ≡ scanned l.fn.s l.slots
