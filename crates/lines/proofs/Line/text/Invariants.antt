-- The line has gained the bytes so far.
use Rattle.std.proofs.Common.{◌≡◌, take}
use Rattle.lines.specs.Text.{after_all}
use Rattle.lines.proofs.Line.text.Given as goal

abbrev pub invariant-loop-byte : goal.invariant-loop-byte
invariant-loop-byte g l = l.self ≡ after_all l.fn.self (take l.byte-index l.byte-items)
