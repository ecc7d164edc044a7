-- The line has gained the first byte, and those of the rest so far apart.
use Rattle.std.proofs.Common.{◌≡◌, take}
use Rattle.lines.specs.Text.{after_all, hex_digits, apart}
use Rattle.lines.proofs.Line.hex_bytes.Given as goal

abbrev pub invariant-loop-byte : goal.invariant-loop-byte
invariant-loop-byte l = l.self ≡ after_all (after_all l.fn.self (hex_digits 2 l.first)) (apart (take l.byte-index l.rest))
