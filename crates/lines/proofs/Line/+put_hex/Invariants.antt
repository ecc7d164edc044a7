-- A call has one digit less.
use Rattle.lines.proofs.Line.+put_hex.Given as goal

abbrev pub decreases-put_hex : goal.decreases-put_hex
decreases-put_hex l = l.digits
