-- A key is read as it is made.
use Rattle.scan.proofs.Keys.{winner_read}
use native.Mathlib.Omega.{arith}
use Rattle.scan.proofs.winner_of.Goals as goal

pub returns : goal.returns
returns c = λ w small e. winner_read w c.args.key small e c.requires (omega arith)
