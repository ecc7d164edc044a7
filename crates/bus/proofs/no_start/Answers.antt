-- The answer of a refused start.
use Rattle.bus.proofs.no_start.Goals as goal

pub returns : goal.returns
returns c = rw (c.answer_of.ensures, c.new_state.ensures)
