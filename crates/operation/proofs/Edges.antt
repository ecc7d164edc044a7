-- The content rules at their edges, by computation.
-- Assumes nothing.
use mathlib.Core.Path.{refl}
use Rattle.operation.specs.Rules.{all_after, one_of, fd_length, rules, legal}
use Rattle.operation.specs.Edges.{legal_edges, illegal_edges, EdgesHold}

pub edges_hold : EdgesHold
unfolding all_after one_of fd_length rules legal legal_edges illegal_edges
edges_hold = (refl, refl)
