-- Believed. The order among pending frames, and the first one by it (01, "One round").
-- Assumes nothing.
use Rattle.std.specs.Prelude.{ℕ, suc, ◌<◌, ◌≡◌, List, [], ◌∷◌, ◌++◌, Bool, cond, ◌&&◌, ◌||◌, ltb, eqb, length, get_or}
use Rattle.operation.specs.declared.Operation.{Operation}
use Rattle.operation.specs.Kinds.{id_of}
use Rattle.plain_bus.specs.Held.{Frame, Node, Bus, node_at}

-- a pending frame with its node's number and its position among that node's pending frames, oldest first
pub record Entry : Type 0 where
  pub owner : ℕ
  pub position : ℕ
  pub frame : Frame

-- what a frame is compared by on the bus: the ID number
unfoldable pub rank : Operation → ℕ
rank op = id_of op

abbrev pub rank_of : Entry → ℕ
rank_of x = rank x.frame.op

-- a below c, and where they are equal what t says
abbrev pub lower_or : ℕ → ℕ → Bool → Bool
lower_or a c t = ltb a c || eqb a c && t

-- lower rank first, then lower node number, then earlier accepted
unfoldable pub goes_before : Entry → Entry → Bool
goes_before x y =
    lower_or (rank_of x) (rank_of y) (lower_or x.owner y.owner (ltb x.position y.position))

-- x is one of the pending frames of the bus: at its position among those of its node
pub record Pending (b : Bus) (x : Entry) : Type 0 where
  pub attached : x.owner < length b.nodes
  pub placed : x.position < length (node_at b x.owner).pending
  pub held : get_or (node_at b x.owner).pending x.position x.frame ≡ x.frame

-- ---- all pending frames, and the first of them

-- those of node k, from position i on
unfoldable pub entries_of : ℕ → ℕ → List Frame → List Entry
entries_of k i [] = []
entries_of k i (f ∷ fs) = record { owner = k; position = i; frame = f } ∷ entries_of k (suc i) fs

-- those of some nodes, from number k on
unfoldable pub entries_from : ℕ → List Node → List Entry
entries_from k [] = []
entries_from k (d ∷ ds) = entries_of k 0 d.pending ++ entries_from (suc k) ds

abbrev pub entries : Bus → List Entry
entries b = entries_from 0 b.nodes

pub data Winner : Type 0 where
  nobody : Winner
  wins : Entry → Winner

unfoldable pub better : Winner → Entry → Winner
better nobody y = wins y
better (wins x) y = wins (cond (goes_before y x) y x)

-- the first of w and some entries
unfoldable pub first_of : Winner → List Entry → Winner
first_of w [] = w
first_of w (x ∷ xs) = first_of (better w x) xs

unfoldable pub winner : Bus → Winner
winner b = first_of nobody (entries b)
