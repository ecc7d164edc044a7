-- Believed. What the bus holds for each attached node and over all, and how it starts (01, "What the bus holds"). Nodes and the bus are
-- changed through the setters only.
-- Assumes nothing.
use Rattle.std.specs.Prelude.{ℕ, suc, ◌+◌, List, [], ◌∷◌, ◌++◌, Bool, true, ◌&&◌, leb, ltb, eqb, length, get_or, set, replicate}
use Rattle.operation.specs.declared.Operation.{Operation}

-- a pending frame: a Transmit, its complete bytes as submitted, and the round number at which it was accepted
pub record Frame : Type 0 where
  pub op : Operation
  pub bytes : List ℕ
  pub accepted : ℕ

-- pending frames and the queue's bytes stand oldest first; the baud rates stand by kind, 1 to 3
pub record Node : Type 0 where
  pub status : ℕ
  pub behaviour : ℕ
  pub rates : List ℕ
  pub pending : List Frame
  pub queue : List ℕ

-- the attached nodes by number, from 0
pub record Bus : Type 0 where
  pub nodes : List Node
  pub round : ℕ

-- at most so many frames pending at a node, so many bytes in its queue, and so high a round number
abbrev pub max_pending : ℕ
max_pending = 4

abbrev pub queue_capacity : ℕ
queue_capacity = 4_096

abbrev pub last_round : ℕ
last_round = 4_294_967_295

-- statuses and behaviours that the rules name, with 000's values
abbrev pub error_active : ℕ
error_active = 1

abbrev pub bus_off : ℕ
bus_off = 3

abbrev pub buffer_and_retransmit : ℕ
buffer_and_retransmit = 1

abbrev pub discard_and_notify : ℕ
discard_and_notify = 2

abbrev pub is_off : Node → Bool
is_off d = eqb d.status bus_off

abbrev pub discards : Node → Bool
discards d = eqb d.behaviour discard_and_notify

-- ---- setters

abbrev pub with_status : Node → ℕ → Node
with_status d x = record { status = x; behaviour = d.behaviour; rates = d.rates; pending = d.pending; queue = d.queue }

abbrev pub with_behaviour : Node → ℕ → Node
with_behaviour d x = record { status = d.status; behaviour = x; rates = d.rates; pending = d.pending; queue = d.queue }

abbrev pub with_rates : Node → List ℕ → Node
with_rates d x = record { status = d.status; behaviour = d.behaviour; rates = x; pending = d.pending; queue = d.queue }

abbrev pub with_pending : Node → List Frame → Node
with_pending d x = record { status = d.status; behaviour = d.behaviour; rates = d.rates; pending = x; queue = d.queue }

abbrev pub with_queue : Node → List ℕ → Node
with_queue d x = record { status = d.status; behaviour = d.behaviour; rates = d.rates; pending = d.pending; queue = x }

abbrev pub with_nodes : Bus → List Node → Bus
with_nodes b x = record { nodes = x; round = b.round }

abbrev pub with_round : Bus → ℕ → Bus
with_round b x = record { nodes = b.nodes; round = x }

-- ---- the start

abbrev pub new_node : Node
new_node =
    record {
      status = error_active;
      behaviour = buffer_and_retransmit;
      rates = 500_000 ∷ 2_000_000 ∷ 10_000_000 ∷ [];
      pending = [];
      queue = [];
    }

abbrev pub new_bus : ℕ → Bus
new_bus count = record { nodes = replicate count new_node; round = 0 }

-- ---- nodes by number

abbrev pub attached : Bus → ℕ → Bool
attached b k = ltb k (length b.nodes)

abbrev pub node_at : Bus → ℕ → Node
node_at b k = get_or b.nodes k new_node

abbrev pub with_node : Bus → ℕ → Node → Bus
with_node b k d = with_nodes b (set b.nodes k d)

-- each node changed, or tested, with its number; the first of the list has number k
unfoldable pub each_node : (ℕ → Node → Node) → ℕ → List Node → List Node
each_node change k [] = []
each_node change k (d ∷ ds) = change k d ∷ each_node change (suc k) ds

unfoldable pub every_node : (ℕ → Node → Bool) → ℕ → List Node → Bool
every_node test k [] = true
every_node test k (d ∷ ds) = test k d && every_node test (suc k) ds

-- ---- queues

abbrev pub has_room : Node → List ℕ → Bool
has_room d bytes = leb (length d.queue + length bytes) queue_capacity

-- every node's queue has room for its part, by the node's number
abbrev pub all_have_room : (ℕ → Node → List ℕ) → Bus → Bool
all_have_room part b = every_node (λ j d. has_room d (part j d)) 0 b.nodes

abbrev pub enqueue : Node → List ℕ → Node
enqueue d bytes = with_queue d (d.queue ++ bytes)
