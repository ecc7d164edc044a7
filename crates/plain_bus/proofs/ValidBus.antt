-- What the laws of the plain bus ask of it and keep: validity as it is read from lists. What 01 calls sound is asked of state and lent
-- memory, and is defined there (bus_state, Validity). That a frame belongs to an attached node, and the order of acceptance, are given
-- by the lists themselves.
-- Assumes nothing.
use Prim.Native.Nat.{ℕ, ◌≤◌, ◌<◌}
use mathlib.Core.Path.{◌≡◌}
use mathlib.Core.List.{List, [], ◌∷◌}
use mathlib.Core.Bool.{Bool, true, false}
use lib.ListN.{length}
use Rattle.operation.specs.Rules.{one_of, statuses, behaviours}
use Rattle.operation.specs.declared.Operation.{Operation}
use Rattle.std.proofs.Common.{Some, Ok}
use Rattle.decoder.specs.Front.{sized, front}
use Rattle.decoder.specs.Stream.{Item, operation, fault, items_of}
use Rattle.operation.specs.Kinds.{is_transmit}
use Rattle.plain_bus.specs.Held.{Frame, Node, Bus, max_pending, queue_capacity, last_round, is_off, node_at}

-- the bytes are those of one operation, which meets the content rules: else reading would not find it
abbrev pub ReadsWhole : Operation → List ℕ → Type 0
ReadsWhole op bytes = front bytes ≡ Some (sized (Ok op) (length bytes))

-- a pending frame is a Transmit and meets the content rules
pub record ValidFrame (f : Frame) : Type 0 where
  pub transmit : is_transmit f.op ≡ true
  pub reads : ReadsWhole f.op f.bytes

-- one node's pending frames, oldest first: their acceptance rounds do not fall, and none is below `low` or above `now`
abbrev pub ValidFrames : ℕ → ℕ → List Frame → Type 0
ValidFrames low now [] = Unit {0}
ValidFrames low now (f ∷ fs) = ValidFrame f × (low ≤ f.accepted) × (f.accepted ≤ now) × ValidFrames f.accepted now fs

abbrev pub NonZero : List ℕ → Type 0
NonZero [] = Unit {0}
NonZero (x ∷ xs) = (1 ≤ x) × NonZero xs

-- a node at the round number `now`: status, behaviour and the three baud rates are allowed, the queue is filled to at most
-- its capacity, there are no more pending frames than allowed and none when Bus-Off, and these are valid
pub record ValidNode (now : ℕ) (d : Node) : Type 0 where
  pub status : one_of d.status statuses ≡ true
  pub behaviour : one_of d.behaviour behaviours ≡ true
  pub three : length d.rates ≡ 3
  pub rates : NonZero d.rates
  pub room : length d.queue ≤ queue_capacity
  pub few : length d.pending ≤ max_pending
  pub silent : is_off d ≡ true → d.pending ≡ []
  pub frames : ValidFrames 0 now d.pending

-- 2 to 8 attached nodes, all valid, and a round number that is not too high
pub record Valid (b : Bus) : Type 0 where
  pub least : 2 ≤ length b.nodes
  pub most : length b.nodes ≤ 8
  pub round : b.round ≤ last_round
  pub each : (k : ℕ) → k < length b.nodes → ValidNode b.round (node_at b k)

-- ---- not asked of a state by 01, and true from the start on: every queue is a sequence of whole operations

unfoldable pub no_fault : List Item → Bool
no_fault [] = true
no_fault (operation op bytes ∷ is) = no_fault is
no_fault (fault number bytes ∷ is) = false

abbrev pub Whole : List ℕ → Type 0
Whole bytes = no_fault (items_of bytes) ≡ true

abbrev pub WholeQueues : Bus → Type 0
WholeQueues b = (k : ℕ) → k < length b.nodes → Whole (node_at b k).queue
