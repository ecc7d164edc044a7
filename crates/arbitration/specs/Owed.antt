-- Internal. What a round owes each node: bytes, and their number, which decides before any byte is written (01, "One round").
-- Assumes nothing.
use Rattle.std.specs.Prelude.{ℕ, zero, suc, ◌+◌, ◌-◌, ◌*◌, ◌≤◌, ◌<◌, ◌≡◌, List, [], ◌++◌, Bool, true, cond, ◌&&◌, leb, eqb, get_or, Option, None, Some}
use Rattle.operation.specs.Format.{data_length, length_of, encode}
use Rattle.operation.specs.Kinds.{id_of}
use Rattle.operation.specs.Rules.{legal, max_extended_id}
use Rattle.operation.specs.declared.Operation.{Operation}
use Rattle.operation.specs.declared.Operation.TheVariants.{Confirm, ArbitrationLost, BusError}
use Rattle.slots.specs.declared.Slot.{Slot}
use Rattle.plain_bus.specs.Held.{discard_and_notify}
use Rattle.plain_bus.specs.Round.{primary_error_flag, secondary_error_flag}
use Rattle.bus_state.specs.Memory.{slots_per_node, bytes_per_slot, bytes_per_queue, node_state, is_off}
use Rattle.bus_state.specs.declared.State.{State}
use Rattle.bus_state.specs.declared.NodeState.{NodeState}
use Rattle.arbitration.specs.declared.Injection.{Injection}
use Rattle.scan.specs.Winner.{held_at, entry_of}

-- ---- a frame, and a node's entry

-- what can be written of a pending frame: it meets the rules, so do Confirm and Arbitration Lost with its ID, and its data fit a slot
pub record Writable (op : Operation) : Type 0 where
  pub lawful : legal op ≡ true
  pub id : id_of op ≤ max_extended_id
  pub short : data_length op ≤ bytes_per_slot

-- the slots from one position to another hold such frames
abbrev pub Frames : List Slot → ℕ → ℕ → Type 0
Frames a from end = (p : ℕ) → from ≤ p → p < end → Writable (held_at a p)

-- the IDs from one position to another can be written
abbrev pub LegalIds : List ℕ → ℕ → ℕ → Type 0
LegalIds ids from end = (p : ℕ) → from ≤ p → p < end → get_or ids p 0 ≤ max_extended_id

abbrev pub discards : NodeState → Bool
discards d = eqb d.behaviour discard_and_notify

-- 1 where the winner is the node's own
abbrev pub own : Bool → ℕ
own mine = cond mine 1 0

-- how many frames a node has pending besides the winner
abbrev pub losers : NodeState → Bool → ℕ
losers d mine = d.pending - own mine

-- how many frames a node that discards has no more, the winner among them
abbrev pub discarded : NodeState → ℕ
discarded d = cond (discards d) d.pending 0

-- how many of the losers are removed and told, and how many stay pending
abbrev pub told_count : NodeState → Bool → ℕ
told_count d mine = cond (discards d) (losers d mine) 0

abbrev pub stay_count : NodeState → Bool → ℕ
stay_count d mine = cond (discards d) 0 (losers d mine)

-- the owner has a frame pending at a position
abbrev pub PendingAt : State → ℕ → ℕ → Type 0
PendingAt s owner position = (owner < s.count) × (position < (node_state s owner).pending)

-- every attached node can be told of its frames: they are at most four, and their IDs can be written
pub record Tellable (s : State) (ids : List ℕ) : Type 0 where
  pub count : s.count ≤ 8
  pub few : (j : ℕ) → j < s.count → (node_state s j).pending ≤ slots_per_node
  pub lawful : (j : ℕ) → j < s.count → LegalIds ids (slots_per_node * j) (slots_per_node * j + (node_state s j).pending)

-- ---- the bytes

-- the Error Flag at node j
abbrev pub flag_at : ℕ → ℕ → ℕ
flag_at j detector = cond (eqb j detector) primary_error_flag secondary_error_flag

-- what node j is told of the winner: its Transmit with its data, Confirm at its owner, or Bus Error; nothing at a Bus-Off node
unfoldable pub news_to : Option Injection → ℕ → ℕ → Bool → Operation → List ℕ → List ℕ
news_to None j owner off op bytes = cond (eqb j owner) (encode (Confirm (id_of op)) []) (cond off [] (encode op bytes))
news_to (Some i) j owner off op bytes =
    cond off [] (encode (BusError (id_of op) i.code (flag_at j i.detector) (own (eqb j owner))) [])

-- Arbitration Lost for a frame by its ID, unless it is the winner
abbrev pub notice_of : Bool → ℕ → List ℕ
notice_of wins id = cond wins [] (encode (ArbitrationLost id) [])

-- the notices for the frames of n slots from p on, by the IDs in all slots
unfoldable pub notices_but : List ℕ → ℕ → ℕ → ℕ → List ℕ
notices_but ids winner p zero = []
notices_but ids winner p (suc n) = notice_of (eqb p winner) (get_or ids p 0) ++ notices_but ids winner (suc p) n

-- all that node j is owed, by its entry; the winner is op, in the owner's slot at a position
unfoldable pub owed_to : Option Injection → NodeState → ℕ → ℕ → ℕ → Operation → List ℕ → List ℕ → List ℕ
owed_to e d j owner position op ids bytes =
    news_to e j owner (is_off d) op bytes
    ++ notices_but ids (slots_per_node * owner + position) (slots_per_node * j) (discarded d)

-- ---- their number

-- of Confirm, Arbitration Lost and Bus Error, whatever their fields
abbrev pub confirm_length : ℕ
confirm_length = length_of (Confirm 0)

abbrev pub lost_length : ℕ
lost_length = length_of (ArbitrationLost 0)

abbrev pub error_length : ℕ
error_length = length_of (BusError 0 0 0 0)

-- of the news, by whether the winner is the node's own and whether the node is Bus-Off
abbrev pub news_length : Option Injection → Bool → Bool → ℕ → ℕ
news_length None mine off size = cond mine confirm_length (cond off 0 size)
news_length (Some i) mine off size = cond off 0 error_length

-- of all that a node is owed; size is the length of the winner's Transmit
unfoldable pub owed_length : Option Injection → NodeState → Bool → ℕ → ℕ
owed_length e d mine size = news_length e mine (is_off d) size + lost_length * told_count d mine

-- each of n queues from number j on has room for what its node is owed
unfoldable pub room_from : Option Injection → List NodeState → ℕ → ℕ → ℕ → ℕ → Bool
room_from e nodes owner size j zero = true
room_from e nodes owner size j (suc n) =
    leb ((entry_of nodes j).fill + owed_length e (entry_of nodes j) (eqb j owner) size) bytes_per_queue
    && room_from e nodes owner size (suc j) n
