-- Believed. One round that is carried out: what each node gets, what is removed, the age (01, "One round").
-- Assumes nothing.
use Rattle.std.specs.Prelude.{ℕ, zero, suc, ◌+◌, ◌-◌, List, [], ◌∷◌, ◌++◌, Bool, true, false, cond, eqb}
use Rattle.operation.specs.Format.{encode}
use Rattle.operation.specs.declared.Operation.{Operation}
use Rattle.operation.specs.declared.Operation.TheVariants.{Confirm, ArbitrationLost, BusError}
use Rattle.operation.specs.Kinds.{id_of}
use Rattle.plain_bus.specs.Held.{Frame, Node, Bus, is_off, discards, with_pending, with_nodes, with_round, each_node, enqueue}
use Rattle.plain_bus.specs.Order.{Entry}

-- an injected error: its code and the number of the node that detects it
pub data Injection : Type 0 where
  no_error : Injection
  injected : ℕ → ℕ → Injection

-- the injection that three numbers stand for: none where the first is 0, else an error's code and the number of the node that detects it
abbrev pub injection_from : ℕ → ℕ → ℕ → Injection
injection_from present code detector = cond (eqb present 0) no_error (injected code detector)

abbrev pub is_errored : Injection → Bool
is_errored no_error = false
is_errored (injected code detector) = true

abbrev pub primary_error_flag : ℕ
primary_error_flag = 1

abbrev pub secondary_error_flag : ℕ
secondary_error_flag = 2

abbrev pub winner_id : Entry → ℕ
winner_id w = id_of w.frame.op

-- Bus Error for the winner: at the detecting node with the primary flag, and at the sender with Is Sender 1
abbrev pub error_for : Entry → ℕ → Bool → Bool → Operation
error_for w code detects sends =
    BusError (winner_id w) code (cond detects primary_error_flag secondary_error_flag) (cond sends 1 0)

-- what node j gets for the winner w: without an error the Transmit as submitted, and the sender Confirm; with an error all
-- Bus Error instead; a Bus-Off node nothing
unfoldable pub news_for : Injection → Entry → ℕ → Node → List ℕ
news_for no_error w j d =
    cond (eqb j w.owner) (encode (Confirm (winner_id w)) []) (cond (is_off d) [] w.frame.bytes)
news_for (injected code detector) w j d =
    cond (is_off d) [] (encode (error_for w code (eqb j detector) (eqb j w.owner)) [])

-- a list without its element at a position
unfoldable pub without : ℕ → List Frame → List Frame
without i [] = []
without zero (f ∷ fs) = fs
without (suc i) (f ∷ fs) = f ∷ without i fs

-- node j's frames that are pending once the winner is removed
unfoldable pub losers : Entry → ℕ → Node → List Frame
losers w j d = cond (eqb j w.owner) (without w.position d.pending) d.pending

-- Arbitration Lost for each of some frames, in order of acceptance
unfoldable pub lost_notices : List Frame → List ℕ
lost_notices [] = []
lost_notices (f ∷ fs) = encode (ArbitrationLost (id_of f.op)) [] ++ lost_notices fs

-- where a node is set to DISCARD_AND_NOTIFY, the sender included, its losers are removed and told; else they stay pending
unfoldable pub told : Entry → ℕ → Node → List Frame
told w j d = cond (discards d) (losers w j d) []

unfoldable pub stay : Entry → ℕ → Node → List Frame
stay w j d = cond (discards d) [] (losers w j d)

-- all that a round adds to node j's queue
unfoldable pub owed : Injection → Entry → ℕ → Node → List ℕ
owed e w j d = news_for e w j d ++ lost_notices (told w j d)

unfoldable pub settle : Injection → Entry → ℕ → Node → Node
settle e w j d = enqueue (with_pending d (stay w j d)) (owed e w j d)

-- the bus after a round that w won
unfoldable pub after_round : Injection → Entry → Bus → Bus
after_round e w b = with_round (with_nodes b (each_node (settle e w) 0 b.nodes)) (b.round + 1)

-- the round number before this round less that at acceptance
unfoldable pub age : Bus → Entry → ℕ
age b w = b.round - w.frame.accepted
