-- Believed. Submitting a buffer, one step an item (01, "Handing in").
-- Assumes nothing.
use Rattle.std.specs.Prelude.{ℕ, ◌-◌, List, [], ◌∷◌, ◌++◌, Bool, cond, ◌&&◌, ◌||◌, leb, eqb, length, set}
use Rattle.operation.specs.Number.{number_at}
use Rattle.operation.specs.Format.{encode}
use Rattle.operation.specs.declared.Operation.{Operation}
use Rattle.operation.specs.declared.Operation.TheVariants.{FormatError, CanTransmit, FdTransmit, XlTransmit, Confirm, ArbitrationLost, BusError, Configuration, Status, Wakeup}
use Rattle.decoder.specs.Stream.{Item, operation, fault}
use Rattle.plain_bus.specs.Held.{Frame, Node, Bus, max_pending, bus_off, is_off, with_status, with_behaviour, with_rates, with_pending, with_queue, with_nodes, with_node, node_at, each_node, has_room, all_have_room, enqueue}
use Rattle.plain_bus.specs.Refusal.{Refusal, four_pending, queue_full}

-- what a step gives: the bus after it, or the refusal
pub data Step : Type 0 where
  done : Bus → Step
  fails : Refusal → Step

-- a Transmit becomes pending; at a Bus-Off node it has no effect
abbrev pub accept : Node → Frame → Node
accept d f = with_pending d (d.pending ++ f ∷ [])

unfoldable pub take_transmit : Bus → ℕ → Operation → List ℕ → Step
take_transmit b k op bytes =
    cond (is_off (node_at b k)) (done b)
    (cond (leb max_pending (length (node_at b k).pending)) (fails four_pending)
    (done (with_node b k (accept (node_at b k) (record { op = op; bytes = bytes; accepted = b.round })))))

-- a Configuration of kind 4 sets the behaviour, of kinds 1 to 3 a baud rate
unfoldable pub configure : Node → ℕ → ℕ → Node
configure d kind value = cond (eqb kind 4) (with_behaviour d value) (with_rates d (set d.rates (kind - 1) value))

-- a Status sets the status; Bus-Off removes all the node's pending frames and empties its queue
abbrev pub cleared : Node → Node
cleared d = with_queue (with_pending d []) []

unfoldable pub set_status : Node → ℕ → Node
set_status d status = with_status (cond (eqb status bus_off) (cleared d) d) status

-- what a Wakeup of node k adds at node j: nothing at k itself and at a Bus-Off node
abbrev pub wakeup_for : ℕ → ℕ → Node → List ℕ
wakeup_for k j d = cond (eqb j k || is_off d) [] (encode Wakeup [])

abbrev pub wake : ℕ → ℕ → Node → Node
wake k j d = enqueue d (wakeup_for k j d)

unfoldable pub take_wakeup : Bus → ℕ → Step
take_wakeup b k =
    cond (is_off (node_at b k)) (done b)
    (cond (all_have_room (wakeup_for k) b) (done (with_nodes b (each_node (wake k) 0 b.nodes))) (fails queue_full))

-- a Format Error with the complete bytes of what it answers
abbrev pub format_error : List ℕ → List ℕ
format_error bytes = encode (FormatError (length bytes)) bytes

unfoldable pub answer_format_error : Bus → ℕ → List ℕ → Step
answer_format_error b k bytes =
    cond (has_room (node_at b k) (format_error bytes)) (done (with_node b k (enqueue (node_at b k) (format_error bytes))))
    (fails queue_full)

-- a faulty operation of at least 4 bytes whose code is that of Format Error has no effect
abbrev pub unanswered : List ℕ → Bool
unanswered bytes = leb 4 (length bytes) && eqb (number_at 4 bytes 0) 0x01

-- one step: an item of node k's buffer
unfoldable pub take_item : Bus → ℕ → Item → Step
take_item b k (operation (FormatError n) bytes) = done b
take_item b k (operation (CanTransmit id ide rtr dl) bytes) = take_transmit b k (CanTransmit id ide rtr dl) bytes
take_item b k (operation (FdTransmit id ide brs esi dl) bytes) = take_transmit b k (FdTransmit id ide brs esi dl) bytes
take_item b k (operation (XlTransmit id ide sec sdt vcid af dl) bytes) =
    take_transmit b k (XlTransmit id ide sec sdt vcid af dl) bytes
take_item b k (operation (Confirm id) bytes) = answer_format_error b k bytes
take_item b k (operation (ArbitrationLost id) bytes) = answer_format_error b k bytes
take_item b k (operation (BusError id code flag sender) bytes) = answer_format_error b k bytes
take_item b k (operation (Configuration kind value) bytes) = done (with_node b k (configure (node_at b k) kind value))
take_item b k (operation (Status status) bytes) = done (with_node b k (set_status (node_at b k) status))
take_item b k (operation Wakeup bytes) = take_wakeup b k
take_item b k (fault number bytes) = cond (unanswered bytes) (done b) (answer_format_error b k bytes)

-- all steps, one by one: the first that fails decides
unfoldable pub take_items : ℕ → List Item → Step → Step
take_items k [] s = s
take_items k (i ∷ is) (fails r) = fails r
take_items k (i ∷ is) (done b) = take_items k is (take_item b k i)
