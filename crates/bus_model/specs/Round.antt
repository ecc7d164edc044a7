-- Contract. One round on the state and the lent memory (01, "One round").
-- Assumes nothing.
use Rattle.std.specs.Prelude.{ℕ, zero, suc, ◌+◌, ◌*◌, List, [], ◌++◌, Bool, cond, eqb}
use Rattle.operation.specs.Format.{encode}
use Rattle.operation.specs.declared.Operation.TheVariants.{Confirm, ArbitrationLost}
use Rattle.operation.specs.Kinds.{id_of}
use Rattle.plain_bus.specs.Held.{discard_and_notify}
use Rattle.plain_bus.specs.Order.{Entry, Winner, nobody, better}
use Rattle.plain_bus.specs.Round.{Injection, no_error, injected, winner_id, error_for}
use Rattle.bus_state.specs.Memory.{Memory, slots_per_node, operation_at, frame_at}
use Rattle.bus_model.specs.Primitives.{entry_at, off_at, set_round, append, drop_frames, remove_frame, in_turn}

-- ---- the winner: a scan of the slots in use

-- the frame in node j's slot q, with its bytes as they are taken from the payload
abbrev pub pending_at : Memory → ℕ → ℕ → Entry
pending_at m j q = record { owner = j; position = q; frame = frame_at m (slots_per_node * j + q) }

-- the first of w and n frames of node j from q on
unfoldable pub scan_frames : Memory → ℕ → ℕ → ℕ → Winner → Winner
scan_frames m j q zero w = w
scan_frames m j q (suc n) w = scan_frames m j (suc q) n (better w (pending_at m j q))

-- the first of w and the frames of n nodes from number j on
unfoldable pub scan_nodes : Memory → ℕ → ℕ → Winner → Winner
scan_nodes m j zero w = w
scan_nodes m j (suc n) w = scan_nodes m (suc j) n (scan_frames m j 0 (entry_at m j).pending w)

unfoldable pub winner_in : Memory → Winner
winner_in m = scan_nodes m 0 m.state.count nobody

-- ---- what node j is owed, and what becomes of it

abbrev pub discards_at : Memory → ℕ → Bool
discards_at m j = eqb (entry_at m j).behaviour discard_and_notify

-- for the winner: nothing at a Bus-Off node
unfoldable pub news_at : Injection → Entry → Memory → ℕ → List ℕ
news_at no_error w m j =
    cond (eqb j w.owner) (encode (Confirm (winner_id w)) []) (cond (off_at m j) [] w.frame.bytes)
news_at (injected code detector) w m j =
    cond (off_at m j) [] (encode (error_for w code (eqb j detector) (eqb j w.owner)) [])

-- Arbitration Lost for the frames of n slots from p on
unfoldable pub notices_from : Memory → ℕ → ℕ → List ℕ
notices_from m p zero = []
notices_from m p (suc n) = encode (ArbitrationLost (id_of (operation_at m p))) [] ++ notices_from m (suc p) n

-- for the frames that node j still has pending, where it discards
unfoldable pub notices_at : Memory → ℕ → List ℕ
notices_at m j = cond (discards_at m j) (notices_from m (slots_per_node * j) (entry_at m j).pending) []

-- the winner is removed
unfoldable pub without_winner : Entry → Memory → ℕ → Memory
without_winner w m j = cond (eqb j w.owner) (remove_frame m j w.position) m

unfoldable pub owed_at : Injection → Entry → Memory → ℕ → List ℕ
owed_at e w m j = news_at e w m j ++ notices_at (without_winner w m j) j

-- the losers are removed where node j discards
unfoldable pub without_losers : Memory → ℕ → Memory
without_losers m j = cond (discards_at m j) (drop_frames m j) m

unfoldable pub settle_at : Injection → Entry → Memory → ℕ → Memory
settle_at e w m j = append (without_losers (without_winner w m j) j) j (owed_at e w m j)

-- the memory after a round that w won
unfoldable pub after_round_in : Injection → Entry → Memory → Memory
after_round_in e w m = set_round (in_turn (settle_at e w) 0 m.state.count m) (m.state.round + 1)
