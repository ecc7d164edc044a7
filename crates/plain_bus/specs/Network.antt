-- Internal. The plain bus with each attached node's register run along, for the worked examples and the proof of demand 3.
-- Assumes nothing.
use Rattle.std.specs.Prelude.{ℕ, List, [], ◌∷◌, cond, length, get_or, set, replicate}
use Rattle.plain_bus.specs.Held.{Bus}
use Rattle.plain_bus.specs.Calls.{Answer, is_done, bytes_given, Outcome}
use Rattle.plain_bus.specs.Register.{Register, new_register, Update, update_number, register_after, enter, read}
use Rattle.plain_bus.specs.Session.{Call, submission, round, collection, call}

-- by node number, and the numbers that the register calls answered, newest first
pub record NodeRegisters : Type 0 where
  pub each : List Register
  pub answers : List ℕ

abbrev pub node_register : NodeRegisters → ℕ → Register
node_register rs k = get_or rs.each k new_register

unfoldable pub note_update : NodeRegisters → ℕ → Update → NodeRegisters
note_update rs k u = record { each = set rs.each k (register_after (node_register rs k) u); answers = update_number u ∷ rs.answers }

-- the register call that follows a call: an accepted buffer is entered, collected bytes are read
unfoldable pub register_call : NodeRegisters → Call → Answer → NodeRegisters
register_call rs (submission k buffer) a = cond (is_done a) (note_update rs k (enter (node_register rs k) buffer)) rs
register_call rs (round e) a = rs
register_call rs (collection k room) a = cond (is_done a) (note_update rs k (read (node_register rs k) (bytes_given a))) rs

-- ---- the bus with its registers

pub record Network : Type 0 where
  pub bus : Bus
  pub registers : NodeRegisters

unfoldable pub new_network : Bus → Network
new_network b = record { bus = b; registers = record { each = replicate (length b.nodes) new_register; answers = [] } }

unfoldable pub network_after : Network → Call → Outcome → Network
network_after w c o = record { bus = o.bus; registers = register_call w.registers c o.answer }

unfoldable pub play : List Call → Network → Network
play [] w = w
play (c ∷ cs) w = play cs (network_after w c (call w.bus c))
