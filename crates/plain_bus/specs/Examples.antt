-- Examples. W1 to W10 as one table, and the statement about it (01, "Sessions to check by hand").
-- Assumes nothing.
use Rattle.std.specs.Prelude.{ℕ, ◌≡◌, List, [], ◌∷◌, ◌++◌, map, Bool, true, false, length, Option, Some, Err}
use Rattle.operation.specs.Format.{encode}
use Rattle.operation.specs.Rules.{legal}
use Rattle.operation.specs.declared.Operation.{Operation}
use Rattle.operation.specs.declared.Operation.TheVariants.{CanTransmit, FdTransmit, XlTransmit, Confirm, ArbitrationLost, Configuration}
use Rattle.decoder.specs.Front.{sized, front}
use Rattle.decoder.specs.Reading.{read_at, data_at}
use Rattle.decoder.specs.Stream.{Item, fault, items_of}
use Rattle.decoder.specs.declared.Reading.{Reading}
use Rattle.decoder.specs.declared.Front.{Front}
use Rattle.decoder.specs.declared.Fault.TheVariants.{BadLength}
use Rattle.plain_bus.specs.Held.{Node, Bus}
use Rattle.plain_bus.specs.Refusal.{four_pending}
use Rattle.plain_bus.specs.Round.{no_error}
use Rattle.plain_bus.specs.Calls.{Answer, refused, accepted, carried, answer_number, start}
use Rattle.plain_bus.specs.Register.{Register, Update, update_number, register_after, enter, read}
use Rattle.plain_bus.specs.Session.{Call, submission, round, calls, answers, times}
use Rattle.plain_bus.specs.Network.{NodeRegisters, new_network, play}

-- what a line asks: the bytes of an operation; whether it meets the content rules; what stands at the front of some bytes, in all of
-- them, or at a position; the data of an operation that ends at a position; how often an ID is among some; of a session of so many
-- nodes, how it ends, or the numbers of its answers, or the settings at its end, or what the registers have open; how a session ends
-- that starts from a given bus; what entering, or reading, some bytes does to a register
pub data Question : Type 0 where
  written : Operation → List ℕ → Question
  is_legal : Operation → Question
  front_of items_in : List ℕ → Question
  read_from : List ℕ → ℕ → Question
  data_of : List ℕ → Operation → ℕ → Question
  times_in : ℕ → List ℕ → Question
  session numbered settled registered : ℕ → List Call → Question
  session_from : Bus → List Call → Question
  entering reading : Register → List ℕ → Question

-- the end of a session: the calls' answers, then for each node how many frames are pending, and its queue;
-- numbers: of the start, then of each call; settings: the round number, and each node's status, behaviour and baud rates;
-- open IDs: the register calls' numbers, newest first, then each register's IDs
pub data Reply : Type 0 where
  bytes : List ℕ → Reply
  truth : Bool → Reply
  stands : Option Front → Reply
  items : List Item → Reply
  reads : Option Reading → Reply
  ends : List Answer → List ℕ → List (List ℕ) → Reply
  numbers : List ℕ → Reply
  settings : ℕ → List (List ℕ) → Reply
  opens : List ℕ → List (List ℕ) → Reply

abbrev pub at_end : List Answer → Bus → Reply
at_end given b = ends given (map (λ (d : Node). length d.pending) b.nodes) (map (λ (d : Node). d.queue) b.nodes)

abbrev pub settings_of : Node → List ℕ
settings_of d = d.status ∷ d.behaviour ∷ d.rates

abbrev pub at_settings : Bus → Reply
at_settings b = settings b.round (map settings_of b.nodes)

abbrev pub in_registers : NodeRegisters → Reply
in_registers rs = opens rs.answers (map (λ (r : Register). r.opened) rs.each)

abbrev pub in_register : Register → Update → Reply
in_register r u = opens (update_number u ∷ []) ((register_after r u).opened ∷ [])

unfoldable pub reply : Question → Reply
reply (written op payload) = bytes (encode op payload)
reply (is_legal op) = truth (legal op)
reply (front_of s) = stands (front s)
reply (items_in s) = items (items_of s)
reply (read_from s at) = reads (read_at s at)
reply (data_of s op end) = bytes (data_at s op end)
reply (times_in id ids) = numbers (times id ids ∷ [])
reply (session n cs) = at_end (answers cs (start n).bus) (calls cs (start n).bus)
reply (session_from b cs) = at_end (answers cs b) (calls cs b)
reply (numbered n cs) = numbers (map answer_number ((start n).answer ∷ answers cs (start n).bus))
reply (settled n cs) = at_settings (calls cs (start n).bus)
reply (registered n cs) = in_registers (play cs (new_network (start n).bus)).registers
reply (entering r s) = in_register r (enter r s)
reply (reading r s) = in_register r (read r s)

-- ---- a table of questions, each with the reply that is expected

pub record Line : Type 0 where
  pub asks : Question
  pub expects : Reply

abbrev pub ◌gives◌ : Question → Reply → Line
◌gives◌ q a = record { asks = q; expects = a }

infix 70 ◌gives◌
unfoldable pub computed : List Line → List Reply
computed ls = map (λ (l : Line). reply l.asks) ls

unfoldable pub expected : List Line → List Reply
expected ls = map (λ (l : Line). l.expects) ls

-- ---- the bytes that 01 prints

abbrev pub w1 : List ℕ
w1 = 0x10 ∷ 0 ∷ 0 ∷ 0 ∷ 0x12 ∷ 0 ∷ 0 ∷ 0 ∷ 0x0F ∷ 0 ∷ 0 ∷ 0 ∷ 0 ∷ 0 ∷ 2 ∷ 0 ∷ 0xAA ∷ 0xBB ∷ []

abbrev pub w2 : List ℕ
w2 = 0x20 ∷ 0 ∷ 0 ∷ 0 ∷ 0x0C ∷ 0 ∷ 0 ∷ 0 ∷ 0x0F ∷ 0 ∷ 0 ∷ 0 ∷ []

abbrev pub w3 : List ℕ
w3 = 0x30 ∷ 0 ∷ 0 ∷ 0 ∷ 0x0C ∷ 0 ∷ 0 ∷ 0 ∷ 0x10 ∷ 0 ∷ 0 ∷ 0 ∷ []

abbrev pub w4 : List ℕ
w4 = 1 ∷ 0 ∷ 0 ∷ 0 ∷ 0x0D ∷ 0 ∷ 0 ∷ 0 ∷ 3 ∷ 0 ∷ 1 ∷ 2 ∷ 3 ∷ []

abbrev pub confirm16 : List ℕ
confirm16 = 0x20 ∷ 0 ∷ 0 ∷ 0 ∷ 0x0C ∷ 0 ∷ 0 ∷ 0 ∷ 0x10 ∷ 0 ∷ 0 ∷ 0 ∷ []

abbrev pub transmit16 : List ℕ
transmit16 = 0x10 ∷ 0 ∷ 0 ∷ 0 ∷ 0x10 ∷ 0 ∷ 0 ∷ 0 ∷ 0x10 ∷ 0 ∷ 0 ∷ 0 ∷ 0 ∷ 0 ∷ 0 ∷ 0 ∷ []

-- twelve bytes with the length field n
abbrev pub twelve : ℕ → List ℕ
twelve n = 0x20 ∷ 0 ∷ 0 ∷ 0 ∷ n ∷ 0 ∷ 0 ∷ 0 ∷ 1 ∷ 0 ∷ 0 ∷ 0 ∷ []

-- Configuration that sets the node to DISCARD_AND_NOTIFY
abbrev pub discarding : List ℕ
discarding = encode (Configuration 4 2) []

-- ---- W1 to W10

unfoldable pub table : List Line
table =
    written (CanTransmit 15 0 0 2) (0xAA ∷ 0xBB ∷ []) gives bytes w1
    ∷ written (Confirm 15) [] gives bytes w2
    ∷ written (ArbitrationLost 16) [] gives bytes w3
    ∷ session 2 (submission 0 (1 ∷ 2 ∷ 3 ∷ []) ∷ []) gives ends (accepted ∷ []) (0 ∷ 0 ∷ []) (w4 ∷ [] ∷ [])
    ∷ session 3 (submission 0 w1 ∷ submission 1 (discarding ++ transmit16) ∷ round no_error ∷ [])
    gives ends (accepted ∷ accepted ∷ carried 0 15 false 0 ∷ []) (0 ∷ 0 ∷ 0 ∷ []) (w2 ∷ (w1 ++ w3) ∷ w1 ∷ [])
    ∷ session 3 (submission 0 w1 ∷ submission 1 transmit16 ∷ round no_error ∷ [])
    gives ends (accepted ∷ accepted ∷ carried 0 15 false 0 ∷ []) (0 ∷ 1 ∷ 0 ∷ []) (w2 ∷ w1 ∷ w1 ∷ [])
    ∷ session 3 (submission 0 w1 ∷ submission 1 transmit16 ∷ round no_error ∷ round no_error ∷ [])
    gives ends (accepted ∷ accepted ∷ carried 0 15 false 0 ∷ carried 1 16 false 1 ∷ []) (0 ∷ 0 ∷ 0 ∷ [])
    ((w2 ++ transmit16) ∷ (w1 ++ confirm16) ∷ (w1 ++ transmit16) ∷ [])
    ∷ session 2 (submission 0 (transmit16 ++ transmit16 ++ transmit16 ++ transmit16 ++ transmit16) ∷ [])
    gives ends (refused four_pending ∷ []) (0 ∷ 0 ∷ []) ([] ∷ [] ∷ [])
    ∷ numbered 2 (submission 0 (transmit16 ++ transmit16 ++ transmit16 ++ transmit16 ++ transmit16) ∷ []) gives numbers (0 ∷ 8 ∷ [])
    ∷ is_legal (CanTransmit 2_047 0 0 0) gives truth true
    ∷ is_legal (CanTransmit 2_048 0 0 0) gives truth false
    ∷ is_legal (FdTransmit 536_870_911 1 0 0 0) gives truth true
    ∷ is_legal (XlTransmit 536_870_912 1 0 0 0 0 1) gives truth false
    -- W9 means Rtr 0 (02, wish 7)
    ∷ is_legal (CanTransmit 1 0 0 8) gives truth true
    ∷ is_legal (CanTransmit 1 0 0 9) gives truth false
    ∷ is_legal (FdTransmit 1 0 0 0 9) gives truth false
    ∷ is_legal (FdTransmit 1 0 0 0 12) gives truth true
    ∷ is_legal (FdTransmit 1 0 0 0 64) gives truth true
    ∷ is_legal (XlTransmit 1 0 0 0 0 0 0) gives truth false
    ∷ is_legal (XlTransmit 1 0 0 0 0 0 2_049) gives truth false
    ∷ is_legal (XlTransmit 1 0 0 0 0 0 2_048) gives truth true
    ∷ front_of (twelve 7) gives stands (Some (sized (Err BadLength) 12))
    ∷ front_of (twelve 13) gives stands (Some (sized (Err BadLength) 12))
    ∷ items_in (twelve 7) gives items (fault 2 (twelve 7) ∷ [])
    ∷ items_in (twelve 13) gives items (fault 2 (twelve 13) ∷ [])
    ∷ []

-- the one statement: the definitions compute what 01 prints
abbrev pub W1toW10 : Type 0
W1toW10 = computed table ≡ expected table
