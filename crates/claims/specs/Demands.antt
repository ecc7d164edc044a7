-- Believed. The customer's demands (00, item 4): what is demanded of each call of the bus and of the registers, by what it is given, what
-- it answers and what it leaves; and demand 3 of whole sessions of such calls. That the public calls meet these is in Exported. The
-- rules that they are held to are those of the plain bus.
-- Assumes nothing.
use Rattle.std.specs.Prelude.{ℕ, ◌+◌, ◌<◌, ◌≡◌, ◌⊎◌, List, [], ◌∷◌, ◌++◌, map, true, false, cond, eqb, length, get_or, set, replicate}
use Rattle.operation.specs.Number.{Bytes}
use Rattle.decoder.specs.Stream.{items_of}
use Rattle.slots.specs.Slots.{free_slot}
use Rattle.slots.specs.declared.Slot.{Slot}
use Rattle.plain_bus.specs.Held.{Frame, Bus, discards, node_at}
use Rattle.plain_bus.specs.Order.{Entry, goes_before, Pending}
use Rattle.plain_bus.specs.Round.{Injection, is_errored, winner_id, without, owed, injection_from}
use Rattle.plain_bus.specs.Calls as plain
use Rattle.plain_bus.specs.Register.{new_register, enter, read}
use Rattle.plain_bus.specs.Session as session
use Rattle.plain_bus.specs.Session.{times, pending_ids, closing_ids, all_zero}
use Rattle.bus_state.specs.Memory.{Memory, held, slot_count, view, lent_well}
use Rattle.bus_state.specs.Validity.{ValidMemory}
use Rattle.bus_state.specs.declared.State.{State}
use Rattle.outcome.specs.Outcome.{outcome_of, refusal_row, answer_of}
use Rattle.outcome.specs.declared.Answer.{Answer}
use Rattle.open_frames.specs.Record.{open_in, record_of, answered}
use Rattle.open_frames.specs.declared.Register.{Register}
use Rattle.open_frames.specs.declared.RegisterAnswer.{RegisterAnswer}
use Rattle.claims.specs.Numbers.{Rows, first_row, start_rows, call_rows, enter_rows, read_rows}

-- ---- a call after a start

-- with what it is given besides state and lent memory: a node and its buffer, which holds bytes; the three numbers of an injection;
-- a node and the caller's buffer
pub data Call : Type 0 where
  submits : (node : ℕ) (buffer : List ℕ) → Bytes buffer → Call
  arbitrates : (present code detector : ℕ) → Call
  collects : (node : ℕ) (buffer : List ℕ) → Call

-- the same call to the plain bus, which is fed only the arguments, and of collect's buffer only the length
abbrev pub plain_call : Call → session.Call
plain_call (submits node buffer u) = session.submission node buffer
plain_call (arbitrates present code detector) = session.round (injection_from present code detector)
plain_call (collects node buffer) = session.collection node (length buffer)

-- an answer of the plain bus, with 01's number and values
abbrev pub AnswersAs : plain.Answer → Answer → Type 0
AnswersAs p a = a ≡ answer_of (outcome_of p) a.state

-- a memory that refusals 1 and 3 let pass
pub record Passes (m : Memory) : Type 0 where
  pub lent : lent_well m ≡ true
  pub valid : ValidMemory m

-- a call of the bus answers and leaves what the plain bus does: p is what the plain bus's call comes to, a the answer, out the bytes that
-- were given, and m the memory with the state in the answer
pub record SameAs (p : plain.Outcome) (a : Answer) (out : List ℕ) (m : Memory) : Type 0 where
  pub answer : AnswersAs p.answer a
  pub bytes : out ≡ plain.bytes_given p.answer
  pub bus : view m ≡ p.bus
  pub passes : Passes m

-- ---- demand 2: a round

-- it takes the pending frame w, and the bus b becomes b'
pub record Takes (e : Injection) (w : Entry) (a : Answer) (b b' : Bus) : Type 0 where
  -- it goes before every other
  pub pending : Pending b w
  pub first : (y : Entry) → Pending b y → (y ≡ w) ⊎ (goes_before w y ≡ true)
  -- the answer names its sender, its ID, whether errored, and how many rounds ago it was accepted
  pub busy : a.idle ≡ 0
  pub sender : a.sender ≡ w.owner
  pub id : a.id ≡ winner_id w
  pub errored : a.errored ≡ cond (is_errored e) 1 0
  pub age : w.frame.accepted + a.age ≡ b.round
  pub round : b'.round ≡ b.round + 1
  -- each queue gets what it is owed
  pub queues : (j : ℕ) → j < length b.nodes → (node_at b' j).queue ≡ (node_at b j).queue ++ owed e w j (node_at b j)
  -- w is removed; a node that discards keeps nothing pending; a frame that loses elsewhere waits on as it is
  pub removed : discards (node_at b w.owner) ≡ false
      → (node_at b' w.owner).pending ≡ without w.position (node_at b w.owner).pending
  pub discarded : (j : ℕ) → j < length b.nodes → discards (node_at b j) ≡ true → (node_at b' j).pending ≡ []
  pub waiting : (j : ℕ) → j < length b.nodes → (j ≡ w.owner → ⊥) → discards (node_at b j) ≡ false
      → (node_at b' j).pending ≡ (node_at b j).pending

-- a round that is not refused: idle, where nothing is pending and nothing changes, or it takes a frame
pub data Round (e : Injection) (m : Memory) (a : Answer) (m' : Memory) : Type 0 where
  idles : ((y : Entry) → Pending (view m) y → ⊥) → AnswersAs plain.idle a → m' ≡ m → Round e m a m'
  takes : (w : Entry) → Takes e w a (view m) (view m') → Round e m a m'

-- of the other calls nothing more is said
abbrev pub IfRound : Call → Memory → Answer → Memory → Type 0
IfRound (submits node buffer u) m a m' = Unit {0}
IfRound (arbitrates present code detector) m a m' = Round (injection_from present code detector) m a m'
IfRound (collects node buffer) m a m' = Unit {0}

-- one of some frames
abbrev pub Among : Frame → List Frame → Type 0
Among f [] = ⊥
Among f (g ∷ fs) = (f ≡ g) ⊎ Among f fs

-- ---- what is demanded of submit, round and collect

-- the call c found the memory m, answered a, gave the bytes out, and left m': the state in its answer and the lent memory
pub record Demanded (c : Call) (m : Memory) (a : Answer) (out : List ℕ) (m' : Memory) : Type 0 where
  -- demand 1: the number is that of the first row that applies; a refused call gives only its number and changes nothing
  pub number : a.number ≡ first_row (call_rows m (plain_call c))
  pub kept : (a.number ≡ 0 → ⊥) → (a ≡ refusal_row a.number m.state) × (m' ≡ m) × (out ≡ [])
  -- demand 2: where 1 and 3 do not arise, it is the plain bus's call on what is read from the memory
  pub same : Passes m → SameAs (session.call (view m) (plain_call c)) a out m'
  pub round : Passes m → a.number ≡ 0 → IfRound c m a m'
  -- no acceptance round is set anew: what is pending after a call was pending before it, as it is, or is accepted now
  pub accepted : Passes m → (j : ℕ) → j < length (view m).nodes → (f : Frame) → Among f (node_at (view m') j).pending
      → Among f (node_at (view m) j).pending ⊎ (f.accepted ≡ (view m).round)

-- ---- what is demanded of a start

-- it found the lent slots, payload and queues, answered a, and left the slots as after; payload and queues it only reads
pub record Started (slots : List Slot) (payload queues : List ℕ) (count : ℕ) (a : Answer) (after : List Slot) : Type 0 where
  pub number : a.number ≡ first_row (start_rows (held a.state slots payload queues) count)
  -- a refused one gives only its number and a state of node count 0
  pub kept : (a.number ≡ 0 → ⊥) → (a ≡ refusal_row a.number a.state) × (a.state.count ≡ 0) × (after ≡ slots)
  -- an accepted one frees all slots, and the bus is the plain bus at its start
  pub freed : a.number ≡ 0 → after ≡ replicate slot_count free_slot
  pub same : a.number ≡ 0 → SameAs (plain.start count) a [] (held a.state after payload queues)

-- ---- what is demanded of the registers

-- after entering a buffer whose submit was accepted, and after reading the bytes that an accepted collect gave
abbrev pub entered : Register → List ℕ → RegisterAnswer
entered r buffer = answered r (enter (open_in r) buffer)

abbrev pub closed : Register → List ℕ → RegisterAnswer
closed r bytes = answered r (read (open_in r) bytes)

-- the call found the register r and answered a, which is to be x
pub record RegisterAnswers (x : RegisterAnswer) (rows : Rows) (r : Register) (a : RegisterAnswer) : Type 0 where
  pub answer : a ≡ x
  -- demand 1
  pub number : a.number ≡ first_row rows
  pub kept : (a.number ≡ 0 → ⊥) → a.register ≡ r

abbrev pub Enters : Register → List ℕ → RegisterAnswer → Type 0
Enters r buffer a = RegisterAnswers (entered r buffer) (enter_rows (open_in r) buffer) r a

abbrev pub Closes : Register → List ℕ → RegisterAnswer → Type 0
Closes r bytes a = RegisterAnswers (closed r bytes) (read_rows (open_in r) bytes) r a

-- ---- demand 3: the registers

-- by node number, and the numbers that their calls answered, newest first
pub record Registers : Type 0 where
  pub each : List Register
  pub numbers : List ℕ

abbrev pub register_at : Registers → ℕ → Register
register_at rs k = get_or rs.each k (record_of new_register)

-- after a call of node k's register
abbrev pub keep : Registers → ℕ → RegisterAnswer → Registers
keep rs k a = record { each = set rs.each k a.register; numbers = a.number ∷ rs.numbers }

-- the register call that follows an accepted call: its buffer is entered, the bytes that it gave are read
unfoldable pub follow_up : Call → List ℕ → Registers → Registers
follow_up (submits node buffer u) out rs = keep rs node (entered (register_at rs node) buffer)
follow_up (arbitrates present code detector) out rs = rs
follow_up (collects node buffer) out rs = keep rs node (closed (register_at rs node) out)

-- ---- demand 3: any list of calls, one after the other

-- state and lent memory, and the registers
pub record World : Type 0 where
  pub memory : Memory
  pub registers : Registers

-- after a start: a new register for every attached node
abbrev pub opening : Memory → World
opening m = record { memory = m; registers = record { each = replicate m.state.count (record_of new_register); numbers = [] } }

-- one call on the memory as the last one left it, and the register call that follows where it was accepted
pub record Follows (c : Call) (w w' : World) : Type 0 where
  pub answer : Answer
  pub out : List ℕ
  pub demanded : Demanded c w.memory answer out w'.memory
  pub registers : w'.registers ≡ cond (eqb answer.number 0) (follow_up c out w.registers) w.registers

-- from w the calls lead to w'
abbrev pub Session : List Call → World → World → Type 0
Session [] w w' = w ≡ w'
Session (c ∷ cs) w w' = (v : World) × Follows c w v × Session cs v w'

-- what is claimed of a session that led to w, and of the plain bus b that was fed the same arguments
pub record Claim (w : World) (b : Bus) : Type 0 where
  -- all that the plain bus holds is what is read from state and lent memory
  pub bus : view w.memory ≡ b
  -- whatever call comes next, 1 and 3 do not arise, and its answer and the bytes that it gives are the plain bus's own
  pub passes : Passes w.memory
  pub same : (c : Call) (a : Answer) (out : List ℕ) (m : Memory) → Demanded c w.memory a out m
      → SameAs (session.call b (plain_call c)) a out m
  -- every register call answered 0
  pub all_done : all_zero w.registers.numbers ≡ true
  -- of every attached node and every ID number: how often the register has it open is how many pending frames have it, and how
  -- many closing operations still in the queue
  pub counts : (k : ℕ) → k < length b.nodes → (id : ℕ)
      → times id (open_in (register_at w.registers k)).opened
      ≡ times id (pending_ids (node_at b k).pending) + times id (closing_ids (items_of (node_at b k).queue))

pub record Demand3 : Type 0 where
  -- any lent memory and any accepted start, then any list of calls, refused ones included
  pub holds : (slots after : List Slot) (payload queues : List ℕ) (count : ℕ) (a : Answer)
      → Started slots payload queues count a after
      → a.number ≡ 0
      → (cs : List Call) (w : World)
      → Session cs (opening (held a.state after payload queues)) w
      → Claim w (session.calls (map plain_call cs) (plain.start count).bus)
  -- and it is said of something: where the lent memory has its sizes and the count is 2 to 8, such a start there is, and with it such a
  -- session for any list of calls
  pub exists : (slots : List Slot) (payload queues : List ℕ) (count : ℕ)
      → ((s : State) → first_row (start_rows (held s slots payload queues) count) ≡ 0)
      → (a : Answer) × (after : List Slot) × Started slots payload queues count a after
      × ((cs : List Call) → (w : World) × Session cs (opening (held a.state after payload queues)) w)
