-- Examples. A second table: rules that are easy to get wrong, and the easy errors that 01 names, each as a short session.
-- Assumes nothing.
use Rattle.std.specs.Prelude.{ℕ, ◌-◌, ◌≡◌, List, [], ◌∷◌, ◌++◌, true, false, replicate, None, Some, Ok, Err}
use Rattle.operation.specs.Format.{encode}
use Rattle.operation.specs.declared.Operation.TheVariants.{FormatError, CanTransmit, FdTransmit, XlTransmit, Confirm, ArbitrationLost, BusError, Configuration, Status, Wakeup}
use Rattle.decoder.specs.Front.{sized}
use Rattle.decoder.specs.Reading.{ending}
use Rattle.decoder.specs.Stream.{operation, fault}
use Rattle.decoder.specs.declared.Fault.TheVariants.{TooFewLeft}
use Rattle.plain_bus.specs.Held.{Bus, last_round, new_node, with_pending, with_queue}
use Rattle.plain_bus.specs.Refusal.{not_attached, buffer_too_long, bad_injection, four_pending, queue_full, rounds_used_up, room_too_small}
use Rattle.plain_bus.specs.Round.{no_error, injected, injection_from}
use Rattle.plain_bus.specs.Calls.{refused, accepted, idle, carried, collected}
use Rattle.plain_bus.specs.Register.{Register, with_opened, new_register}
use Rattle.plain_bus.specs.Session.{submission, round, collection}
use Rattle.plain_bus.specs.Examples.{Line, ◌gives◌, written, front_of, items_in, read_from, data_of, times_in, session, numbered, settled, registered, session_from, entering, reading, bytes, stands, items, reads, ends, numbers, settings, opens, computed, expected, w1, w2, w3, w4, transmit16, discarding}

-- what the sessions submit and find queued: a standard and an extended frame without data, and the short operations
abbrev pub standard : ℕ → List ℕ
standard id = encode (CanTransmit id 0 0 0) []

abbrev pub extended : ℕ → List ℕ
extended id = encode (CanTransmit id 1 0 0) []

abbrev pub confirm : ℕ → List ℕ
confirm id = encode (Confirm id) []

abbrev pub lost : ℕ → List ℕ
lost id = encode (ArbitrationLost id) []

abbrev pub off : List ℕ
off = encode (Status 3) []

abbrev pub passive : List ℕ
passive = encode (Status 2) []

abbrev pub wakeup : List ℕ
wakeup = encode Wakeup []

abbrev pub setting : ℕ → ℕ → List ℕ
setting kind value = encode (Configuration kind value) []

-- Bus Error with an ID, code 4, and a flag and Is Sender
abbrev pub errored : ℕ → ℕ → ℕ → List ℕ
errored id flag sender = encode (BusError id 4 flag sender) []

abbrev pub format_error : ℕ → List ℕ → List ℕ
format_error n answered = encode (FormatError n) answered

-- four Transmits, and five
abbrev pub four : List ℕ
four = standard 1 ++ standard 1 ++ standard 1 ++ standard 1

abbrev pub five : List ℕ
five = four ++ standard 1

-- two frames with equal ID and different data
abbrev pub first5 : List ℕ
first5 = encode (CanTransmit 5 0 0 1) (0xBB ∷ [])

abbrev pub second5 : List ℕ
second5 = encode (CanTransmit 5 0 0 1) (0xAA ∷ [])

-- status, behaviour and baud rates of a new node
abbrev pub at_start : List ℕ
at_start = 1 ∷ 1 ∷ 500_000 ∷ 2_000_000 ∷ 10_000_000 ∷ []

abbrev pub holding : List ℕ → Register
holding ids = with_opened new_register ids

abbrev pub zeros : ℕ → List ℕ
zeros n = replicate n 0

-- at round r: node 0 has W1's frame pending, accepted at round a, and node 1 has n bytes queued
abbrev pub waiting : ℕ → ℕ → ℕ → Bus
waiting a r n =
    record {
      nodes =
          with_pending new_node (record { op = CanTransmit 15 0 0 2; bytes = w1; accepted = a } ∷ []) ∷ with_queue new_node (zeros n) ∷ [];
      round = r;
    }

-- ---- literal bytes

-- Bus Error with ID 15, code 4, flag 2, Is Sender 1
abbrev pub bus_error15 : List ℕ
bus_error15 = 0x31 ∷ 0 ∷ 0 ∷ 0 ∷ 0x0F ∷ 0 ∷ 0 ∷ 0 ∷ 0x0F ∷ 0 ∷ 0 ∷ 0 ∷ 4 ∷ 2 ∷ 1 ∷ []

-- CAN FD Transmit with ID 18, Ide 1, Brs 0, Esi 1, two data bytes
abbrev pub fd18 : List ℕ
fd18 = 0x11 ∷ 0 ∷ 0 ∷ 0 ∷ 0x13 ∷ 0 ∷ 0 ∷ 0 ∷ 0x12 ∷ 0 ∷ 0 ∷ 0 ∷ 1 ∷ 0 ∷ 1 ∷ 2 ∷ 0 ∷ 0xCC ∷ 0xDD ∷ []

-- CAN XL Transmit with ID 17, Ide 0, Sec 1, SDT 3, VCID 4, AF 0x08070605, two data bytes
abbrev pub xl17 : List ℕ
xl17 =
    0x12 ∷ 0 ∷ 0 ∷ 0 ∷ 0x18 ∷ 0 ∷ 0 ∷ 0 ∷ 0x11 ∷ 0 ∷ 0 ∷ 0 ∷ 0 ∷ 1 ∷ 3 ∷ 4 ∷ 5 ∷ 6 ∷ 7 ∷ 8 ∷ 2 ∷ 0 ∷ 0xAA ∷ 0xBB ∷ []

-- CAN FD Transmit with ID 19, Ide 1, Brs 0, Esi 1, no data
abbrev pub fd19 : List ℕ
fd19 = 0x11 ∷ 0 ∷ 0 ∷ 0 ∷ 0x11 ∷ 0 ∷ 0 ∷ 0 ∷ 0x13 ∷ 0 ∷ 0 ∷ 0 ∷ 1 ∷ 0 ∷ 1 ∷ 0 ∷ 0 ∷ []

-- CAN XL Transmit with ID 20, Ide 1, Sec 0, SDT 3, VCID 4, AF 0x08070605, one data byte
abbrev pub xl20 : List ℕ
xl20 =
    0x12 ∷ 0 ∷ 0 ∷ 0 ∷ 0x17 ∷ 0 ∷ 0 ∷ 0 ∷ 0x14 ∷ 0 ∷ 0 ∷ 0 ∷ 1 ∷ 0 ∷ 3 ∷ 4 ∷ 5 ∷ 6 ∷ 7 ∷ 8 ∷ 1 ∷ 0 ∷ 0xAA ∷ []

-- Configuration that sets the CAN baud rate to 250,000
abbrev pub rate250000 : List ℕ
rate250000 = 0x40 ∷ 0 ∷ 0 ∷ 0 ∷ 0x0D ∷ 0 ∷ 0 ∷ 0 ∷ 1 ∷ 0x90 ∷ 0xD0 ∷ 3 ∷ 0 ∷ []

-- CAN Transmit with ID 5, Ide 0, and an Rtr, a length field, a DL and data; remote frames (Rtr 1) with 0, 1 and 8 data bytes
abbrev pub classic : ℕ → ℕ → ℕ → List ℕ → List ℕ
classic rtr size dl payload =
    0x10 ∷ 0 ∷ 0 ∷ 0 ∷ size ∷ 0 ∷ 0 ∷ 0 ∷ 5 ∷ 0 ∷ 0 ∷ 0 ∷ 0 ∷ rtr ∷ dl ∷ 0 ∷ payload

abbrev pub remote0 : List ℕ
remote0 = classic 1 16 0 []

abbrev pub remote1 : List ℕ
remote1 = classic 1 17 1 (0xAA ∷ [])

abbrev pub remote8 : List ℕ
remote8 = classic 1 24 8 (1 ∷ 2 ∷ 3 ∷ 4 ∷ 5 ∷ 6 ∷ 7 ∷ 8 ∷ [])

-- a fault of each number: 7 bytes; a length field of 65,548; the code 0x01000042; a Status outside its table with one byte more
-- than it has (fault 4 goes first), and a Configuration of some kind; a Status outside its table
abbrev pub fault1 : List ℕ
fault1 = 0x42 ∷ 0 ∷ 0 ∷ 0 ∷ 8 ∷ 0 ∷ 0 ∷ []

abbrev pub fault2 : List ℕ
fault2 = 0x20 ∷ 0 ∷ 0 ∷ 0 ∷ 12 ∷ 0 ∷ 1 ∷ 0 ∷ 5 ∷ 0 ∷ 0 ∷ 0 ∷ []

abbrev pub fault3 : List ℕ
fault3 = 0x42 ∷ 0 ∷ 0 ∷ 1 ∷ 8 ∷ 0 ∷ 0 ∷ 0 ∷ []

abbrev pub fault4 : List ℕ
fault4 = 0x41 ∷ 0 ∷ 0 ∷ 0 ∷ 10 ∷ 0 ∷ 0 ∷ 0 ∷ 4 ∷ 0 ∷ []

abbrev pub of_kind : ℕ → List ℕ
of_kind kind = 0x40 ∷ 0 ∷ 0 ∷ 0 ∷ 13 ∷ 0 ∷ 0 ∷ 0 ∷ kind ∷ 1 ∷ 0 ∷ 0 ∷ 0 ∷ []

abbrev pub fault5 : List ℕ
fault5 = 0x41 ∷ 0 ∷ 0 ∷ 0 ∷ 9 ∷ 0 ∷ 0 ∷ 0 ∷ 4 ∷ []

unfoldable pub cases : List Line
cases =
    -- a Bus-Off node's own faults are answered, its Wakeups and Transmits have no effect, and five Transmits are not refused
    session 2
    (submission 1 (off ++ wakeup ++ five ++ 1 ∷ 2 ∷ 3 ∷ []) ∷ [])
    gives ends (accepted ∷ []) (0 ∷ 0 ∷ []) ([] ∷ w4 ∷ [])
    -- a fault of at least 4 bytes with the code of Format Error is not answered; the code is all four bytes
    ∷ session 2 (submission 0 (1 ∷ 0 ∷ 0 ∷ 0 ∷ []) ∷ submission 1 (1 ∷ 0 ∷ 0 ∷ 1 ∷ []) ∷ [])
    gives ends (accepted ∷ accepted ∷ []) (0 ∷ 0 ∷ []) ([] ∷ format_error 4 (1 ∷ 0 ∷ 0 ∷ 1 ∷ []) ∷ [])
    -- more bytes with that code, and fewer
    ∷ session 2 (submission 0 (1 ∷ 0 ∷ 0 ∷ 0 ∷ 9 ∷ []) ∷ submission 1 (1 ∷ 0 ∷ 0 ∷ []) ∷ [])
    gives ends (accepted ∷ accepted ∷ []) (0 ∷ 0 ∷ []) ([] ∷ format_error 3 (1 ∷ 0 ∷ 0 ∷ []) ∷ [])
    -- a Confirm, an Arbitration Lost and a Bus Error that are submitted are answered with their complete bytes, a Format Error is not
    ∷ session 2 (submission 0 (w2 ++ w3 ++ bus_error15 ++ w4) ∷ [])
    gives ends (accepted ∷ []) (0 ∷ 0 ∷ []) ((format_error 12 w2 ++ format_error 12 w3 ++ format_error 15 bus_error15) ∷ [] ∷ [])
    -- a Wakeup goes to every other node that is not Bus-Off
    ∷ session 3 (submission 2 off ∷ submission 0 wakeup ∷ [])
    gives ends (accepted ∷ accepted ∷ []) (0 ∷ 0 ∷ 0 ∷ []) ([] ∷ wakeup ∷ [] ∷ [])
    -- Status Bus-Off removes the pending frames and empties the queue: no old Confirm stays
    ∷ session 2 (submission 0 (w1 ++ transmit16) ∷ round no_error ∷ submission 0 off ∷ round no_error ∷ [])
    gives ends (accepted ∷ carried 0 15 false 0 ∷ accepted ∷ idle ∷ []) (0 ∷ 0 ∷ []) ([] ∷ w1 ∷ [])
    -- an injected error: everybody gets Bus Error, primary at the detecting node, Is Sender 1 at the sender
    ∷ session 3 (submission 1 w1 ∷ round (injected 4 2) ∷ [])
    gives ends (accepted ∷ carried 1 15 true 0 ∷ []) (0 ∷ 0 ∷ 0 ∷ [])
    (errored 15 2 0 ∷ bus_error15 ∷ errored 15 1 0 ∷ [])
    -- as the exported call names it: 0 for no error, then code and detecting node are not looked at
    ∷ session 2 (submission 0 (standard 5 ++ standard 6) ∷ round (injection_from 0 4 1) ∷ round (injection_from 1 4 1) ∷ [])
    gives ends (accepted ∷ carried 0 5 false 0 ∷ carried 0 6 true 1 ∷ []) (0 ∷ 0 ∷ [])
    ((confirm 5 ++ errored 6 2 1) ∷ (standard 5 ++ errored 6 1 0) ∷ [])
    -- a Bus-Off node gets nothing of a round, delivered or errored, and what it has queued stays
    ∷ session 3
    (submission 2 (off ++ 1 ∷ 2 ∷ 3 ∷ []) ∷ submission 0 (w1 ++ transmit16) ∷ round no_error ∷ round (injected 4 1) ∷ [])
    gives ends (accepted ∷ accepted ∷ carried 0 15 false 0 ∷ carried 0 16 true 1 ∷ []) (0 ∷ 0 ∷ 0 ∷ [])
    ((w2 ++ errored 16 2 1) ∷ (w1 ++ errored 16 1 0) ∷ w4 ∷ [])
    -- a frame accepted after round 0: the age counts from its acceptance
    ∷ session 2
    (submission 0 (standard 5) ∷ round no_error ∷ submission 0 (standard 7) ∷ submission 1 (standard 6) ∷ round no_error
    ∷ round no_error ∷ [])
    gives ends
    (accepted ∷ carried 0 5 false 0 ∷ accepted ∷ accepted ∷ carried 1 6 false 0 ∷ carried 0 7 false 1 ∷ [])
    (0 ∷ 0 ∷ []) ((confirm 5 ++ standard 6 ++ confirm 7) ∷ (standard 5 ++ confirm 6 ++ standard 7) ∷ [])
    -- two frames of one node with equal ID: the earlier accepted goes first, the other stays
    ∷ session 2 (submission 1 (first5 ++ second5) ∷ round no_error ∷ [])
    gives ends (accepted ∷ carried 1 5 false 0 ∷ []) (0 ∷ 1 ∷ []) (first5 ∷ confirm 5 ∷ [])
    -- so do they among other frames, of the node and of a later one
    ∷ session 3 (submission 0 (standard 9 ++ first5 ++ second5) ∷ submission 1 (standard 5) ∷ round no_error ∷ [])
    gives ends (accepted ∷ accepted ∷ carried 0 5 false 0 ∷ []) (2 ∷ 1 ∷ 0 ∷ []) (confirm 5 ∷ first5 ∷ first5 ∷ [])
    ∷ session 3 (submission 2 (first5 ++ second5) ∷ round no_error ∷ [])
    gives ends (accepted ∷ carried 2 5 false 0 ∷ []) (0 ∷ 0 ∷ 1 ∷ []) (first5 ∷ first5 ∷ confirm 5 ∷ [])
    -- the last round number: an idle round leaves it, one that is carried out reaches it, then 10
    ∷ session_from (waiting 4_294_967_292 (last_round - 1) 0)
    (round no_error ∷ round no_error ∷ submission 0 transmit16 ∷ round no_error ∷ [])
    gives ends (carried 0 15 false 2 ∷ idle ∷ accepted ∷ refused rounds_used_up ∷ []) (1 ∷ 0 ∷ []) (w2 ∷ w1 ∷ [])
    -- the sender's other frames are discarded too, after its Confirm and in order of acceptance; a setting changes no frame
    ∷ session 2 (submission 0 (standard 9 ++ setting 1 7 ++ standard 7 ++ discarding ++ standard 8) ∷ round no_error ∷ [])
    gives ends (accepted ∷ carried 0 7 false 0 ∷ []) (0 ∷ 0 ∷ []) ((confirm 7 ++ lost 9 ++ lost 8) ∷ standard 7 ∷ [])
    -- equal IDs, standard or extended, go by node, then by acceptance; a frame that loses keeps its acceptance round
    ∷ session 2
    (submission 1 (standard 5 ++ standard 5) ∷ submission 0 (extended 5) ∷ round no_error ∷ round no_error ∷ round no_error ∷ [])
    gives ends (accepted ∷ accepted ∷ carried 0 5 false 0 ∷ carried 1 5 false 1 ∷ carried 1 5 false 2 ∷ []) (0 ∷ 0 ∷ [])
    ((confirm 5 ++ standard 5 ++ standard 5) ∷ (extended 5 ++ confirm 5 ++ confirm 5) ∷ [])
    -- 6 before idle: a code outside the table, a node that is not attached, one that is Bus-Off
    ∷ session 2
    (submission 1 off ∷ round (injected 7 0) ∷ round (injected 1 2) ∷ round (injected 1 1) ∷ round (injected 1 0) ∷ [])
    gives ends (accepted ∷ refused bad_injection ∷ refused bad_injection ∷ refused bad_injection ∷ idle ∷ []) (0 ∷ 0 ∷ [])
    ([] ∷ [] ∷ [])
    -- collecting gives the queue and empties it; a buffer too small, or a node that is not attached, changes nothing
    ∷ session 2
    (submission 0 (1 ∷ 2 ∷ 3 ∷ []) ∷ collection 0 12 ∷ collection 0 13 ∷ collection 0 0 ∷ collection 2 9 ∷ submission 2 [] ∷ [])
    gives ends
    (accepted ∷ refused room_too_small ∷ collected w4 ∷ collected [] ∷ refused not_attached ∷ refused not_attached ∷ [])
    (0 ∷ 0 ∷ []) ([] ∷ [] ∷ [])
    ∷ session 2 (submission 0 (standard 5 ++ 1 ∷ 2 ∷ 3 ∷ []) ∷ collection 0 99 ∷ [])
    gives ends (accepted ∷ collected w4 ∷ []) (1 ∷ 0 ∷ []) ([] ∷ [] ∷ [])
    -- the first failing step decides, and nothing is taken: a fifth Transmit before a Status Bus-Off
    ∷ session 2
    (submission 0 four ∷ submission 0 (w2 ++ standard 1 ++ off) ∷ [])
    gives ends (accepted ∷ refused four_pending ∷ []) (4 ∷ 0 ∷ []) ([] ∷ [] ∷ [])
    -- the numbers: of a start, and of each call; a refused start attaches no node
    ∷ numbered 1 [] gives numbers (2 ∷ [])
    ∷ numbered 9 (submission 0 [] ∷ []) gives numbers (2 ∷ 4 ∷ [])
    ∷ numbered 8
    (submission 8 [] ∷ submission 7 [] ∷ collection 8 0 ∷ round (injected 7 0) ∷ round no_error ∷ submission 0 (1 ∷ 2 ∷ 3 ∷ [])
    ∷ collection 0 12 ∷ collection 0 13 ∷ submission 1 (standard 1) ∷ round no_error ∷ [])
    gives numbers (0 ∷ 4 ∷ 0 ∷ 4 ∷ 6 ∷ 0 ∷ 0 ∷ 11 ∷ 0 ∷ 0 ∷ 0 ∷ [])
    -- the settings at the start, and set by each kind of Configuration and by Status
    ∷ settled 2 [] gives settings 0 (at_start ∷ at_start ∷ [])
    ∷ settled 2
    (submission 0 (setting 1 7 ++ setting 2 8 ++ setting 3 9 ++ setting 4 2 ++ passive)
    ∷ submission 1 (passive ++ setting 4 1 ++ setting 2 6) ∷ [])
    gives settings 0 ((2 ∷ 2 ∷ 7 ∷ 8 ∷ 9 ∷ []) ∷ (2 ∷ 1 ∷ 500_000 ∷ 6 ∷ 10_000_000 ∷ []) ∷ [])
    -- a round, and what it queues, changes none
    ∷ settled 2 (submission 0 (standard 5) ∷ round no_error ∷ []) gives settings 1 (at_start ∷ at_start ∷ [])
    -- a Bus Error meant for another sender with the same ID closes nothing; Bus-Off empties the register
    ∷ registered 3
    (submission 0 (standard 5) ∷ submission 1 (standard 5) ∷ submission 2 (standard 6) ∷ submission 2 off
    ∷ round (injected 1 0) ∷ collection 0 99 ∷ collection 1 99 ∷ [])
    gives opens (0 ∷ 0 ∷ 0 ∷ 0 ∷ 0 ∷ 0 ∷ []) ([] ∷ (5 ∷ []) ∷ [] ∷ [])
    -- an FD and an XL Transmit become pending, are delivered and confirmed
    ∷ session 2 (submission 0 xl17 ∷ submission 1 fd18 ∷ round no_error ∷ round no_error ∷ [])
    gives ends (accepted ∷ accepted ∷ carried 0 17 false 0 ∷ carried 1 18 false 1 ∷ []) (0 ∷ 0 ∷ [])
    ((confirm 17 ++ fd18) ∷ (xl17 ++ confirm 18) ∷ [])
    -- their IDs are entered and closed, and those of a refused buffer are not entered
    ∷ registered 2
    (submission 0 xl17 ∷ submission 1 fd18 ∷ submission 1 five ∷ round no_error ∷ round no_error ∷ collection 0 99 ∷ [])
    gives opens (0 ∷ 0 ∷ 0 ∷ []) ([] ∷ (18 ∷ []) ∷ [])
    -- a closing takes out the first equal ID, and the rest keep their order; one with no such ID is 13, all or nothing
    ∷ reading (holding (3 ∷ 5 ∷ 4 ∷ 5 ∷ [])) (confirm 5 ++ off ++ standard 4 ++ xl17 ++ wakeup ++ setting 4 2 ++ w4 ++ lost 3)
    gives opens (0 ∷ []) ((4 ∷ 5 ∷ []) ∷ [])
    ∷ reading (holding (3 ∷ 4 ∷ [])) (confirm 3 ++ confirm 3) gives opens (13 ∷ []) ((3 ∷ 4 ∷ []) ∷ [])
    -- at a Bus-Off node nothing is entered, until another Status; only Transmits are; and a register that is not valid is 3
    ∷ entering (holding (3 ∷ [])) (standard 5 ++ off ++ standard 6) gives opens (0 ∷ []) ([] ∷ [])
    ∷ entering (holding (3 ∷ [])) (off ++ standard 6 ++ passive ++ standard 7) gives opens (0 ∷ []) ((7 ∷ []) ∷ [])
    ∷ entering (holding (536_870_911 ∷ [])) (standard 5 ++ passive ++ w2 ++ w3 ++ bus_error15 ++ extended 536_870_910)
    gives opens (0 ∷ []) ((536_870_911 ∷ 5 ∷ 536_870_910 ∷ []) ∷ [])
    ∷ entering (holding (536_870_912 ∷ [])) (standard 5) gives opens (3 ∷ []) ((536_870_912 ∷ []) ∷ [])
    -- a register that is Bus-Off and has an ID open is not valid either
    ∷ reading (record { opened = 3 ∷ []; off = true }) (confirm 3) gives opens (3 ∷ []) ((3 ∷ []) ∷ [])
    -- literal bytes: a Bus Error, FD and XL Transmits and a baud rate written, and read again
    ∷ written (BusError 15 4 2 1) [] gives bytes bus_error15
    ∷ written (FdTransmit 18 1 0 1 2) (0xCC ∷ 0xDD ∷ []) gives bytes fd18
    ∷ written (XlTransmit 17 0 1 3 4 0x08070605 2) (0xAA ∷ 0xBB ∷ []) gives bytes xl17
    ∷ written (FdTransmit 19 1 0 1 0) [] gives bytes fd19
    ∷ written (XlTransmit 20 1 0 3 4 0x08070605 1) (0xAA ∷ []) gives bytes xl20
    ∷ written (Configuration 1 250_000) [] gives bytes rate250000
    ∷ items_in (bus_error15 ++ fd18 ++ xl17 ++ w4 ++ fd19 ++ xl20 ++ rate250000)
    gives items
    (operation (BusError 15 4 2 1) bus_error15 ∷ operation (FdTransmit 18 1 0 1 2) fd18
    ∷ operation (XlTransmit 17 0 1 3 4 0x08070605 2) xl17 ∷ operation (FormatError 3) w4 ∷ operation (FdTransmit 19 1 0 1 0) fd19
    ∷ operation (XlTransmit 20 1 0 3 4 0x08070605 1) xl20 ∷ operation (Configuration 1 250_000) rate250000 ∷ [])
    -- reading at a position gives the position after it; past the end there is nothing
    ∷ read_from (w2 ++ w1 ++ fault1) 12 gives reads (Some (ending (Ok (CanTransmit 15 0 0 2)) 30))
    ∷ read_from (w2 ++ w1 ++ fault1) 30 gives reads (Some (ending (Err TooFewLeft) 37))
    ∷ read_from (w2 ++ w1 ++ fault1) 37 gives reads None
    -- the data end where the operation does, which has to lie in the buffer
    ∷ data_of (w2 ++ w1 ++ w2) (CanTransmit 15 0 0 2) 30 gives bytes (0xAA ∷ 0xBB ∷ [])
    ∷ data_of w1 (CanTransmit 15 0 0 2) 18 gives bytes (0xAA ∷ 0xBB ∷ [])
    ∷ data_of w1 (CanTransmit 15 0 0 2) 17 gives bytes []
    ∷ data_of w1 (CanTransmit 15 0 0 2) 19 gives bytes []
    -- how often demand 3 counts an ID
    ∷ times_in 5 (5 ∷ 3 ∷ 5 ∷ []) gives numbers (2 ∷ [])
    -- faults 3 to 5 take up the stated length, faults 1 and 2 the rest; there is no kind 0 and no kind 5
    ∷ items_in (fault3 ++ fault4 ++ of_kind 0 ++ of_kind 5 ++ fault5 ++ fault2 ++ w1)
    gives items
    (fault 3 fault3 ∷ fault 4 fault4 ∷ fault 4 (of_kind 0) ∷ fault 4 (of_kind 5) ∷ fault 5 fault5 ∷ fault 2 (fault2 ++ w1) ∷ [])
    ∷ front_of fault1 gives stands (Some (sized (Err TooFewLeft) 7))
    ∷ items_in fault1 gives items (fault 1 fault1 ∷ [])
    -- a remote frame has no data field: with data it is fault 5, also where Rtr 2 breaks a rule of its own, and with another length
    -- than that of the table fault 4
    ∷ items_in (remote0 ++ remote1 ++ remote8 ++ classic 2 16 0 [] ++ classic 1 23 8 (1 ∷ 2 ∷ 3 ∷ 4 ∷ 5 ∷ 6 ∷ 7 ∷ []))
    gives items
    (operation (CanTransmit 5 0 1 0) remote0 ∷ fault 5 remote1 ∷ fault 5 remote8 ∷ fault 5 (classic 2 16 0 [])
    ∷ fault 4 (classic 1 23 8 (1 ∷ 2 ∷ 3 ∷ 4 ∷ 5 ∷ 6 ∷ 7 ∷ [])) ∷ [])
    -- submitted, it is answered with a Format Error, and the one without data is delivered
    ∷ session 2 (submission 0 (remote1 ++ remote0 ++ remote8) ∷ round no_error ∷ [])
    gives ends (accepted ∷ carried 0 5 false 0 ∷ []) (0 ∷ 0 ∷ [])
    ((format_error 17 remote1 ++ format_error 24 remote8 ++ confirm 5) ∷ remote0 ∷ [])
    -- by a Bus-Off node too, whose remote frame without data has no effect
    ∷ session 2 (submission 1 (off ++ remote0 ++ remote1 ++ remote8) ∷ [])
    gives ends (accepted ∷ []) (0 ∷ 0 ∷ []) ([] ∷ (format_error 17 remote1 ++ format_error 24 remote8) ∷ [])
    -- and the register does not enter it
    ∷ entering (holding (3 ∷ [])) (remote1 ++ remote0 ++ remote8) gives opens (0 ∷ []) ((3 ∷ 5 ∷ []) ∷ [])
    ∷ []

abbrev pub CasesHold : Type 0
CasesHold = computed cases ≡ expected cases

-- what needs long lists: the largest buffer, answered into an empty queue, fills it; then 9, also where a later Status Bus-Off
-- would make room; one byte too many is 9 too; at a Bus-Off node, which takes no frame, a remote frame with data is 9 where its
-- Format Error finds no room, and the one without data never; a 346th open ID is 12, but not after a Status Bus-Off, and 346 are not valid;
-- at the last round number 10, and 9 before it
unfoldable pub long_cases : List Line
long_cases =
    numbered 2 (submission 0 (zeros 4_078) ∷ submission 0 (0 ∷ []) ∷ submission 1 wakeup ∷ []) gives numbers (0 ∷ 0 ∷ 9 ∷ 0 ∷ [])
    ∷ numbered 2 (submission 0 (zeros 4_079) ∷ submission 1 wakeup ∷ []) gives numbers (0 ∷ 0 ∷ 9 ∷ [])
    ∷ numbered 2 (submission 0 (zeros 4_086) ∷ submission 0 (zeros 4_087) ∷ submission 2 (zeros 4_087) ∷ [])
    gives numbers (0 ∷ 0 ∷ 5 ∷ 4 ∷ [])
    ∷ numbered 2 (submission 0 (off ++ zeros 4_052) ∷ submission 0 remote8 ∷ submission 0 remote0 ∷ []) gives numbers (0 ∷ 0 ∷ 0 ∷ 0 ∷ [])
    ∷ numbered 2 (submission 0 (off ++ zeros 4_053) ∷ submission 0 remote8 ∷ submission 0 remote0 ∷ []) gives numbers (0 ∷ 0 ∷ 9 ∷ 0 ∷ [])
    ∷ entering (holding (zeros 344)) (standard 5 ++ standard 6 ++ off) gives opens (12 ∷ []) (zeros 344 ∷ [])
    ∷ entering (holding (zeros 345)) (off ++ standard 6) gives opens (0 ∷ []) ([] ∷ [])
    ∷ session 2
    (submission 0 (zeros 4_087) ∷ submission 0 (zeros 4_086) ∷ submission 0 (w2 ++ off) ∷ submission 1 wakeup
    ∷ submission 1 w1 ∷ round no_error ∷ [])
    gives ends
    (refused buffer_too_long ∷ accepted ∷ refused queue_full ∷ refused queue_full ∷ accepted ∷ refused queue_full ∷ [])
    (0 ∷ 1 ∷ []) (format_error 4_086 (zeros 4_086) ∷ [] ∷ [])
    ∷ session_from (waiting 0 last_round 4_070) (round no_error ∷ submission 1 (0 ∷ []) ∷ round no_error ∷ [])
    gives ends (refused rounds_used_up ∷ accepted ∷ refused queue_full ∷ []) (1 ∷ 0 ∷ []) ([] ∷ (zeros 4_070 ++ format_error 1 (0 ∷ [])) ∷ [])
    ∷ entering (holding (zeros 346)) [] gives opens (3 ∷ []) (zeros 346 ∷ [])
    ∷ []

abbrev pub LongCasesHold : Type 0
LongCasesHold = computed long_cases ≡ expected long_cases
