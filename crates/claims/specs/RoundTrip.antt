-- Believed. Reading and writing (00, demand 2): what is written reads back the same, and what reads well writes back to the same bytes.
-- Stated of what kf_read, kf_data and kf_write answer and leave.
-- Assumes nothing.
use Rattle.std.specs.Prelude.{ℕ, ◌+◌, ◌-◌, ◌≤◌, ◌<◌, ◌≡◌, List, ◌++◌, length, take, drop}
use Rattle.decoder.specs.Front.{Kind, format_error, can, fd, xl, confirm, arbitration_lost, bus_error, configuration, status, wakeup, unknown, kind_of}
use Rattle.decoder.specs.Reading.{read_at}
use Rattle.decoder.specs.Stream.{items_of, joined}
use Rattle.kettlefrost.specs.Flat.{flat_row, named}
use Rattle.kettlefrost.specs.Calls.{read_answer, data_answer, write_answer, buffer_after_write}
use Rattle.kettlefrost.specs.declared.FlatOperation.{FlatOperation}
use Rattle.kettlefrost.specs.declared.PartAnswer.{PartAnswer}
use Rattle.kettlefrost.specs.declared.ReadAnswer.{ReadAnswer}
use Rattle.kettlefrost.specs.declared.WriteAnswer.{WriteAnswer}
use Rattle.claims.specs.Numbers.{first_row, write_rows}

-- a record with 0 in the fields that its kind does not have: what a record says of an operation
abbrev pub cleared : Kind → FlatOperation → FlatOperation
cleared format_error f = flat_row f.code 0 0 f.length 0 0 0 0
cleared can f = flat_row f.code f.id 0 f.length f.first f.second 0 0
cleared fd f = flat_row f.code f.id 0 f.length f.first f.second f.third 0
cleared xl f = flat_row f.code f.id f.word f.length f.first f.second f.third f.fourth
cleared confirm f = flat_row f.code f.id 0 0 0 0 0 0
cleared arbitration_lost f = flat_row f.code f.id 0 0 0 0 0 0
cleared bus_error f = flat_row f.code f.id 0 0 f.first f.second f.third 0
cleared configuration f = flat_row f.code 0 f.word 0 f.first 0 0 0
cleared status f = flat_row f.code 0 0 0 f.first 0 0 0
cleared wakeup f = flat_row f.code 0 0 0 0 0 0 0
cleared unknown f = f

abbrev pub clear : FlatOperation → FlatOperation
clear f = cleared (kind_of f.code) f

-- what kf_read answers at a position, and the data that kf_data finds for it
abbrev pub read_in : List ℕ → ℕ → ReadAnswer
read_in s at = read_answer at (read_at s at)

abbrev pub part_in : List ℕ → PartAnswer → List ℕ
part_in s p = take p.length (drop p.start s)

abbrev pub data_in : List ℕ → ReadAnswer → List ℕ
data_in s r = part_in s (data_answer s (named r.operation) r.next)

-- at a position of s the operation f is read, n bytes long, with its data
pub record ReadsBack (s : List ℕ) (at : ℕ) (f : FlatOperation) (payload : List ℕ) (n : ℕ) : Type 0 where
  pub end : (read_in s at).end ≡ 0
  pub fault : (read_in s at).fault ≡ 0
  pub next : (read_in s at).next ≡ at + n
  pub operation : (read_in s at).operation ≡ clear f
  pub payloads : data_in s (read_in s at) ≡ payload

-- f with its data is written to a buffer as the n bytes given
pub record WritesBack (f : FlatOperation) (payload buffer bytes : List ℕ) (n : ℕ) : Type 0 where
  pub refusal : (write_answer (named f) (length payload) (length buffer)).refusal ≡ 0
  pub length : (write_answer (named f) (length payload) (length buffer)).length ≡ n
  pub same : take n (buffer_after_write (named f) payload buffer) ≡ bytes

-- ---- what is demanded of the calls

-- kf_read, for the buffer s and the position at
pub record Read (s : List ℕ) (at : ℕ) (r : ReadAnswer) : Type 0 where
  pub answer : r ≡ read_in s at
  -- at or past the end it says so; before the end it moves forward and stays within the buffer
  pub ends : length s ≤ at → r.end ≡ 1
  pub forward : at < length s → (at < r.next) × (r.next ≤ length s)
  -- what reads well writes back to the same bytes, into any buffer with room for them
  pub back : r.end ≡ 0 → r.fault ≡ 0 → (buffer : List ℕ) → r.next - at ≤ length buffer
      → WritesBack r.operation (data_in s r) buffer (take (r.next - at) (drop at s)) (r.next - at)

-- kf_write, for the operation f with its data and the caller's buffer, which is left as after
pub record Wrote (f : FlatOperation) (payload buffer : List ℕ) (a : WriteAnswer) (after : List ℕ) : Type 0 where
  pub answer : a ≡ write_answer (named f) (length payload) (length buffer)
  pub left : after ≡ buffer_after_write (named f) payload buffer
  -- demand 1: 7 before 11, of an unknown code too; a refused one gives only its number and changes nothing
  pub number : a.refusal ≡ first_row (write_rows (named f) (length payload) (length buffer))
  pub kept : (a.refusal ≡ 0 → ⊥) → (a.length ≡ 0) × (after ≡ buffer)
  -- past the length given the buffer is as it was
  pub past : drop a.length after ≡ drop a.length buffer
  -- what is written reads back the same, at any position and followed by any bytes
  pub back : a.refusal ≡ 0 → (before rest : List ℕ)
      → ReadsBack (before ++ (take a.length after ++ rest)) (length before) f payload a.length

-- what submit and the registers take from a buffer, item by item: the items' bytes, put together, are the buffer
abbrev pub ItemsWhole : Type 0
ItemsWhole = (s : List ℕ) → joined (items_of s) ≡ s
