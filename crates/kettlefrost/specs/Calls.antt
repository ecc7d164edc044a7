-- Believed. What the calls for C answer, from what the calls of the library answer.
-- Assumes nothing.
use Rattle.std.specs.Prelude.{ℕ, ◌-◌, List, cond, eqb, length, Option, None, Some, Result, Ok, Err}
use Rattle.operation.specs.declared.Operation.{Operation}
use Rattle.decoder.specs.Front.{fault_number}
use Rattle.decoder.specs.Reading.{data_at}
use Rattle.decoder.specs.declared.Fault.{Fault}
use Rattle.decoder.specs.declared.Reading.{Reading}
use Rattle.encoder.specs.Writing.{Written, written_number, write_outcome, written_of}
use Rattle.encoder.specs.declared.WriteError.TheVariants.{RuleBroken}
use Rattle.kettlefrost.specs.Flat.{flat, blank}
use Rattle.kettlefrost.specs.declared.ReadAnswer.{ReadAnswer}
use Rattle.kettlefrost.specs.declared.PartAnswer.{PartAnswer}
use Rattle.kettlefrost.specs.declared.WriteAnswer.{WriteAnswer}

abbrev pub no_operation : ℕ → ℕ → ℕ → ReadAnswer
no_operation end fault next = record { end = end; fault = fault; next = next; operation = blank }

-- what is read, a fault or an operation, with the position after it
abbrev pub item_answer : Result Operation Fault → ℕ → ReadAnswer
item_answer (Err f) next = no_operation 0 (fault_number f) next
item_answer (Ok op) next = record { end = 0; fault = 0; next = next; operation = flat op }

-- a reading at a position: the end (and the position itself), or what is read
abbrev pub read_answer : ℕ → Option Reading → ReadAnswer
read_answer at None = no_operation 1 0 at
read_answer at (Some r) = item_answer r.item r.next.at

-- where the data of an operation lie: they end at a position; 0 and 0 where there are none
abbrev pub part_of : List ℕ → ℕ → PartAnswer
part_of bytes end =
    cond (eqb (length bytes) 0) (record { start = 0; length = 0 }) (record { start = end - length bytes; length = length bytes })

abbrev pub data_answer : List ℕ → Option Operation → ℕ → PartAnswer
data_answer s None end = record { start = 0; length = 0 }
data_answer s (Some op) end = part_of (data_at s op end) end

-- the number of 01, and the length written; 0 where it was refused
abbrev pub length_written : Written → ℕ
length_written (Ok n) = n
length_written (Err refusal) = 0

-- an unknown code breaks a rule
abbrev pub answer_named : Option Operation → ℕ → ℕ → Written
answer_named None given room = Err RuleBroken
answer_named (Some op) given room = write_outcome op given room

abbrev pub write_answer : Option Operation → ℕ → ℕ → WriteAnswer
write_answer n given room =
    let w = answer_named n given room in record { refusal = written_number w; length = length_written w }

abbrev pub buffer_after_write : Option Operation → List ℕ → List ℕ → List ℕ
buffer_after_write None payload buffer = buffer
buffer_after_write (Some op) payload buffer = written_of op payload buffer
