-- Internal. Demand 2, of the bytes: what is written reads back the same, and what reads well writes back to the same bytes; and reading
-- goes through any buffer, piece by piece, to its end. The definitions are those that the contracts of `write`, `read` and `data` name.
-- Assumes nothing.
use Rattle.std.specs.Prelude.{◌≡◌, List, ◌++◌, ℕ, ◌+◌, ◌-◌, ◌≤◌, ◌<◌, length, take, drop, Option, None, Some, Ok}
use Rattle.operation.specs.Number.{Bytes}
use Rattle.operation.specs.Format.{TypedOperation}
use Rattle.operation.specs.declared.Operation.{Operation}
use Rattle.decoder.specs.Reading.{ending, read_at, data_at}
use Rattle.decoder.specs.Stream.{items_of, joined}
use Rattle.decoder.specs.declared.Reading.{Reading}
use Rattle.encoder.specs.Writing.{write_outcome, written_of}

-- op with its data is read at the position at of s, and ends n bytes on
pub record ReadsAs (s : List ℕ) (at : ℕ) (op : Operation) (payload : List ℕ) (n : ℕ) : Type 0 where
  pub operation : read_at s at ≡ Some (ending (Ok op) (at + n))
  pub payloads : data_at s op (at + n) ≡ payload

-- Theorem 1: what `write` accepts reads back the same, at any position and followed by any bytes
abbrev pub WrittenReads : Type 0
WrittenReads =
    (op : Operation) (payload buffer : List ℕ) (n : ℕ)
    → TypedOperation op
    → write_outcome op (length payload) (length buffer) ≡ Ok n
    → (before rest : List ℕ)
    → ReadsAs (before ++ (take n (written_of op payload buffer) ++ rest)) (length before) op payload n

-- op with its data is written to a buffer as the n bytes given
pub record WritesAs (op : Operation) (payload buffer bytes : List ℕ) (n : ℕ) : Type 0 where
  pub answer : write_outcome op (length payload) (length buffer) ≡ Ok n
  pub same : take n (written_of op payload buffer) ≡ bytes

-- Theorem 2: what reads well writes back to the same bytes, into any buffer with room for them; and its numbers fit
abbrev pub ReadWrites : Type 0
ReadWrites =
    (s : List ℕ) (at next : ℕ) (op : Operation)
    → Bytes s
    → read_at s at ≡ Some (ending (Ok op) next)
    → TypedOperation op
    × ((buffer : List ℕ) → next - at ≤ length buffer
    → WritesAs op (data_at s op next) buffer (take (next - at) (drop at s)) (next - at))

-- where a reading at a position goes on
abbrev pub after : ℕ → Option Reading → ℕ
after at None = at
after at (Some r) = r.next.at

-- Theorem 3: a reading before the end moves forward and stays within the buffer, one at or past the end says so, and the
-- pieces taken up, put together, are the buffer
pub record ReadsThrough (s : List ℕ) : Type 0 where
  pub forward : (at : ℕ) → at < length s → (at < after at (read_at s at)) × (after at (read_at s at) ≤ length s)
  pub end : (at : ℕ) → length s ≤ at → read_at s at ≡ None
  pub whole : joined (items_of s) ≡ s
