-- Believed. Reading at a position of a buffer, and the data of an operation that was read (01, "Operations as bytes").
-- Assumes nothing.
use Rattle.std.specs.Prelude.{ℕ, ◌+◌, ◌-◌, List, [], cond, ◌&&◌, leb, length, take, drop, Option, None, Some, Result}
use Rattle.operation.specs.Format.{data_length, length_of}
use Rattle.operation.specs.declared.Operation.{Operation}
use Rattle.decoder.specs.Front.{front}
use Rattle.decoder.specs.declared.Fault.{Fault}
use Rattle.decoder.specs.declared.Front.{Front}
use Rattle.decoder.specs.declared.Reading.{Reading}
use Rattle.decoder.specs.declared.Cursor.{Cursor}

abbrev pub cursor_at : ℕ → Cursor
cursor_at n = record { at = n }

-- what is read, with the position after it
abbrev pub ending : Result Operation Fault → ℕ → Reading
ending item next = record { item = item; next = cursor_at next }

-- what stands at a position, with the position after it; none at the end
abbrev pub placed : ℕ → Option Front → Option Reading
placed at None = None
placed at (Some f) = Some (ending f.item (at + f.size))

unfoldable pub read_at : List ℕ → ℕ → Option Reading
read_at s at = placed at (front (drop at s))

-- the data bytes of an operation that ends at a position; none where the operation does not fit in before it
unfoldable pub data_at : List ℕ → Operation → ℕ → List ℕ
data_at s op end =
    cond (leb (length_of op) end && leb end (length s)) (take (data_length op) (drop (end - data_length op) s)) []
