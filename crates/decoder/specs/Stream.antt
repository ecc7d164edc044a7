-- Believed. A whole buffer as a list of operations and faults, each with its complete bytes.
-- Assumes nothing.
use Rattle.std.specs.Prelude.{ℕ, zero, suc, List, [], ◌∷◌, ◌++◌, length, take, drop, Option, None, Some, Result, Ok, Err}
use Rattle.operation.specs.declared.Operation.{Operation}
use Rattle.decoder.specs.Front.{front, fault_number}
use Rattle.decoder.specs.declared.Fault.{Fault}
use Rattle.decoder.specs.declared.Front.{Front}

pub data Item : Type 0 where
  operation : Operation → List ℕ → Item
  fault : ℕ → List ℕ → Item

abbrev pub bytes_of : Item → List ℕ
bytes_of (operation op bytes) = bytes
bytes_of (fault number bytes) = bytes

-- what stands at the front of some bytes, with the bytes that it takes up
abbrev pub item_of : Result Operation Fault → List ℕ → Item
item_of (Ok op) bytes = operation op bytes
item_of (Err f) bytes = fault (fault_number f) bytes

-- at most k items of s; the last argument is what stands at the front of s
unfoldable pub items_up_to : ℕ → List ℕ → Option Front → List Item
items_up_to zero s f = []
items_up_to (suc k) s None = []
items_up_to (suc k) s (Some f) = item_of f.item (take f.size s) ∷ items_up_to k (drop f.size s) (front (drop f.size s))

-- each item takes up at least one byte, so there are at most as many items as bytes
unfoldable pub items_of : List ℕ → List Item
items_of s = items_up_to (length s) s (front s)

-- the bytes of some items, put together
unfoldable pub joined : List Item → List ℕ
joined [] = []
joined (i ∷ is) = bytes_of i ++ joined is
