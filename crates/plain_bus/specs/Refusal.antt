-- Believed. The refusals of the bus and of the register, and their numbers (01, "Numbers that calls answer with"). Number 0 is no
-- refusal; 7 is about writing (encoder).
-- Assumes nothing.
use Rattle.std.specs.Prelude.{ℕ}

pub data Refusal : Type 0 where
  bad_node_count invalid not_attached buffer_too_long bad_injection : Refusal
  four_pending queue_full rounds_used_up room_too_small : Refusal

abbrev pub number_of : Refusal → ℕ
number_of bad_node_count = 2
number_of invalid = 3
number_of not_attached = 4
number_of buffer_too_long = 5
number_of bad_injection = 6
number_of four_pending = 8
number_of queue_full = 9
number_of rounds_used_up = 10
number_of room_too_small = 11

-- 1 is about lent memory, which the plain bus does not have
abbrev pub wrong_memory_number : ℕ
wrong_memory_number = 1

-- those of the register (01: the book)
pub data RegisterRefusal : Type 0 where
  invalid_register register_full register_differs : RegisterRefusal

abbrev pub register_number : RegisterRefusal → ℕ
register_number invalid_register = 3
register_number register_full = 12
register_number register_differs = 13
