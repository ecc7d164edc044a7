-- Internal. The tests for 1 and 3, by what is lent and the key of the slots.
-- Assumes nothing.
use Rattle.std.specs.Prelude.{ℕ, Bool, cond, ◌&&◌, eqb, Result, Ok, Err}
use Rattle.bus_state.specs.Memory.{slot_count, payload_bytes, queue_bytes}
use Rattle.outcome.specs.declared.Refusal.{Refusal}
use Rattle.outcome.specs.declared.Refusal.TheVariants.{WrongMemory, Invalid}

-- as many slots, payload bytes and queue bytes as there must be
unfoldable pub lent_sizes : (slots payload queues : ℕ) → Bool
lent_sizes slots payload queues = eqb slots slot_count && eqb payload payload_bytes && eqb queues queue_bytes

unfoldable pub tested : (slots payload queues key : ℕ) → Result (Unit {0}) Refusal
tested slots payload queues key =
    cond (lent_sizes slots payload queues) (cond (eqb key 0) (Err Invalid) (Ok tt)) (Err WrongMemory)
