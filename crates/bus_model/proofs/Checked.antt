-- Refusals 1 and 3 in front of a call, and results that change nothing or give a good memory.
-- Assumes nothing.
use mathlib.Core.Path.{◌≡◌, refl}
use mathlib.Core.Bool.{true}
use lib.ListN.{length}
use borrow.Author.Tests.{eq-eqb}
use Rattle.plain_bus.specs.Held.{Bus}
use Rattle.plain_bus.specs.Calls.{Answer, gives}
use Rattle.bus_state.specs.Memory.{Memory, view, lent_well}
use Rattle.bus_model.specs.Calls.{Result, replies, checked}
use Rattle.bus_model.specs.Refines.{Sized, Refines}
use Rattle.bus_model.proofs.Validity.{Good, good-valid}

lent_well_lem : (m : Memory) → Sized m → lent_well m ≡ true
unfolding lent_well
lent_well_lem m s =
    rw (
      eq-eqb (length m.slots) 32 s.slots,
      eq-eqb (length m.payload) 65_536 s.payload,
      eq-eqb (length m.queues) 32_768 s.queues,
    )

-- a valid memory passes both
pub checked-passes : (m : Memory) (r : Result) → Good m → checked m r ≡ r
unfolding checked
checked-passes m r g = rw (lent_well_lem m g.typed.sized, good-valid m g)

-- nothing is changed
pub unchanged : (m : Memory) → Good m → (a : Answer) → Refines (replies a m) (gives a (view m))
unchanged m g a = record { bus = refl; answer = refl; valid = good-valid m g; typed = g.typed }

pub changed : (m : Memory) (b : Bus) → Good m → view m ≡ b → (a : Answer) → Refines (replies a m) (gives a b)
changed m b g e a = record { bus = e; answer = refl; valid = good-valid m g; typed = g.typed }
