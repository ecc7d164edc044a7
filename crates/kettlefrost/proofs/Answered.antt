-- What the calls of the bus answer where the slots are not 32: refusal 1.
-- Assumes nothing.
use mathlib.Core.Path.{◌≡◌}
use mathlib.Core.Bool.{false}
use mathlib.Core.List.{List}
use Prim.Native.Nat.{ℕ}
use lib.ListN.{length}
use borrow.Author.Tests.{ne_eqb}
use Rattle.plain_bus.specs.Round.{Injection}
use Rattle.bus_state.specs.Memory.{Memory, lent_well}
use Rattle.bus_model.specs.Calls.{Result, wrong_memory, checked, no_start, start_in, submit_in, round_in}

abbrev pub wrong_in : Memory → Result
wrong_in m = record { reply = wrong_memory; memory = m }

module _ (m : Memory) (h : length m.slots ≡ 32 → ⊥) where
  not-lent : lent_well m ≡ false
  unfolding lent_well
  not-lent = rw (ne_eqb (length m.slots) 32 h)

  wrong_checked : (r : Result) → checked m r ≡ wrong_in m
  unfolding checked
  wrong_checked r = rw not-lent

  pub wrong_start : (n : ℕ) → start_in m n ≡ wrong_in (no_start m)
  unfolding start_in
  wrong_start n = rw not-lent

  pub wrong_submit : (k : ℕ) (b : List ℕ) → submit_in m k b ≡ wrong_in m
  unfolding submit_in
  wrong_submit k b = wrong_checked _

  pub wrong_round : (e : Injection) → round_in m e ≡ wrong_in m
  unfolding round_in
  wrong_round e = wrong_checked _
