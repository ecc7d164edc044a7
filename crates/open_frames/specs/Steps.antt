-- Internal. What the steps of a call on the register of open frames give, as the plain register's.
-- Assumes nothing.
use Rattle.std.specs.Prelude.{ℕ, List, Result, Ok, Err, ◌≡◌, cond}
use Rattle.std.specs.Borrow.{MutBor}
use Rattle.operation.specs.declared.Operation.{Operation}
use Rattle.decoder.specs.Stream.{Item, operation, fault}
use Rattle.plain_bus.specs.Refusal.{RegisterRefusal, register_number, invalid_register, register_full, register_differs}
use Rattle.plain_bus.specs.Register as plain
use Rattle.open_frames.specs.Record.{open_in}
use Rattle.open_frames.specs.declared.Register.{Register}
use Rattle.open_frames.specs.declared.RegisterAnswer.{RegisterAnswer}
use Rattle.open_frames.specs.declared.Refusal.{Refusal}
use Rattle.open_frames.specs.declared.Refusal.TheVariants.{Invalid, Full, Differs}

abbrev pub plain_refusal : Refusal → RegisterRefusal
plain_refusal Invalid = invalid_register
plain_refusal Full = register_full
plain_refusal Differs = register_differs

-- the register that a step leaves, or its refusal
abbrev pub update_of : Result Unit Refusal → plain.Register → plain.Update
update_of (Ok x) r = plain.updated r
update_of (Err e) r = plain.rejected (plain_refusal e)

-- which calls of a step there are: the register before, the operation, what the call comes to, and the register after
abbrev pub Calls : Type 1
Calls = MutBor plain.Register → Operation → Result Unit Refusal → MutBor plain.Register → Type 0

-- the calls do what the plain register's step g does, whatever bytes an operation comes with; at a fault g changes nothing
pub record IsStep (g : plain.Register → Item → plain.Update) (calls : Calls) : Type 0 where
  pub operations : (r : MutBor plain.Register) (op : Operation) (x : Result Unit Refusal) (r' : MutBor plain.Register)
      (bytes : List ℕ) → calls r op x r' → update_of x r'.now ≡ g r.now (operation op bytes)
  pub faults : (r : plain.Register) (number : ℕ) (bytes : List ℕ) → g r (fault number bytes) ≡ plain.updated r

-- a register to work on, or the refusal of one that is not valid
abbrev pub opened_from : Register → Result plain.Register Refusal
opened_from r = cond (plain.valid_register (open_in r)) (Ok (open_in r)) (Err Invalid)

-- what a call hands back: on a refusal the register as it was
abbrev pub answer_of : Register → Result Register Refusal → RegisterAnswer
answer_of r (Ok x) = record { number = 0; register = x }
answer_of r (Err e) = record { number = register_number (plain_refusal e); register = r }
