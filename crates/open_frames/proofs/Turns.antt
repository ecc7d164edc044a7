-- One turn of the loop over a buffer: the first item's step, and then the rest of the items.
-- Assumes nothing.
use Rattle.std.proofs.Common.{ℕ, List, [], ◌∷◌, ◌≡◌, refl, Result, MutBor}
use Rattle.operation.specs.declared.Operation.{Operation}
use Rattle.decoder.specs.Stream.{Item, operation, fault}
use Rattle.plain_bus.specs.Refusal.{RegisterRefusal}
use Rattle.plain_bus.specs.Register.{Register, Update, updated, rejected, updates, read_item}
use Rattle.open_frames.specs.declared.Refusal.{Refusal}
use Rattle.open_frames.specs.Steps.{update_of, Calls, IsStep}

module _ (g : Register → Item → Update) where
  pub at_end : (is : List Item) (u : Update) → is ≡ [] → u ≡ updates g is u
  unfolding updates
  at_end is u e = rw e

  -- a refusal stays, whatever follows
  pub refused : (is : List Item) (x : RegisterRefusal) → rejected x ≡ updates g is (rejected x)
  unfolding updates
  refused [] x = refl
  refused (i ∷ is) x = refl

  module _ {calls : Calls} (s : IsStep g calls) where
    pub at_fault : (is rest : List Item) (r : Register) {number : ℕ} {bytes : List ℕ} → is ≡ fault number bytes ∷ rest
        → updates g rest (updated r) ≡ updates g is (updated r)
    unfolding updates
    at_fault is rest r {number} {bytes} e = rw (e, s.faults r number bytes)

    pub at_operation : (is rest : List Item) (r : MutBor Register) (op : Operation) (x : Result Unit Refusal) (r' : MutBor Register)
        {bytes : List ℕ} → calls r op x r' → is ≡ operation op bytes ∷ rest
        → updates g rest (update_of x r'.now) ≡ updates g is (updated r.now)
    unfolding updates
    at_operation is rest r op x r' {bytes} h e = rw (e, s.operations r op x r' bytes h)

-- a fault changes nothing
pub read_fault : (r : Register) (number : ℕ) (bytes : List ℕ) → read_item r (fault number bytes) ≡ updated r
unfolding read_item
read_fault r number bytes = refl
