-- A register call that is done leaves a valid register valid; and the two refusals of a step are given exactly when listed.
-- Assumes nothing.
use mathlib.Core.Path.{◌≡◌, refl, sym, ◌∙◌, subst}
use Prim.Native.Nat.{ℕ, suc, ◌+◌, ◌/◌, ◌≤◌, ◌<◌}
use native.Mathlib.Omega.{arith}
use mathlib.Core.Bool.{Bool, true, false, cond, not, ◌&&◌, ◌||◌}
use mathlib.Core.List.{List, [], ◌∷◌, ◌++◌}
use lib.Dec.{leb, eqb}
use lib.ListN.{length, length-append}
use borrow.Author.Tests.{leb-true, leb-false, le-leb, lt-leb, eqb-true}
use Rattle.operation.specs.Rules.{max_extended_id}
use Rattle.operation.specs.declared.Operation.TheVariants.{FormatError, CanTransmit, FdTransmit, XlTransmit, Confirm, ArbitrationLost, BusError, Configuration, Status, Wakeup}
use Rattle.operation.proofs.Tests.{both, false_is_true}
use Rattle.decoder.specs.Stream.{Item, operation, fault, items_of}
use Rattle.operation.specs.Kinds.{id_of}
use Rattle.plain_bus.specs.Closing.{closes}
use Rattle.plain_bus.specs.Held.{max_pending, queue_capacity, bus_off}
use Rattle.plain_bus.specs.Refusal.{invalid_register, register_full, register_differs}
use Rattle.plain_bus.specs.Register.{Register, max_open, with_opened, none_above, valid_register, Update, updated, rejected, updates, open_id, with_off, note_status, enter_item, enter, is_open, remove, close_id, read_item, read}
use Rattle.plain_bus.proofs.Whole.{ValidItem, ValidItems, items-valid}
use Rattle.plain_bus.proofs.Owed.{read-id}

-- ---- 12 and 13

-- 345 is what 4 pending frames and a queue full of twelve-byte closings come to
pub open_most : max_open ≡ max_pending + queue_capacity / 12
open_most = refl

-- a 346th ID is refused, and none before it
pub full_at_345 : (r : Register) (id : ℕ) → r.off ≡ false → length r.opened ≡ 345
    → open_id r id ≡ rejected register_full
unfolding open_id
full_at_345 r id o l = rw (o, le-leb max_open (length r.opened) (omega arith))

pub room_below_345 : (r : Register) (id : ℕ) → r.off ≡ false → length r.opened < 345
    → open_id r id ≡ updated (with_opened r (r.opened ++ id ∷ []))
unfolding open_id
room_below_345 r id o l = rw (o, lt-leb max_open (length r.opened) l)

-- a closing is refused exactly where no such ID is open
pub differs_unopened : (r : Register) (id : ℕ) → is_open id r.opened ≡ false → close_id r id ≡ rejected register_differs
unfolding close_id
differs_unopened r id o = rw o

-- ---- validity

record Fits (r : Register) : Type 0 where
  few : length r.opened ≤ max_open
  low : none_above max_extended_id r.opened ≡ true
  shut : r.off ≡ true → length r.opened ≡ 0

fits_of : (r : Register) → valid_register r ≡ true → Fits r
unfolding valid_register
fits_of r v =
    let a = both (leb (length r.opened) max_open && none_above max_extended_id r.opened) _ v in
    let b = both (leb (length r.opened) max_open) _ a.0 in
    record { few = leb-true _ max_open b.0; low = b.1; shut = λ o. go r.off o a.1 }
  where
    go : (o : Bool) → o ≡ true → (not o || eqb (length r.opened) 0) ≡ true → length r.opened ≡ 0
    go true q e = eqb-true (length r.opened) 0 e
    go false q e = false_is_true q

valid_of : (r : Register) → Fits r → valid_register r ≡ true
unfolding valid_register
valid_of r f = rw (le-leb (length r.opened) max_open f.few, f.low) (go r.off f.shut)
  where
    go : (o : Bool) → (o ≡ true → length r.opened ≡ 0) → (not o || eqb (length r.opened) 0) ≡ true
    go true s = rw (s refl)
    go false s = refl

abbrev FitsAfter : Update → Type 0
FitsAfter (updated r) = Fits r
FitsAfter (rejected x) = Unit {0}

none_above-append : (m : ℕ) (l : List ℕ) (x : ℕ) → none_above m l ≡ true → x ≤ m → none_above m (l ++ x ∷ []) ≡ true
unfolding none_above
none_above-append m [] x e h = rw (le-leb x m h)
none_above-append m (y ∷ l) x e h = let b = both (leb y m) _ e in rw b.0 (none_above-append m l x b.1 h)

none_above-remove : (m id : ℕ) (l : List ℕ) → none_above m l ≡ true → none_above m (remove id l) ≡ true
unfolding none_above remove
none_above-remove m id [] e = refl
none_above-remove m id (y ∷ l) e = go (eqb y id) (both (leb y m) _ e) (none_above-remove m id l)
  where
    go : (t : Bool) → (leb y m ≡ true) × (none_above m l ≡ true)
        → (none_above m l ≡ true → none_above m (remove id l) ≡ true) → none_above m (cond t l (y ∷ remove id l)) ≡ true
    go true b f = b.1
    go false b f = rw b.0 (f b.1)

length-remove : (id : ℕ) (l : List ℕ) → length (remove id l) ≤ length l
unfolding remove
length-remove id [] = omega arith
length-remove id (y ∷ l) = go (eqb y id) (length-remove id l)
  where
    go : (t : Bool) → length (remove id l) ≤ length l → length (cond t l (y ∷ remove id l)) ≤ suc (length l)
    go true h = omega arith
    go false h = omega arith

open_fits : (r : Register) (id : ℕ) → id ≤ max_extended_id → Fits r → FitsAfter (open_id r id)
unfolding open_id
open_fits r id h f = go r.off refl (leb max_open (length r.opened)) refl
  where
    go : (o : Bool) → r.off ≡ o → (t : Bool) → leb max_open (length r.opened) ≡ t
        → FitsAfter (cond o (updated r) (cond t (rejected register_full) (updated (with_opened r (r.opened ++ id ∷ [])))))
    go true qo t qt = f
    go false qo true qt = tt
    go false qo false qt = record {
      few = rw length-append (omega (arith, leb-false max_open (length r.opened) qt));
      low = none_above-append max_extended_id r.opened id f.low h;
      shut = λ o. false_is_true (sym qo ∙ o);
    }

status-fits : (r : Register) (status : ℕ) → Fits r → Fits (note_status r status)
unfolding note_status with_off none_above
status-fits r status f = go (eqb status bus_off)
  where
    go : (t : Bool) → Fits (with_off r t)
    go true = record { few = omega arith; low = refl; shut = λ o. refl }
    go false = record { few = f.few; low = f.low; shut = λ o. false_is_true o }

enter-fits : (r : Register) (i : Item) → ValidItem i → Fits r → FitsAfter (enter_item r i)
unfolding enter_item
enter-fits r (operation (FormatError n) bytes) v f = f
enter-fits r (operation (CanTransmit id ide rtr dl) bytes) v f = open_fits r id (read-id bytes v) f
enter-fits r (operation (FdTransmit id ide brs esi dl) bytes) v f = open_fits r id (read-id bytes v) f
enter-fits r (operation (XlTransmit id ide sec sdt vcid af dl) bytes) v f = open_fits r id (read-id bytes v) f
enter-fits r (operation (Confirm id) bytes) v f = f
enter-fits r (operation (ArbitrationLost id) bytes) v f = f
enter-fits r (operation (BusError id code flag sender) bytes) v f = f
enter-fits r (operation (Configuration kind value) bytes) v f = f
enter-fits r (operation (Status status) bytes) v f = status-fits r status f
enter-fits r (operation Wakeup bytes) v f = f
enter-fits r (fault number bytes) v f = f

read_fits : (r : Register) (i : Item) → ValidItem i → Fits r → FitsAfter (read_item r i)
unfolding read_item close_id
read_fits r (operation op bytes) v f = go (closes op) (is_open (id_of op) r.opened)
  where
    go : (t u : Bool)
        → FitsAfter
        (cond t (cond u (updated (with_opened r (remove (id_of op) r.opened))) (rejected register_differs)) (updated r))
    go true true = record {
      few = omega (arith, length-remove (id_of op) r.opened, f.few);
      low = none_above-remove max_extended_id (id_of op) r.opened f.low;
      shut = λ o. omega (arith, length-remove (id_of op) r.opened, f.shut o);
    }
    go true false = tt
    go false u = f
read_fits r (fault number bytes) v f = f

updates-fit : (step : Register → Item → Update)
    → ((r : Register) (i : Item) → ValidItem i → Fits r → FitsAfter (step r i))
    → (is : List Item) (u : Update) → ValidItems is → FitsAfter u → FitsAfter (updates step is u)
unfolding updates
updates-fit step keeps [] u v f = f
updates-fit step keeps (i ∷ is) (rejected x) v f = tt
updates-fit step keeps (i ∷ is) (updated r) v f = updates-fit step keeps is (step r i) v.1 (keeps r i v.0 f)

kept_by : (step : Register → Item → Update) → ((r : Register) (i : Item) → ValidItem i → Fits r → FitsAfter (step r i))
    → (r : Register) (buffer : List ℕ) {r' : Register}
    → cond (valid_register r) (updates step (items_of buffer) (updated r)) (rejected invalid_register) ≡ updated r'
    → valid_register r' ≡ true
kept_by step keeps r buffer {r'} e = go (valid_register r) refl e
  where
    go : (t : Bool) → valid_register r ≡ t
        → cond t (updates step (items_of buffer) (updated r)) (rejected invalid_register) ≡ updated r' → valid_register r' ≡ true
    go true q e =
        valid_of r' (subst FitsAfter e (updates-fit step keeps (items_of buffer) (updated r) (items-valid buffer) (fits_of r q)))
    go false q e = let z : ◌≡◌ {A = ℕ} 0 1 = cc in absurd (omega arith)

-- entering, and reading, keep a register valid
pub enter-valid : (r : Register) (buffer : List ℕ) {r' : Register} → enter r buffer ≡ updated r' → valid_register r' ≡ true
unfolding enter
enter-valid r buffer e = kept_by enter_item enter-fits r buffer e

pub read-valid : (r : Register) (buffer : List ℕ) {r' : Register} → read r buffer ≡ updated r' → valid_register r' ≡ true
unfolding read
read-valid r buffer e = kept_by read_item read_fits r buffer e
