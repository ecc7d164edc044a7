-- Bytes that are a sequence of whole operations: what reading gives where they are put together, and how many of the
-- operations close. By induction along the reading of the bytes.
-- Assumes nothing.
use mathlib.Core.Path.{◌≡◌, refl, sym, ap, ◌∙◌, subst}
use Prim.Native.Nat.{ℕ, zero, suc, ◌*◌, ◌≤◌}
use native.Mathlib.Omega.{arith}
use native.Mathlib.Nat.{le_refl}
use mathlib.Core.List.{List, [], ◌∷◌, ◌++◌, append_assoc, append-nil}
use mathlib.Core.Bool.{Bool, true, false, cond}
use lib.ListN.{length, take, drop, length-drop, take-append-drop}
use lib.Seq.{length-take-le, take-length, drop-length, take-append-le, drop-append-le}
use Rattle.operation.specs.Format.{length_of}
use Rattle.operation.specs.declared.Operation.{Operation}
use Rattle.operation.specs.declared.Operation.TheVariants.{FormatError, CanTransmit, FdTransmit, XlTransmit, Confirm, ArbitrationLost, BusError, Configuration, Status, Wakeup}
use Rattle.std.proofs.Common.{Option, None, Some, Result, Ok, Err}
use Rattle.decoder.specs.Front.{sized, front}
use Rattle.decoder.specs.Stream.{Item, operation, fault, items_of}
use Rattle.decoder.specs.declared.Front.{Front}
use Rattle.decoder.specs.declared.Fault.{Fault}
use Rattle.operation.specs.Kinds.{id_of}
use Rattle.plain_bus.specs.Closing.{closes}
use Rattle.plain_bus.proofs.ValidBus.{ReadsWhole, no_fault, Whole}
use Rattle.plain_bus.specs.Session.{closing_ids}
use Rattle.decoder.proofs.Found.{found, found_prefix}
use Rattle.decoder.proofs.Streams.{front-nil, onward, end_empty, unroll}

-- ---- induction along the reading

module _ (P : List ℕ → Type 0) (none : P [])
    (faulty : (f : Fault) (n : ℕ) (s : List ℕ) → front s ≡ Some (sized (Err f) n) → P (drop n s) → P s)
    (finds : (op : Operation) (n : ℕ) (s : List ℕ) → front s ≡ Some (sized (Ok op) n) → P (drop n s) → P s) where
  up_to : (k : ℕ) (s : List ℕ) → length s ≤ k → P s
  up_to zero [] h = none
  up_to zero (x ∷ s) h = absurd (omega arith)
  up_to (suc k) s h = go (front s) refl (λ n m. up_to k (drop n s) (simp length-drop (omega arith)))
    where
      by_item : (i : Result Operation Fault) (n : ℕ) → front s ≡ Some (sized i n) → P (drop n s) → P s
      by_item (Ok op) n e r = finds op n s e r
      by_item (Err f) n e r = faulty f n s e r

      go : (f : Option Front) → front s ≡ f → ((n : ℕ) → 1 ≤ n → P (drop n s)) → P s
      go None e r = subst P (sym (end_empty s e)) none
      go (Some f) e r = by_item f.item f.size e (r f.size (onward s e).0)

  pub along : (s : List ℕ) → P s
  along s = up_to (length s) s (le_refl (length s))

-- ---- putting together

pub items-nil : items_of [] ≡ []
items-nil = unroll [] front-nil

-- an operation at the front stands there whatever follows
front-append : {op : Operation} {n : ℕ} (s t : List ℕ) → front s ≡ Some (sized (Ok op) n)
    → (front (s ++ t) ≡ Some (sized (Ok op) n)) × (take n (s ++ t) ≡ take n s) × (drop n (s ++ t) ≡ drop n s ++ t)
front-append {op} {n} s t e =
    let h : n ≤ length s = (found e).within in (
      ap front (ap (λ l. l ++ t) (sym (take-append-drop n s)) ∙ append_assoc (take n s) (drop n s) t)
          ∙ found_prefix s (drop n s ++ t) e,
      take-append-le n s t h,
      drop-append-le n s t h,
    )

no_fault-cut : {P : Type 0} {f : Fault} {n : ℕ} (s : List ℕ) → front s ≡ Some (sized (Err f) n) → Whole s → P
unfolding no_fault
no_fault-cut {P} {f} {n} s e w =
    let t : false ≡ true = sym (ap no_fault (unroll s e)) ∙ w in
    let z : ◌≡◌ {A = ℕ} 0 1 = cc in
    absurd (omega arith)

whole_rest : {op : Operation} {n : ℕ} (s : List ℕ) → front s ≡ Some (sized (Ok op) n) → Whole s → Whole (drop n s)
unfolding no_fault
whole_rest s e w = sym (ap no_fault (unroll s e)) ∙ w

pub items-append : (s t : List ℕ) → Whole s → items_of (s ++ t) ≡ items_of s ++ items_of t
items-append s t = along (λ s. Whole s → items_of (s ++ t) ≡ items_of s ++ items_of t) none faulty finds s
  where
    none : Whole [] → items_of t ≡ items_of [] ++ items_of t
    none w = rw items-nil

    faulty : (f : Fault) (n : ℕ) (s : List ℕ) → front s ≡ Some (sized (Err f) n)
        → (Whole (drop n s) → items_of (drop n s ++ t) ≡ items_of (drop n s) ++ items_of t)
        → Whole s → items_of (s ++ t) ≡ items_of s ++ items_of t
    faulty f n s e r w = no_fault-cut s e w

    finds : (op : Operation) (n : ℕ) (s : List ℕ) → front s ≡ Some (sized (Ok op) n)
        → (Whole (drop n s) → items_of (drop n s ++ t) ≡ items_of (drop n s) ++ items_of t)
        → Whole s → items_of (s ++ t) ≡ items_of s ++ items_of t
    finds op n s e r w =
        let f = front-append s t e in
        unroll (s ++ t) f.0 ∙ rw (f.1, f.2, r (whole_rest s e w), unroll s e)

no_fault-append : (is js : List Item) → no_fault is ≡ true → no_fault js ≡ true → no_fault (is ++ js) ≡ true
unfolding no_fault
no_fault-append [] js a b = b
no_fault-append (operation op bytes ∷ is) js a b = no_fault-append is js a b
no_fault-append (fault number bytes ∷ is) js a b = a

pub whole_append : (s t : List ℕ) → Whole s → Whole t → Whole (s ++ t)
whole_append s t a b = ap no_fault (items-append s t a) ∙ no_fault-append (items_of s) (items_of t) a b

pub whole-nil : Whole []
unfolding no_fault
whole-nil = ap no_fault items-nil

-- the bytes of one operation
pub items_one : {op : Operation} (bytes : List ℕ) → ReadsWhole op bytes → items_of bytes ≡ operation op bytes ∷ []
items_one bytes e = unroll bytes e ∙ rw (take-length, drop-length, items-nil)

pub whole_one : {op : Operation} (bytes : List ℕ) → ReadsWhole op bytes → Whole bytes
unfolding no_fault
whole_one bytes e = ap no_fault (items_one bytes e)

-- ---- the items of a buffer

abbrev pub ValidItem : Item → Type 0
ValidItem (operation op bytes) = ReadsWhole op bytes
ValidItem (fault number bytes) = Unit {0}

abbrev pub ValidItems : List Item → Type 0
ValidItems [] = Unit {0}
ValidItems (i ∷ is) = ValidItem i × ValidItems is

-- each operation of a buffer is what its own bytes read as
pub items-valid : (s : List ℕ) → ValidItems (items_of s)
items-valid s = along (λ s. ValidItems (items_of s)) (rw items-nil tt)
    (λ f n s e r. rw (unroll s e) (tt, r))
    (λ op n s e r. rw (unroll s e) (one s e, r)) s
  where
    one : {op : Operation} {n : ℕ} (s : List ℕ) → front s ≡ Some (sized (Ok op) n) → front (take n s) ≡ Some (sized (Ok op) (length (take n s)))
    one {op} {n} s e =
        rw (length-take-le n s (found e).within) (ap front (sym (append-nil (take n s))) ∙ found_prefix s [] e)

-- ---- the closing operations

pub closing-append : (is js : List Item) → closing_ids (is ++ js) ≡ closing_ids is ++ closing_ids js
unfolding closing_ids
closing-append [] js = refl
closing-append (fault number bytes ∷ is) js = closing-append is js
closing-append (operation op bytes ∷ is) js = go (closes op) (closing-append is js)
  where
    go : (t : Bool) → closing_ids (is ++ js) ≡ closing_ids is ++ closing_ids js
        → cond t (id_of op ∷ closing_ids (is ++ js)) (closing_ids (is ++ js))
        ≡ cond t (id_of op ∷ closing_ids is) (closing_ids is) ++ closing_ids js
    go true e = ap (λ l. id_of op ∷ l) e
    go false e = e

-- a closing operation is at least twelve bytes long
closing_long : (op : Operation) → closes op ≡ true → 12 ≤ length_of op
closing_long (FormatError n) e = let z : ◌≡◌ {A = ℕ} 0 1 = cc in absurd (omega arith)
closing_long (CanTransmit id ide rtr dl) e = omega arith
closing_long (FdTransmit id ide brs esi dl) e = omega arith
closing_long (XlTransmit id ide sec sdt vcid af dl) e = omega arith
closing_long (Confirm id) e = omega arith
closing_long (ArbitrationLost id) e = omega arith
closing_long (BusError id code flag sender) e = omega arith
closing_long (Configuration kind value) e = let z : ◌≡◌ {A = ℕ} 0 1 = cc in absurd (omega arith)
closing_long (Status status) e = let z : ◌≡◌ {A = ℕ} 0 1 = cc in absurd (omega arith)
closing_long Wakeup e = let z : ◌≡◌ {A = ℕ} 0 1 = cc in absurd (omega arith)

pub closings-short : (s : List ℕ) → 12 * length (closing_ids (items_of s)) ≤ length s
unfolding closing_ids
closings-short s = along (λ s. 12 * length (closing_ids (items_of s)) ≤ length s) (rw items-nil (omega arith))
    (λ f n s e r. rw (unroll s e) (omega (arith, length-drop n s, r)))
    (λ op n s e r. rw (unroll s e) (go op n s e (closes op) refl r)) s
  where
    go : (op : Operation) (n : ℕ) (s : List ℕ) → front s ≡ Some (sized (Ok op) n) → (t : Bool) → closes op ≡ t
        → 12 * length (closing_ids (items_of (drop n s))) ≤ length (drop n s)
        → 12 * length (cond t (id_of op ∷ closing_ids (items_of (drop n s))) (closing_ids (items_of (drop n s)))) ≤ length s
    go op n s e true c r = omega (arith, length-drop n s, (found e).within, (found e).exact, closing_long op c)
    go op n s e false c r = omega (arith, length-drop n s)
