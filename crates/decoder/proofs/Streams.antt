-- Laws of a whole buffer as a list of items: one item at a time, and theorem 3, that the items put together are the buffer.
-- By "each item takes up at least one byte" (Forward) the bound of the definition never cuts the list short.
-- Assumes nothing.
use mathlib.Core.Path.{◌≡◌, refl, sym, ap, ◌∙◌}
use mathlib.Core.List.{List, [], ◌∷◌}
use Prim.Native.Nat.{ℕ, zero, suc, ◌≤◌}
use native.Mathlib.Nat.{le_refl}
use native.Mathlib.Omega.{arith}
use lib.ListN.{length, take, drop, length-drop, take-append-drop}
use Rattle.std.proofs.Common.{Option, None, Some, Result, Ok, Err}
use Rattle.operation.specs.declared.Operation.{Operation}
use Rattle.decoder.specs.Front.{front, taken}
use Rattle.decoder.specs.Stream.{Item, bytes_of, item_of, items_up_to, items_of, joined}
use Rattle.decoder.specs.declared.Fault.{Fault}
use Rattle.decoder.specs.declared.Front.{Front}
use Rattle.decoder.proofs.Forward.{forward}

pub front-nil : front [] ≡ None
unfolding front
front-nil = refl

-- what stands at the front takes up at least a byte and no more than there are; the end, only where nothing is left
abbrev pub Onward : List ℕ → Option Front → Type 0
Onward s None = length s ≡ 0
Onward s (Some f) = (1 ≤ f.size) × (f.size ≤ length s)

pub onward : (s : List ℕ) {f : Option Front} → front s ≡ f → Onward s f
onward [] e = rw (sym e, front-nil)
onward (b ∷ s) {f} e = go f (rw e at (forward (b ∷ s) (omega arith)))
  where
    go : (f : Option Front) → (1 ≤ taken f) × (taken f ≤ length (b ∷ s)) → Onward (b ∷ s) f
    go None m = absurd (omega arith)
    go (Some f) m = m

pub end_empty : (s : List ℕ) → front s ≡ None → s ≡ []
end_empty [] e = refl
end_empty (b ∷ s) e = absurd (omega (arith, onward (b ∷ s) e))

-- what is left after the front is shorter
closer : (s : List ℕ) (f : Option Front) (k : ℕ) → front s ≡ f → length s ≤ suc k → length (drop (taken f) s) ≤ k
closer [] f k e h = simp length-drop (omega arith)
closer (b ∷ s) f k e h =
    let m = rw e at (forward (b ∷ s) (omega arith)) in
    simp length-drop (omega arith)

-- any bound that is large enough gives the same items
same : (j k : ℕ) (s : List ℕ) (f : Option Front) → front s ≡ f → length s ≤ j → length s ≤ k → items_up_to j s f ≡ items_up_to k s f
unfolding items_up_to
same zero zero s f e p q = refl
same zero (suc k) [] f e p q = rw (sym e, front-nil)
same zero (suc k) (b ∷ s) f e p q = absurd (omega arith)
same (suc j) zero [] f e p q = rw (sym e, front-nil)
same (suc j) zero (b ∷ s) f e p q = absurd (omega arith)
same (suc j) (suc k) s None e p q = refl
same (suc j) (suc k) s (Some f) e p q =
    ap (λ (l : List Item). item_of f.item (take f.size s) ∷ l)
    (same j k (drop f.size s) (front (drop f.size s)) refl (closer s (Some f) j e p) (closer s (Some f) k e q))

-- what stands at the front, then the items of the rest
abbrev pub and_rest : List ℕ → Option Front → List Item
and_rest s None = []
and_rest s (Some f) = item_of f.item (take f.size s) ∷ items_of (drop f.size s)

pub unroll : (s : List ℕ) {f : Option Front} → front s ≡ f → items_of s ≡ and_rest s f
unfolding items_of items_up_to
unroll s {f} e =
    ap (items_up_to (length s) s) e ∙ same (length s) (suc (length s)) s f e (le_refl (length s)) (omega arith) ∙ step f e
  where
    shorter : (n : ℕ) → length (drop n s) ≤ length s → items_up_to (length s) (drop n s) (front (drop n s)) ≡ items_of (drop n s)
    shorter n h = same (length s) (length (drop n s)) (drop n s) (front (drop n s)) refl h (le_refl (length (drop n s)))

    step : (f : Option Front) → front s ≡ f → items_up_to (suc (length s)) s f ≡ and_rest s f
    step None e = refl
    step (Some f) e = ap (λ (l : List Item). item_of f.item (take f.size s) ∷ l) (shorter f.size (simp length-drop (omega arith)))

bytes_back : (r : Result Operation Fault) (b : List ℕ) → bytes_of (item_of r b) ≡ b
bytes_back (Ok op) b = refl
bytes_back (Err f) b = refl

-- the pieces taken up, put together, are the buffer
joined_up_to : (k : ℕ) (s : List ℕ) (f : Option Front) → front s ≡ f → length s ≤ k → joined (items_up_to k s f) ≡ s
unfolding items_up_to joined
joined_up_to zero [] f e h = refl
joined_up_to zero (b ∷ s) f e h = absurd (omega arith)
joined_up_to (suc k) s None e h = sym (end_empty s e)
joined_up_to (suc k) s (Some f) e h =
    rw (bytes_back f.item (take f.size s), joined_up_to k (drop f.size s) (front (drop f.size s)) refl (closer s (Some f) k e h))
    (take-append-drop f.size s)

pub items-joined : (s : List ℕ) → joined (items_of s) ≡ s
unfolding items_of
items-joined s = joined_up_to (length s) s (front s) refl (le_refl (length s))
