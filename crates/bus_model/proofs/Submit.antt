-- Submit is that of the plain bus on the view.
-- Assumes nothing.
use mathlib.Core.Path.{◌≡◌, refl}
use Prim.Native.Nat.{ℕ, ◌<◌}
use mathlib.Core.Bool.{Bool, true, false, cond, not}
use mathlib.Core.List.{List, [], ◌∷◌}
use lib.Dec.{ltb}
use lib.ListN.{length}
use borrow.Author.Tests.{ltb-true}
use Rattle.operation.specs.Number.{Bytes}
use Rattle.operation.proofs.Numbers.{take-bytes, drop-bytes}
use Rattle.decoder.specs.Stream.{Item, bytes_of, items_of}
use Rattle.decoder.proofs.Streams.{unroll}
use Rattle.plain_bus.specs.Refusal.{Refusal, not_attached, buffer_too_long}
use Rattle.plain_bus.specs.Submit.{Step, done, fails, take_item, take_items}
use Rattle.plain_bus.specs.Calls.{refused, accepted, refuses, max_submit, taken_whole, submit}
use Rattle.plain_bus.proofs.Whole.{along, items-nil, ValidItems, items-valid}
use Rattle.bus_state.specs.Memory.{Memory, view}
use Rattle.bus_state.specs.Valid.{valid_state}
use Rattle.bus_model.specs.Submit.{Progress, goes_on, stops, item_in, items_in}
use Rattle.bus_model.specs.Calls.{refusing, taken_in, submitted, submit_in}
use Rattle.bus_model.specs.Refines.{TypedMemory, Refines}
use Rattle.bus_model.proofs.Buses.{view-length}
use Rattle.bus_model.proofs.Validity.{Good, valid-good}
use Rattle.bus_model.proofs.Checked.{checked-passes, unchanged, changed}
use Rattle.bus_model.proofs.Steps.{Agrees, item_agrees}

-- each item's numbers are bytes, where those of the buffer are
abbrev ItemBytes : List Item → Type 0
ItemBytes [] = Unit {0}
ItemBytes (i ∷ is) = Bytes (bytes_of i) × ItemBytes is

item-bytes : (s : List ℕ) → Bytes s → ItemBytes (items_of s)
item-bytes s = along (λ s. Bytes s → ItemBytes (items_of s)) (λ u. rw items-nil tt)
    (λ number n s e r u. rw (unroll s e) (take-bytes n s u, r (drop-bytes n s u)))
    (λ op n s e r u. rw (unroll s e) (take-bytes n s u, r (drop-bytes n s u))) s

-- all steps
items-agree : (k : ℕ) (is : List Item) (m : Memory) → Good m → k < m.state.count → ValidItems is → ItemBytes is
    → Agrees m.state.count (items_in k is (goes_on m)) (take_items k is (done (view m)))
unfolding items_in take_items
items-agree k [] m g h v u = (refl, g, refl)
items-agree k (i ∷ is) m g h v u =
    go (item_in m k i) (take_item (view m) k i) (item_agrees m g k h i v.0 u.0) (λ m' g' h'. items-agree k is m' g' h' v.1 u.1)
  where
    stopped : (is : List Item) (r : Refusal) → Agrees m.state.count (items_in k is (stops r)) (take_items k is (fails r))
    stopped [] r = refl
    stopped (i ∷ is) r = refl

    go : (p : Progress) (s : Step) → Agrees m.state.count p s
        → ((m' : Memory) → Good m' → k < m'.state.count → Agrees m'.state.count (items_in k is (goes_on m')) (take_items k is (done (view m'))))
        → Agrees m.state.count (items_in k is p) (take_items k is s)
    go (goes_on m') (done b) a rest =
        let c : m'.state.count ≡ m.state.count = a.2 in
        rw (← a.0, ← c) (rest m' a.1 (rw c h))
    go (goes_on m') (fails r') a rest = elim a [ ]
    go (stops r) (done b) a rest = elim a [ ]
    go (stops r) (fails r') a rest = rw (← a) (stopped is r)

-- ---- the call

module _ (m : Memory) (g : Good m) (k : ℕ) (buffer : List ℕ) (u : Bytes buffer) where
  taken_refines : (p : Progress) (s : Step) → Agrees m.state.count p s → Refines (taken_in m p) (taken_whole (view m) s)
  taken_refines (goes_on m') (done b) a = changed m' b a.1 a.0 accepted
  taken_refines (goes_on m') (fails r') a = elim a [ ]
  taken_refines (stops r) (done b) a = elim a [ ]
  taken_refines (stops r) (fails r') a = rw (← a) (unchanged m g (refused r))

  submitted_refines : Refines (submitted m k buffer) (submit (view m) k buffer)
  unfolding submitted submit
  submitted_refines = rw (view-length m) (go (ltb k m.state.count) refl (ltb max_submit (length buffer)))
    where
      go : (t : Bool) → ltb k m.state.count ≡ t → (l : Bool)
          → Refines
          (cond (not t) (refusing not_attached m) (cond l (refusing buffer_too_long m) (taken_in m (items_in k (items_of buffer) (goes_on m)))))
          (cond (not t) (refuses not_attached (view m))
          (cond l (refuses buffer_too_long (view m)) (taken_whole (view m) (take_items k (items_of buffer) (done (view m))))))
      go false e l = unchanged m g (refused not_attached)
      go true e true = unchanged m g (refused buffer_too_long)
      go true e false =
          taken_refines (items_in k (items_of buffer) (goes_on m)) (take_items k (items_of buffer) (done (view m)))
          (items-agree k (items_of buffer) m g (ltb-true k m.state.count e) (items-valid buffer) (item-bytes buffer u))

-- submit, for every valid memory and every buffer of bytes
pub submit_refines : (m : Memory) (k : ℕ) (buffer : List ℕ) → TypedMemory m → valid_state m.state m.slots ≡ true → Bytes buffer
    → Refines (submit_in m k buffer) (submit (view m) k buffer)
unfolding submit_in
submit_refines m k buffer t v u =
    let g = valid-good m t v in
    rw (checked-passes m (submitted m k buffer) g) (submitted_refines m g k buffer u)
