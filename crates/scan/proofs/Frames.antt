-- A frame that meets the content rules is compared by the ID in its slot.
-- Assumes nothing.
use mathlib.Core.Path.{◌≡◌, refl}
use mathlib.Core.Bool.{true}
use Prim.Native.Nat.{ℕ, ◌<◌}
use native.Mathlib.Omega.{arith}
use lib.Dec.{leb}
use borrow.Author.Tests.{leb-true}
use Rattle.operation.specs.Kinds.{id_of}
use Rattle.operation.specs.Rules.{max_id, rules, legal}
use Rattle.operation.specs.declared.Operation.TheVariants.{CanTransmit, FdTransmit, XlTransmit}
use Rattle.operation.proofs.Tests.{false_is_true, both, passed}
use Rattle.slots.specs.Slots.{content_of, held_in, legal_content}
use Rattle.slots.proofs.Contents.{by_kind}
use Rattle.slots.specs.declared.Slot.{Slot}
use Rattle.plain_bus.specs.Order.{rank}
use Rattle.bus_state.specs.Follows.{slot_follows}
use Rattle.bus_model.proofs.Lawful.{max_id_lem}

low-id : (id ide : ℕ) → leb id (max_id ide) ≡ true → id < 4_294_967_296
low-id id ide e = omega (arith, leb-true id (max_id ide) e, max_id_lem ide)

can-id : (id ide rtr dl : ℕ) → legal (CanTransmit id ide rtr dl) ≡ true → id < 4_294_967_296
unfolding legal rules
can-id id ide rtr dl l = low-id id ide (passed _ l 1)

fd-id : (id ide brs esi dl : ℕ) → legal (FdTransmit id ide brs esi dl) ≡ true → id < 4_294_967_296
unfolding legal rules
fd-id id ide brs esi dl l = low-id id ide (passed _ l 1)

xl-id : (id ide sec sdt vcid af dl : ℕ) → legal (XlTransmit id ide sec sdt vcid af dl) ≡ true → id < 4_294_967_296
unfolding legal rules
xl-id id ide sec sdt vcid af dl l = low-id id ide (passed _ l 1)

-- by the kinds that a slot may have
pub legal-id : (x : Slot) → legal_content (content_of x) ≡ true → (id_of (held_in (content_of x)) ≡ x.id) × (x.id < 4_294_967_296)
legal-id x =
    by_kind (λ c. legal_content c ≡ true → (id_of (held_in c) ≡ x.id) × (x.id < 4_294_967_296)) x
    (λ l. (refl, can-id _ _ _ _ l)) (λ l. (refl, fd-id _ _ _ _ _ l)) (λ l. (refl, xl-id _ _ _ _ _ _ _ l)) (λ l. false_is_true l)

pub rank_is : (j low : ℕ) (x : Slot) → slot_follows j low x ≡ true → (rank (held_in (content_of x)) ≡ x.id) × (x.id < 4_294_967_296)
unfolding rank slot_follows
rank_is j low x f = legal-id x (both _ _ (both _ _ f).0).0
