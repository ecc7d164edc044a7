-- What holds of the three kinds of a slot's content and of a free one holds of every slot's.
-- Assumes nothing.
use mathlib.Core.Path.{◌≡◌, refl}
use mathlib.Core.Bool.{Bool, true, false, cond}
use lib.Dec.{eqb}
use Rattle.operation.specs.Kinds.{is_transmit}
use Rattle.operation.specs.Rules.{legal}
use Rattle.operation.specs.declared.Operation.{Operation}
use Rattle.operation.specs.declared.Operation.TheVariants.{CanTransmit, FdTransmit, XlTransmit}
use Rattle.operation.proofs.Tests.{false_is_true}
use Rattle.slots.specs.Slots.{content_of, held_in, legal_content}
use Rattle.slots.specs.declared.Slot.{Slot}
use Rattle.std.specs.Prelude.{Option, Some, None}

module _ (P : Option Operation → Type 0) where
  either : (t : Bool) {x y : Option Operation} → P x → P y → P (cond t x y)
  either true a b = a
  either false a b = b

  pub by_kind : (s : Slot)
      → P (Some (CanTransmit s.id s.first s.second s.length))
      → P (Some (FdTransmit s.id s.first s.second s.third s.length))
      → P (Some (XlTransmit s.id s.first s.second s.third s.fourth s.af s.length))
      → P None → P (content_of s)
  unfolding content_of
  by_kind s can fd xl free = either (eqb s.kind 0x10) can (either (eqb s.kind 0x11) fd (either (eqb s.kind 0x12) xl free))

-- a slot that meets the content rules holds a Transmit that does
pub held-transmit : (s : Slot) → legal_content (content_of s) ≡ true
    → (is_transmit (held_in (content_of s)) ≡ true) × (legal (held_in (content_of s)) ≡ true)
held-transmit s =
    by_kind (λ c. legal_content c ≡ true → (is_transmit (held_in c) ≡ true) × (legal (held_in c) ≡ true)) s
    (λ l. (refl, l)) (λ l. (refl, l)) (λ l. (refl, l)) (λ l. false_is_true l)
