-- Internal. For the pass over the slots (scan): what a valid slot has but for the present round.
-- Assumes nothing.
use Rattle.std.specs.Prelude.{ℕ, Bool, ◌&&◌, leb, eqb}
use Rattle.slots.specs.Slots.{content_of, legal_content}
use Rattle.slots.specs.declared.Slot.{Slot}

-- what a valid slot has but for `now`: a pending frame of node j that may stand behind one accepted at round `low`
unfoldable pub slot_follows : ℕ → ℕ → Slot → Bool
slot_follows j low s = legal_content (content_of s) && eqb s.owner j && leb low s.accepted
