-- The loop's invariant: the items from the cursor on make of the register what all of them make of the given one.
use Rattle.std.proofs.Common.{◌≡◌, ◌-◌, length, drop}
use Rattle.decoder.specs.Stream.{Item, items_of}
use Rattle.plain_bus.specs.Register.{Register, Update, updated, updates}
use Rattle.open_frames.specs.Steps.{IsStep}
use Rattle.open_frames.proofs.OpenFrames.apply_all.Given as goal

abbrev pub invariant-loop-item : goal.invariant-loop-item
invariant-loop-item b l =
    (g : Register → Item → Update) → IsStep g (goal.F-post b l.step)
    → updates g (items_of (drop l.cursor.at l.buffer)) (updated l.self) ≡ updates g (items_of l.buffer) (updated l.fn.self)

abbrev pub decreases-loop-item : goal.decreases-loop-item
decreases-loop-item b l = length l.buffer - l.cursor.at
