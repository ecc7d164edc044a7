-- The first p of the answer are the IDs of the first p slots.
use Rattle.std.proofs.Common.{◌≡◌, map, take, length}
use Rattle.slots.specs.declared.Slot.{Slot}
use Rattle.lent_slots.proofs.ids.Given as goal

abbrev pub invariant-loop-p : goal.invariant-loop-p
invariant-loop-p l = record {
  size : length l.ids ≡ 32;
  copied : take l.p l.ids ≡ map (λ (x : Slot). x.id) (take l.p l.slots);
}
