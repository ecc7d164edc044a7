-- The loop's invariant: whether the IDs so far do.
use Rattle.std.proofs.Common.{◌≡◌, leb, take}
use Rattle.std.specs.List.{list_all}
use Rattle.operation.specs.Rules.{max_extended_id}
use Rattle.open_frames.proofs.all_fit.Given as goal

abbrev pub invariant-loop-id : goal.invariant-loop-id
invariant-loop-id l = l.fit ≡ list_all (λ x. leb x max_extended_id) (take l.id-index l.ids)
