-- Collect is that of the plain bus on the view.
-- Assumes nothing.
use mathlib.Core.Path.{◌≡◌, refl}
use Prim.Native.Nat.{ℕ, ◌<◌}
use native.Mathlib.Omega.{arith}
use mathlib.Core.Bool.{Bool, true, false, cond, not}
use mathlib.Core.List.{[]}
use lib.Dec.{ltb}
use lib.ListN.{length}
use borrow.Author.Tests.{ltb-true}
use Rattle.plain_bus.specs.Held.{node_at, with_node, with_queue}
use Rattle.plain_bus.specs.Refusal.{not_attached, room_too_small}
use Rattle.plain_bus.specs.Calls.{refused, collected, gives, refuses, collect}
use Rattle.plain_bus.proofs.Changes.{collected}
use Rattle.plain_bus.proofs.Validity.{change_valid}
use Rattle.buffers.specs.Parts.{part}
use Rattle.bus_state.specs.Memory.{Memory, node_view, view}
use Rattle.bus_state.specs.Valid.{valid_state}
use Rattle.bus_model.specs.Primitives.{entry_at, empty_queue}
use Rattle.bus_model.specs.Calls.{replies, refusing, queue_at, collection, collect_in}
use Rattle.bus_model.specs.Refines.{TypedMemory, Refines}
use Rattle.bus_model.proofs.Views.{entry_view}
use Rattle.bus_model.proofs.Buses.{view-length, view_at, view-round}
use Rattle.bus_model.proofs.Validity.{Good, valid-good, good_node, good-number, queue-length}
use Rattle.bus_model.proofs.Touched.{Touched, touched_view, touched_good, valid-set, entry_touched}
use Rattle.bus_model.proofs.Checked.{checked-passes, unchanged, changed}

module _ (m : Memory) (g : Good m) (k room : ℕ) where
  queue-view : k < m.state.count → (node_view m k).queue ≡ queue_at m k
  unfolding node_view queue_at
  queue-view h = refl

  emptied : k < m.state.count → Touched m (empty_queue m k) k (with_queue (node_view m k) [])
  unfolding empty_queue entry_view node_view part
  emptied h = entry_touched m g.typed.sized k (good-number m g k h) (g.owned k h) _ (omega arith) (omega arith)

  handed : k < m.state.count
      → Refines (replies (collected (queue_at m k)) (empty_queue m k))
      (gives (collected (node_view m k).queue) (with_node (view m) k (with_queue (node_view m k) [])))
  handed h =
      let v = valid-set (view m) k (with_queue (node_view m k) []) g.valid (rw (view-length m) h)
      (rw (view-round m) (change_valid collected (good_node m g k h))) in
      rw (queue-view h)
      (changed (empty_queue m k) (with_node (view m) k (with_queue (node_view m k) []))
      (touched_good m g k h (empty_queue m k) _ (emptied h) v) (touched_view m g k h (empty_queue m k) _ (emptied h)) (collected (queue_at m k)))

  collection_refines : Refines (collection m k room) (collect (view m) k room)
  unfolding collection collect
  collection_refines = rw (view-length m) (go (ltb k m.state.count) refl)
    where
      fits : k < m.state.count → (t : Bool)
          → Refines (cond t (refusing room_too_small m) (replies (collected (queue_at m k)) (empty_queue m k)))
          (cond t (refuses room_too_small (view m)) (gives (collected (node_view m k).queue) (with_node (view m) k (with_queue (node_view m k) []))))
      fits h true = unchanged m g (refused room_too_small)
      fits h false = handed h

      go : (t : Bool) → ltb k m.state.count ≡ t
          → Refines
          (cond (not t) (refusing not_attached m)
          (cond (ltb room (entry_at m k).fill) (refusing room_too_small m) (replies (collected (queue_at m k)) (empty_queue m k))))
          (cond (not t) (refuses not_attached (view m))
          (cond (ltb room (length (node_at (view m) k).queue)) (refuses room_too_small (view m))
          (gives (collected (node_at (view m) k).queue) (with_node (view m) k (with_queue (node_at (view m) k) [])))))
      go false e = unchanged m g (refused not_attached)
      go true e =
          let h = ltb-true k m.state.count e in
          rw (view_at m k h, queue-length m g k h) (fits h (ltb room (entry_at m k).fill))

-- collect, for every valid memory
pub collect_refines : (m : Memory) (k room : ℕ) → TypedMemory m → valid_state m.state m.slots ≡ true
    → Refines (collect_in m k room) (collect (view m) k room)
unfolding collect_in
collect_refines m k room t v =
    let g = valid-good m t v in
    rw (checked-passes m (collection m k room) g) (collection_refines m g k room)
