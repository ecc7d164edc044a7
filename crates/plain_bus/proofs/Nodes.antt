-- The nodes of a bus by number: what changing one or each of them leaves at a number.
-- Assumes nothing.
use mathlib.Core.Path.{◌≡◌, refl, ap, ◌∙◌}
use Prim.Native.Nat.{ℕ, zero, suc, ◌+◌, ◌≤◌, ◌<◌}
use native.Mathlib.Omega.{arith}
use native.Mathlib.Nat.{add-zero, zero-add}
use mathlib.Core.Bool.{Bool, true, false, ◌&&◌}
use mathlib.Core.List.{List, [], ◌∷◌}
use lib.ListN.{length, get_or}
use borrow.Author.Tests.{leb-true}
use Rattle.plain_bus.specs.Held.{Node, Bus, queue_capacity, new_node, node_at, each_node, every_node, has_room, all_have_room}

pub length-each : (change : ℕ → Node → Node) (k : ℕ) (ds : List Node) → length (each_node change k ds) ≡ length ds
unfolding each_node
length-each change k [] = refl
length-each change k (d ∷ ds) = ap suc (length-each change (suc k) ds)

each_from : (change : ℕ → Node → Node) (k : ℕ) (ds : List Node) (j : ℕ) → j < length ds
    → get_or (each_node change k ds) j new_node ≡ change (k + j) (get_or ds j new_node)
unfolding each_node
each_from change k [] j h = absurd (omega arith)
each_from change k (d ∷ ds) zero h = rw add-zero
each_from change k (d ∷ ds) (suc j) h =
    each_from change (suc k) ds j (omega arith) ∙ ap (λ (n : ℕ). change n (get_or ds j new_node)) (omega arith)

pub each_at : (change : ℕ → Node → Node) (ds : List Node) (j : ℕ) → j < length ds
    → get_or (each_node change 0 ds) j new_node ≡ change j (get_or ds j new_node)
each_at change ds j h = each_from change 0 ds j h ∙ rw zero-add

every_from : (test : ℕ → Node → Bool) (k : ℕ) (ds : List Node) → every_node test k ds ≡ true → (j : ℕ) → j < length ds
    → test (k + j) (get_or ds j new_node) ≡ true
unfolding every_node
every_from test k [] e j h = absurd (omega arith)
every_from test k (d ∷ ds) e j h = go (test k d) refl e j h (every_from test (suc k) ds)
  where
    go : (t : Bool) → test k d ≡ t → (t && every_node test (suc k) ds) ≡ true → (j : ℕ) → j < suc (length ds)
        → (every_node test (suc k) ds ≡ true → (j : ℕ) → j < length ds → test (suc k + j) (get_or ds j new_node) ≡ true)
        → test (k + j) (get_or (d ∷ ds) j new_node) ≡ true
    go false q e j h r = let z : ◌≡◌ {A = ℕ} 0 1 = cc in absurd (omega arith)
    go true q e zero h r = rw add-zero q
    go true q e (suc j) h r = ap (λ (n : ℕ). test n (get_or ds j new_node)) (omega arith) ∙ r e j (omega arith)

every_at : (test : ℕ → Node → Bool) (ds : List Node) → every_node test 0 ds ≡ true → (j : ℕ) → j < length ds
    → test j (get_or ds j new_node) ≡ true
every_at test ds e j h = ap (λ (n : ℕ). test n (get_or ds j new_node)) (omega arith) ∙ every_from test 0 ds e j h

-- each node's queue has room for its part
pub room_at : (part : ℕ → Node → List ℕ) (b : Bus) → all_have_room part b ≡ true → (j : ℕ) → j < length b.nodes
    → length (node_at b j).queue + length (part j (node_at b j)) ≤ queue_capacity
room_at part b e j h = leb-true _ queue_capacity (every_at (λ j d. has_room d (part j d)) b.nodes e j h)
