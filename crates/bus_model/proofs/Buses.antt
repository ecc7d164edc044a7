-- The view as a list of nodes: by number, and where each of its nodes is given.
-- Assumes nothing.
use mathlib.Core.Path.{◌≡◌, refl, sym, ap, ◌∙◌}
use Prim.Native.Nat.{ℕ, zero, suc, ◌+◌, ◌<◌}
use native.Mathlib.Omega.{arith}
use native.Mathlib.Nat.{add-zero, zero-add}
use lib.ListN.{length, get_or, length-set}
use lib.Seq.{ext_get_or, get_or-set_same, get_or-set_other}
use Rattle.plain_bus.specs.Held.{Node, Bus, new_node, node_at, with_node, with_nodes, each_node}
use Rattle.plain_bus.proofs.Nodes.{length-each, each_at}
use Rattle.plain_bus.proofs.Preserved.{by_number}
use Rattle.bus_state.specs.Memory.{Memory, node_view, nodes_from, view}

length-nodes : (m : Memory) (j n : ℕ) → length (nodes_from m j n) ≡ n
unfolding nodes_from
length-nodes m j zero = refl
length-nodes m j (suc n) = ap suc (length-nodes m (suc j) n)

nodes_at : (m : Memory) (j n i : ℕ) → i < n → get_or (nodes_from m j n) i new_node ≡ node_view m (j + i)
unfolding nodes_from
nodes_at m j zero i h = absurd (omega arith)
nodes_at m j (suc n) zero h = rw add-zero
nodes_at m j (suc n) (suc i) h =
    let e : suc j + i ≡ j + suc i = omega arith in
    nodes_at m (suc j) n i (omega arith) ∙ ap (node_view m) e

pub view-length : (m : Memory) → length (view m).nodes ≡ m.state.count
unfolding view
view-length m = length-nodes m 0 m.state.count

pub view_at : (m : Memory) (j : ℕ) → j < m.state.count → node_at (view m) j ≡ node_view m j
unfolding view
view_at m j h = nodes_at m 0 m.state.count j h ∙ rw zero-add

pub view-round : (m : Memory) → (view m).round ≡ m.state.round
unfolding view
view-round m = refl

-- the view is the bus of these nodes
pub view_is : (m : Memory) (b : Bus) → length b.nodes ≡ m.state.count → b.round ≡ m.state.round
    → ((i : ℕ) → i < m.state.count → node_view m i ≡ node_at b i) → view m ≡ b
view_is m b l r f =
    let nodes : (view m).nodes ≡ b.nodes =
    ext_get_or new_node (view m).nodes b.nodes (view-length m ∙ sym l)
    (λ i h. let h' : i < m.state.count = rw (view-length m) at h in view_at m i h' ∙ f i h') in
    let round : (view m).round ≡ b.round = view-round m ∙ sym r in
    λ t. record { nodes = nodes t; round = round t }

-- one node is changed
pub view-set : (m m' : Memory) (k : ℕ) (d : Node) → k < m.state.count → m'.state.count ≡ m.state.count
    → m'.state.round ≡ m.state.round → node_view m' k ≡ d → ((i : ℕ) → i < m.state.count → (i ≡ k → ⊥) → node_view m' i ≡ node_view m i)
    → view m' ≡ with_node (view m) k d
view-set m m' k d h c r own others =
    view_is m' (with_node (view m) k d) (length-set (view m).nodes k d ∙ view-length m ∙ sym c) (view-round m ∙ sym r)
    (by_number (λ i. i < m'.state.count → node_view m' i ≡ node_at (with_node (view m) k d) i) k
    (λ l. own ∙ sym (get_or-set_same (view m).nodes k d new_node (rw (view-length m) h)))
    (λ i n l. let l' : i < m.state.count = rw c at l in
    others i l' n ∙ sym (get_or-set_other (view m).nodes k i d new_node n ∙ view_at m i l')))

-- each node is changed
pub view-each : (m m' : Memory) (f : ℕ → Node → Node) → m'.state.count ≡ m.state.count → m'.state.round ≡ m.state.round
    → ((i : ℕ) → i < m.state.count → node_view m' i ≡ f i (node_view m i)) → view m' ≡ with_nodes (view m) (each_node f 0 (view m).nodes)
view-each m m' f c r g =
    view_is m' (with_nodes (view m) (each_node f 0 (view m).nodes)) (length-each f 0 (view m).nodes ∙ view-length m ∙ sym c)
    (view-round m ∙ sym r)
    (λ i l. let l' : i < m.state.count = rw c at l in
    g i l' ∙ sym (each_at f (view m).nodes i (rw (view-length m) l') ∙ ap (f i) (view_at m i l')))
