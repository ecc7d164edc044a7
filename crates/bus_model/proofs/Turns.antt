-- A change at each node in turn, and the test of room in every queue before it.
-- Assumes nothing.
use mathlib.Core.Path.{◌≡◌, refl, ◌∙◌, subst}
use Prim.Native.Nat.{ℕ, zero, suc, ◌+◌, ◌≤◌, ◌<◌}
use native.Mathlib.Omega.{arith}
use mathlib.Core.Bool.{true}
use mathlib.Core.List.{List}
use lib.ListN.{length}
use Rattle.plain_bus.specs.Held.{Node, Bus, with_nodes, each_node, every_node, has_room, all_have_room}
use Rattle.plain_bus.proofs.ValidBus.{ValidNode, Valid}
use Rattle.plain_bus.proofs.Nodes.{room_at}
use Rattle.plain_bus.proofs.Preserved.{by_number}
use Rattle.bus_state.specs.Memory.{Memory, node_view, nodes_from, view}
use Rattle.bus_model.specs.Primitives.{entry_at, in_turn}
use Rattle.bus_model.specs.Submit.{room_for_each}
use Rattle.bus_model.specs.Refines.{Sized}
use Rattle.bus_model.proofs.Writes.{Same, same_refl, same_trans}
use Rattle.bus_model.proofs.Views.{same_view}
use Rattle.bus_model.proofs.Buses.{view-length, view_at, view-each}
use Rattle.bus_model.proofs.Validity.{Good, fits_from, queue-length}
use Rattle.bus_model.proofs.Touched.{FieldsKept, Tidy, same-tidy, Touched, good_from}

-- the nodes below j are changed, those from j on are as they were
pub record Going (m x : Memory) (j : ℕ) (f : ℕ → Node → Node) : Type 0 where
  pub count : x.state.count ≡ m.state.count
  pub round : x.state.round ≡ m.state.round
  pub sized : Sized x
  pub fields : FieldsKept m x
  pub past : (i : ℕ) → i < j → (node_view x i ≡ f i (node_view m i)) × Tidy x i
  pub left : (i : ℕ) → j ≤ i → Same m x i

module _ (m : Memory) (f : ℕ → Node → Node) (later : ℕ)
    (valid : (i : ℕ) → i < m.state.count → ValidNode later (f i (node_view m i))) (change : Memory → ℕ → Memory)
    (step : (x : Memory) (j : ℕ) → j < m.state.count → Sized x → Same m x j → x.state.round ≡ m.state.round
    → Touched x (change x j) j (f j (node_view m j))) where
  going_on : (x : Memory) (j : ℕ) → j < m.state.count → Going m x j f → Going m (change x j) (suc j) f
  going_on x j h g =
      let t = step x j h g.sized (g.left j (omega arith)) g.round in
      record {
        count = t.count ∙ g.count;
        round = t.round ∙ g.round;
        sized = t.sized;
        fields = λ u. t.fields (g.fields u);
        past = by_number (λ i. i < suc j → (node_view (change x j) i ≡ f i (node_view m i)) × Tidy (change x j) i) j
            (λ l. (t.own, t.tidy))
            (λ i n l.
            let l' : i < j = omega arith in
            let a = g.past i l' in
            let w = fits_from x i later (f i (node_view m i)) a.0 (valid i (omega arith)) a.1.fill in
            (same_view (t.others i n) w ∙ a.0, same-tidy (t.others i n) w a.1));
        left = λ i l. same_trans (g.left i (omega arith)) (t.others i (λ e. omega arith));
      }

  going_all : (n j : ℕ) (x : Memory) → j + n ≡ m.state.count → Going m x j f → Going m (in_turn change j n x) m.state.count f
  unfolding in_turn
  going_all zero j x e g = let q : j ≡ m.state.count = omega arith in subst (λ (i : ℕ). Going m x i f) q g
  going_all (suc n) j x e g = going_all n (suc j) (change x j) (omega arith) (going_on x j (omega arith) g)

  pub in_turn_lem : Sized m → Going m (in_turn change 0 m.state.count m) m.state.count f
  in_turn_lem s =
      going_all m.state.count 0 m (omega arith) (record {
        count = refl;
        round = refl;
        sized = s;
        fields = λ u. u;
        past = λ i l. absurd (omega arith);
        left = λ i l. same_refl m i;
      })

-- all nodes are changed
module _ (m x : Memory) (f : ℕ → Node → Node) (g : Good m) (t : Going m x m.state.count f) where
  pub going_view : view x ≡ with_nodes (view m) (each_node f 0 (view m).nodes)
  going_view = view-each m x f t.count t.round (λ i h. (t.past i h).0)

  pub going_good : (b : Bus) → view x ≡ b → Valid b → Good x
  going_good b e v = good_from m x b g e v t.count t.sized t.fields (λ j h. (t.past j h).1) (λ j h. t.left j h)

-- ---- room in every queue

room_from_lem : (part : ℕ → List ℕ) (part' : ℕ → Node → List ℕ) (m : Memory) (n j : ℕ)
    → ((i : ℕ) → j ≤ i → i < j + n → (part i ≡ part' i (node_view m i)) × (length (node_view m i).queue ≡ (entry_at m i).fill))
    → room_for_each part m j n ≡ every_node (λ i d. has_room d (part' i d)) j (nodes_from m j n)
unfolding room_for_each every_node nodes_from
room_from_lem part part' m zero j f = refl
room_from_lem part part' m (suc n) j f =
    let a = f j (omega arith) (omega arith) in
    rw (a.0, a.1, room_from_lem part part' m n (suc j) (λ i l u. f i (omega arith) (omega arith)))

-- the test of all queues is that of the plain bus
pub room-view : (part : ℕ → List ℕ) (part' : ℕ → Node → List ℕ) (m : Memory) → Good m
    → ((i : ℕ) → i < m.state.count → part i ≡ part' i (node_view m i)) → room_for_each part m 0 m.state.count ≡ all_have_room part' (view m)
unfolding view
room-view part part' m g f =
    room_from_lem part part' m m.state.count 0 (λ i l u. let h : i < m.state.count = omega arith in (f i h, queue-length m g i h))

-- and what it says of one
pub room_one : (part : ℕ → Node → List ℕ) (m : Memory) → Good m → all_have_room part (view m) ≡ true → (j : ℕ) → j < m.state.count
    → (entry_at m j).fill + length (part j (node_view m j)) ≤ 4_096
room_one part m g e j h = rw (view_at m j h, queue-length m g j h) at (room_at part (view m) e j (rw (view-length m) h))
