-- A step that touches one node: what it does to the view, and that it keeps what is good.
-- Assumes nothing.
use mathlib.Core.Path.{◌≡◌, refl, ◌∙◌, subst}
use Prim.Native.Nat.{ℕ, suc, ◌+◌, ◌-◌, ◌*◌, ◌≤◌, ◌<◌}
use native.Mathlib.Omega.{arith}
use mathlib.Core.Logic.{◌⊎◌, inl, inr}
use mathlib.Core.Bool.{Bool, true, false}
use mathlib.Core.List.{List}
use lib.Dec.{ltb}
use lib.ListN.{length, set, length-set}
use lib.Seq.{get_or-set_same, get_or-set_other}
use borrow.Author.Tests.{ltb-true, ltb-false}
use Rattle.plain_bus.specs.Held.{Node, Bus, last_round, new_node, node_at, with_node, with_pending, with_nodes, with_round, each_node, enqueue}
use Rattle.plain_bus.specs.Round.{without}
use Rattle.plain_bus.proofs.ValidBus.{ValidNode, Valid}
use Rattle.plain_bus.proofs.Nodes.{length-each, each_at}
use Rattle.plain_bus.proofs.Preserved.{by_number}
use Rattle.bus_state.specs.Memory.{Memory, slot_at, node_view, view}
use Rattle.bus_state.specs.declared.NodeState.{NodeState}
use Rattle.bus_state.specs.Entries.{entry_fill}
use Rattle.bus_model.specs.Primitives.{entry_at, set_entry, lay_queue, append, remove_frame}
use Rattle.bus_model.specs.Refines.{Sized, TypedSlot}
use Rattle.bus_model.proofs.Writes.{Same, same_refl, same_trans, entry-own, entry-others, entry-sized}
use Rattle.bus_model.proofs.Views.{Fits, same_view, entry_view, entry_view_lem, append-view, append-others, append-sized}
use Rattle.bus_model.proofs.Removes.{remove-view, remove-others, remove-sized, remove-slot, remove-state, remove_entry, remove-all}
use Rattle.bus_model.proofs.Buses.{view-length, view_at, view-round, view-set}
use Rattle.bus_model.proofs.Validity.{Owned, Good, good-fits}

-- every slot's fields stay within their types
abbrev pub FieldsKept : Memory → Memory → Type 0
FieldsKept m m' = ((p : ℕ) → TypedSlot (slot_at m p)) → (p : ℕ) → TypedSlot (slot_at m' p)

-- what is asked of a node beside its view
pub record Tidy (m : Memory) (j : ℕ) : Type 0 where
  pub fill : (entry_at m j).fill ≤ 4_096
  pub owned : Owned m j

pub same-tidy : {m m' : Memory} {i : ℕ} → Same m m' i → Fits m i → Tidy m i → Tidy m' i
same-tidy {m} {m'} {i} s f t = record {
  fill = rw s.entry t.fill;
  owned = λ q h. let h' : q < (entry_at m i).pending = rw s.entry at h in rw (s.slot q (omega (arith, f.few))) (t.owned q h');
}

pub good-tidy : {m : Memory} → Good m → (j : ℕ) → j < m.state.count → Tidy m j
good-tidy g j h = record { fill = g.fill j h; owned = g.owned j h }

-- ---- one node

-- from m to m' only node k is touched, and it is d then
pub record Touched (m m' : Memory) (k : ℕ) (d : Node) : Type 0 where
  pub count : m'.state.count ≡ m.state.count
  pub round : m'.state.round ≡ m.state.round
  pub sized : Sized m'
  pub others : (i : ℕ) → (i ≡ k → ⊥) → Same m m' i
  pub own : node_view m' k ≡ d
  pub tidy : Tidy m' k
  pub fields : FieldsKept m m'

-- memory is good where each node is as it should be
pub good_from : (m m' : Memory) (b : Bus) → Good m → view m' ≡ b → Valid b → m'.state.count ≡ m.state.count → Sized m' → FieldsKept m m'
    → ((j : ℕ) → j < m.state.count → Tidy m' j) → ((j : ℕ) → m.state.count ≤ j → Same m m' j) → Good m'
unfolding node_view
good_from m m' b g e v c s f t o =
    let w : Valid (view m') = rw e v in
    record {
      typed = record {
        sized = s;
        round = rw (view-round m') at w.round;
        rates = λ j h. rates w j h (ltb j m.state.count) refl;
        fields = f g.typed.fields;
      };
      valid = w;
      fill = λ j h. (t j (rw c at h)).fill;
      owned = λ j h. (t j (rw c at h)).owned;
    }
  where
    rates : Valid (view m') → (j : ℕ) → j < 8 → (t : Bool) → ltb j m.state.count ≡ t → length (entry_at m' j).rates ≡ 3
    rates w j h true q =
        let l : j < m'.state.count = rw c (ltb-true j m.state.count q) in
        (rw (view_at m' j l) at (w.each j (rw (view-length m') l))).three
    rates w j h false q = rw (o j (ltb-false j m.state.count q)).entry (g.typed.rates j h)

module _ (m : Memory) (g : Good m) (k : ℕ) (h : k < m.state.count) (m' : Memory) (d : Node) (t : Touched m m' k d) where
  pub touched_view : view m' ≡ with_node (view m) k d
  touched_view =
      view-set m m' k d h t.count t.round t.own (λ i l n. same_view (t.others i n) (good-fits m g i l))

  pub touched_good : Valid (with_node (view m) k d) → Good m'
  touched_good v =
      good_from m m' (with_node (view m) k d) g touched_view v t.count t.sized t.fields
      (by_number (λ j. j < m.state.count → Tidy m' j) k (λ l. t.tidy)
      (λ j n l. same-tidy (t.others j n) (good-fits m g j l) (good-tidy g j l)))
      (λ j l. t.others j (λ e. omega arith))

-- ---- the plain bus stays valid

pub valid-set : (b : Bus) (k : ℕ) (d : Node) → Valid b → k < length b.nodes → ValidNode b.round d → Valid (with_node b k d)
valid-set b k d v h n = record {
  least = rw (length-set b.nodes k d) v.least;
  most = rw (length-set b.nodes k d) v.most;
  round = v.round;
  each =
      by_number (λ j. j < length (set b.nodes k d) → ValidNode b.round (node_at (with_node b k d) j)) k
      (λ l. rw (get_or-set_same b.nodes k d new_node h) n)
      (λ j o l. rw (get_or-set_other b.nodes k j d new_node o) (v.each j (rw (length-set b.nodes k d) at l)));
}

pub valid-each : (b : Bus) (f : ℕ → Node → Node) (later : ℕ) → Valid b → later ≤ last_round
    → ((j : ℕ) → j < length b.nodes → ValidNode later (f j (node_at b j)))
    → Valid (with_round (with_nodes b (each_node f 0 b.nodes)) later)
valid-each b f later v r n = record {
  least = rw (length-each f 0 b.nodes) v.least;
  most = rw (length-each f 0 b.nodes) v.most;
  round = r;
  each = λ j l. let l' : j < length b.nodes = rw (length-each f 0 b.nodes) at l in rw (each_at f b.nodes j l') (n j l');
}

-- ---- each primitive touches its node only

module _ (m : Memory) (s : Sized m) (k : ℕ) (h : k < 8) (o : Owned m k) where
  pub entry_touched : (d : NodeState) → d.fill ≤ 4_096 → d.pending ≤ (entry_at m k).pending → Touched m (set_entry m k d) k (entry_view m k d)
  unfolding set_entry
  entry_touched d room few =
      let l : k < length m.state.nodes = omega (arith, s.nodes) in
      record {
        count = refl;
        round = refl;
        sized = entry-sized m k d s;
        others = λ i n. entry-others m k d i n;
        own = entry_view_lem m k d l;
        tidy = record {
          fill = rw (entry-own m k d l) room;
          owned = λ q u. let u' : q < d.pending = rw (entry-own m k d l) at u in o q (omega arith);
        };
        fields = λ f. f;
      }

  pub append_touched : (bytes : List ℕ) → (entry_at m k).fill + length bytes ≤ 4_096 → Touched m (append m k bytes) k (enqueue (node_view m k) bytes)
  unfolding append set_entry
  append_touched bytes room =
      let l : k < length m.state.nodes = omega (arith, s.nodes) in
      let e = entry-own (lay_queue m k bytes) k (entry_fill (entry_at m k) ((entry_at m k).fill + length bytes)) l in
      record {
        count = refl;
        round = refl;
        sized = append-sized m k bytes s h room;
        others = λ i n. append-others m k bytes s h room i n;
        own = append-view m k bytes s h room;
        tidy = record { fill = rw e room; owned = λ q u. let u' : q < (entry_at m k).pending = rw e at u in o q u' };
        fields = λ f. f;
      }

  pub remove_touched : (q : ℕ) → Fits m k → (entry_at m k).fill ≤ 4_096 → q < (entry_at m k).pending
      → Touched m (remove_frame m k q) k (with_pending (node_view m k) (without q (node_view m k).pending))
  remove_touched q f room l =
      let e = remove_entry m k q s h f l in
      record {
        count = (remove-state m k q s h f l).0;
        round = (remove-state m k q s h f l).1;
        sized = remove-sized m k q s h f l;
        others = λ i n. remove-others m k q s h f l i n;
        own = remove-view m k q s h f l;
        tidy = record {
          fill = rw e room;
          owned = λ i u. let u' : i < (entry_at m k).pending - 1 = rw e at u in owner i u' (remove-slot m k q s h f l i u');
        };
        fields = remove-all m k q s h f l TypedSlot;
      }
    where
      owner : (i : ℕ) → i < (entry_at m k).pending - 1
          → (slot_at (remove_frame m k q) (4 * k + i) ≡ slot_at m (4 * k + i)) ⊎ (slot_at (remove_frame m k q) (4 * k + i) ≡ slot_at m (4 * k + suc i))
          → (slot_at (remove_frame m k q) (4 * k + i)).owner ≡ k
      owner i u (inl e) = rw e (o i (omega arith))
      owner i u (inr e) = rw e (o (suc i) (omega arith))

pub touched_trans : {m m' m'' : Memory} {k : ℕ} {d d' : Node} → Touched m m' k d → Touched m' m'' k d' → Touched m m'' k d'
touched_trans t u = record {
  count = u.count ∙ t.count;
  round = u.round ∙ t.round;
  sized = u.sized;
  others = λ i n. same_trans (t.others i n) (u.others i n);
  own = u.own;
  tidy = u.tidy;
  fields = λ f. u.fields (t.fields f);
}

pub touched_as : {m m' : Memory} {k : ℕ} {d d' : Node} → Touched m m' k d → d ≡ d' → Touched m m' k d'
touched_as {m} {m'} {k} t e = subst (Touched m m' k) e t

pub untouched : (m : Memory) (k : ℕ) → Sized m → Tidy m k → Touched m m k (node_view m k)
untouched m k s t = record {
  count = refl;
  round = refl;
  sized = s;
  others = λ i n. same_refl m i;
  own = refl;
  tidy = t;
  fields = λ f. f;
}
