-- What the pass comes to: the key of the winner where state and slots are valid, and 0 where not.
-- Assumes nothing.
use mathlib.Core.Path.{◌≡◌, refl, sym, ◌∙◌}
use mathlib.Core.Bool.{Bool, true, false, cond, ◌&&◌}
use mathlib.Core.List.{List}
use Rattle.std.specs.Prelude.{Option, Some, None}
use Prim.Native.Nat.{ℕ, zero, suc, ◌+◌, ◌*◌, ◌≤◌, ◌<◌}
use native.Mathlib.Nat.{add-zero}
use native.Mathlib.Omega.{arith}
use lib.Dec.{leb}
use lib.ListN.{get_or}
use borrow.Author.Tests.{leb-true, le-leb, le-ltb}
use Rattle.operation.proofs.Tests.{false_is_true, both}
use Rattle.plain_bus.specs.Order.{rank}
use Rattle.slots.specs.Slots.{free_slot}
use Rattle.slots.specs.declared.Slot.{Slot}
use Rattle.bus_state.specs.Memory.{node_state}
use Rattle.bus_state.specs.Valid.{valid_slots, valid_entry, valid_node, valid_nodes, valid_state}
use Rattle.bus_state.specs.Follows.{slot_follows}
use Rattle.bus_state.specs.declared.State.{State}
use Rattle.bus_state.specs.declared.NodeState.{NodeState}
use Rattle.bus_state.proofs.Tests.{few}
use Rattle.scan.specs.declared.Run.{Run}
use Rattle.scan.specs.declared.Winner.{Winner}
use Rattle.scan.specs.Winner.{held_at, better, best_of, best_from, best_in, Small}
use Rattle.scan.specs.Scan.{frame_key, no_frame, key_of, lower_of, step_of, steps_of, begun, frames_key, entry_key, frame_count, nodes_key, scanned}
use Rattle.scan.proofs.Keys.{key_better, better_small}
use Rattle.scan.proofs.Frames.{rank_is}
use Rattle.scan.proofs.Following.{slots_follow, last_round, steps_low, following_valid}

-- the key so far: that of w where all was valid, and 0 where not
abbrev pub KeyIs : ℕ → Bool → Option Winner → Type 0
KeyIs k ok w = k ≡ cond ok (key_of w) 0

-- and w is one of the frames, where all was valid
abbrev pub SmallIf : Bool → Option Winner → Type 0
SmallIf ok w = ok ≡ true → Small w

and_true : (b : Bool) → (b && true) ≡ b
and_true true = refl
and_true false = refl

and_false : (b : Bool) → (b && false) ≡ false
and_false true = refl
and_false false = refl

assoc : (a b c : Bool) → (a && b && c) ≡ (a && (b && c))
assoc true b c = refl
assoc false b c = refl

-- ---- one slot

module _ (a : List Slot) (j q : ℕ) (j8 : j < 8) (q4 : q < 4) where
  abbrev x : Slot
  x = get_or a (4 * j + q) free_slot

  abbrev next : Option Winner → Option Winner
  next w = better w (rank (held_at a (4 * j + q))) j q

  step_key : (r : Run) (ok : Bool) (w : Option Winner) → KeyIs r.key ok w → SmallIf ok w
      → KeyIs (step_of r x j (4 * j + q)).key (ok && slot_follows j r.low x) (next w)
  unfolding step_of
  step_key r ok w e s = go ok (slot_follows j r.low x) refl e s
    where
      go : (o v : Bool) → slot_follows j r.low x ≡ v → r.key ≡ cond o (key_of w) 0 → SmallIf o w
          → cond v (lower_of (frame_key x.id (4 * j + q)) r.key) 0 ≡ cond (o && v) (key_of (next w)) 0
      go true true qv e s =
          let v = rank_is j r.low x qv in
          rw (e, v.0) (key_better x.id j q w (s refl) v.1 j8 q4)
      go false true qv e s = rw (e, le-ltb (frame_key x.id (4 * j + q)) 0 (omega arith))
      go true false qv e s = refl
      go false false qv e s = refl

  step_small : (low : ℕ) (ok : Bool) (w : Option Winner) → SmallIf ok w → SmallIf (ok && slot_follows j low x) (next w)
  step_small low ok w s = go ok (slot_follows j low x) refl s
    where
      go : (o v : Bool) → slot_follows j low x ≡ v → SmallIf o w → SmallIf (o && v) (next w)
      go true true qv s = λ _.
          let v = rank_is j low x qv in
          rw v.0 (better_small x.id j q w (s refl) v.1 j8 q4)
      go false v qv s = λ h. false_is_true h
      go true false qv s = λ h. false_is_true h

-- ---- n slots of a node from position q on

-- the key after one more test
last_key : (k : ℕ) (ok t : Bool) (w : Option Winner) → KeyIs k ok w → SmallIf ok w → KeyIs (cond t k 0) (ok && t) w × SmallIf (ok && t) w
last_key k ok true w e s = rw (and_true ok) (e, s)
last_key k ok false w e s = rw (and_false ok) (refl, λ h. false_is_true h)

module _ (a : List Slot) (j : ℕ) (j8 : j < 8) where
  steps_key : (n q : ℕ) → q + n ≤ 4 → (r : Run) (ok : Bool) (w : Option Winner) → KeyIs r.key ok w → SmallIf ok w
      → KeyIs (steps_of n (4 * j + q) j a r).key (ok && slots_follow n (4 * j + q) j r.low a) (best_of a j q n w)
      × SmallIf (ok && slots_follow n (4 * j + q) j r.low a) (best_of a j q n w)
  unfolding steps_of slots_follow best_of step_of
  steps_key zero q h r ok w e s = rw (and_true ok) (e, s)
  steps_key (suc n) q h r ok w e s =
      let q4 : q < 4 = omega arith in
      let p : 4 * j + suc q ≡ suc (4 * j + q) = omega arith in
      let v = slot_follows j r.low (get_or a (4 * j + q) free_slot) in
      let i =
      steps_key n (suc q) (omega arith) (step_of r (get_or a (4 * j + q) free_slot) j (4 * j + q)) (ok && v) _
      (step_key a j q j8 q4 r ok w e s) (step_small a j q j8 q4 r.low ok w s) in
      rw (← assoc ok v (slots_follow n (suc (4 * j + q)) j (get_or a (4 * j + q) free_slot).accepted a)) (rw p at i)

  -- all n frames of a node
  frames_key_lem : (now n key : ℕ) → n ≤ 4 → (ok : Bool) (w : Option Winner) → KeyIs key ok w → SmallIf ok w
      → KeyIs (frames_key n j now a key) (ok && valid_slots n (4 * j) j 0 now a) (best_of a j 0 n w)
      × SmallIf (ok && valid_slots n (4 * j) j 0 now a) (best_of a j 0 n w)
  frames_key_lem now n key h ok w e s =
      let i = rw add-zero at (steps_key n 0 (omega arith) (begun key) ok w e s) in
      let follow = slots_follow n (4 * j) j 0 a in
      let past = leb (last_round n (4 * j) 0 a) now in
      rw (steps_low a j n (4 * j) (begun key), ← following_valid a j now n (4 * j) 0 (omega arith), ← assoc ok follow past)
      (last_key _ (ok && follow) past _ i.0 i.1)

-- ---- n nodes from number j on

module _ (s : State) (a : List Slot) where
  abbrev entry : ℕ → NodeState
  entry j = node_state s j

  node_key : (j key : ℕ) → j < 8 → (ok : Bool) (w : Option Winner) → KeyIs key ok w → SmallIf ok w
      → KeyIs (frames_key (frame_count (entry j)) j s.round a (entry_key (entry j) key)) (ok && valid_node s.round j (entry j) a) (best_of a j 0 (entry j).pending w)
      × SmallIf (ok && valid_node s.round j (entry j) a) (best_of a j 0 (entry j).pending w)
  unfolding valid_node steps_of
  node_key j key j8 ok w e z = go (valid_entry (entry j)) refl
    where
      n : ℕ
      n = (entry j).pending

      go : (v : Bool) → valid_entry (entry j) ≡ v
          → KeyIs (frames_key (cond v n 0) j s.round a (cond v key 0)) (ok && (v && valid_slots n (4 * j) j 0 s.round a)) (best_of a j 0 n w)
          × SmallIf (ok && (v && valid_slots n (4 * j) j 0 s.round a)) (best_of a j 0 n w)
      go true q = frames_key_lem a j j8 s.round n key (few (entry j) q) ok w e z
      go false q = rw (and_false ok, le-leb 0 s.round (omega arith)) (refl, λ h. false_is_true h)

  nodes_key_lem : (n j key : ℕ) → j + n ≤ 8 → (ok : Bool) (w : Option Winner) → KeyIs key ok w → SmallIf ok w
      → KeyIs (nodes_key n j s a key) (ok && valid_nodes n j s a) (best_from s.nodes a j n w) × SmallIf (ok && valid_nodes n j s a) (best_from s.nodes a j n w)
  unfolding nodes_key valid_nodes best_from
  nodes_key_lem zero j key h ok w e z = rw (and_true ok) (e, z)
  nodes_key_lem (suc n) j key h ok w e z =
      let i = node_key j key (omega arith) ok w e z in
      rw (← assoc ok (valid_node s.round j (entry j) a) (valid_nodes n (suc j) s a))
      (nodes_key_lem n (suc j) _ (omega arith) (ok && valid_node s.round j (entry j) a) _ i.0 i.1)

  -- the whole
  pub scanned_is : KeyIs (scanned s a) (valid_state s a) (best_in s a) × SmallIf (valid_state s a) (best_in s a)
  unfolding scanned valid_state best_in nodes_key key_of
  scanned_is = go (leb 2 s.count && leb s.count 8) refl
    where
      go : (t : Bool) → (leb 2 s.count && leb s.count 8) ≡ t
          → KeyIs (nodes_key (cond t s.count 0) 0 s a (cond t no_frame 0)) (t && valid_nodes s.count 0 s a) (best_from s.nodes a 0 s.count None)
          × SmallIf (t && valid_nodes s.count 0 s a) (best_from s.nodes a 0 s.count None)
      go true q = nodes_key_lem s.count 0 no_frame (omega (arith, leb-true s.count 8 (both (leb 2 s.count) (leb s.count 8) q).1)) true None refl (λ h. tt)
      go false q = (refl, λ h. false_is_true h)

  -- ---- for the calls: 0 is a state that is not valid, and any other key the winner's

  key_above : (w : Option Winner) → 1 ≤ key_of w
  unfolding key_of
  key_above None = omega arith
  key_above (Some w) = omega arith

  pub valid_key : 1 ≤ scanned s a → valid_state s a ≡ true
  valid_key h = go (valid_state s a) scanned_is.0
    where
      go : (t : Bool) → KeyIs (scanned s a) t (best_in s a) → t ≡ true
      go true e = refl
      go false e = absurd (omega arith)

  pub invalid_key : scanned s a ≡ 0 → valid_state s a ≡ false
  invalid_key h = go (valid_state s a) scanned_is.0
    where
      go : (t : Bool) → KeyIs (scanned s a) t (best_in s a) → t ≡ false
      go true e = absurd (omega (arith, key_above (best_in s a)))
      go false e = refl

  pub winner_key : valid_state s a ≡ true → key_of (best_in s a) ≡ scanned s a
  winner_key v = sym (scanned_is.0 ∙ rw v)

  pub winner_small : valid_state s a ≡ true → Small (best_in s a)
  winner_small v = scanned_is.1 v
