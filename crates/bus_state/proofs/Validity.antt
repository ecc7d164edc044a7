-- The test of validity, taken apart and put together: slot by slot, entry by entry, node by node; and that it passes exactly the valid.
-- Assumes nothing.
use mathlib.Core.Path.{◌≡◌, refl, sym}
use Prim.Native.Nat.{ℕ, zero, suc, ◌+◌, ◌*◌, ◌≤◌, ◌<◌}
use native.Mathlib.Omega.{arith}
use native.Mathlib.Nat.{add-zero, zero-add}
use mathlib.Core.Bool.{Bool, true, false, not, ◌&&◌, ◌||◌}
use mathlib.Core.List.{List, [], ◌∷◌}
use lib.Dec.{leb, eqb}
use lib.ListN.{length, get_or}
use borrow.Author.Tests.{leb-true, eqb-true, le-leb, eq-eqb}
use Rattle.operation.specs.Format.{data_length}
use Rattle.operation.specs.Rules.{one_of, statuses, behaviours}
use Rattle.operation.proofs.Sizes.{transmit-short}
use Rattle.operation.proofs.Tests.{false_is_true, both}
use Rattle.slots.specs.Slots.{free_slot, content_of, legal_content}
use Rattle.slots.specs.declared.Slot.{Slot}
use Rattle.slots.proofs.Contents.{held-transmit}
use Rattle.plain_bus.specs.Held.{bus_off}
use Rattle.bus_state.specs.Memory.{Memory, node_state, operation_at, lent_well}
use Rattle.bus_state.specs.Valid.{valid_slot, valid_slots, non_zero, valid_entry, valid_node, valid_nodes, valid_state}
use Rattle.bus_state.specs.Validity.{PendingAt, frame_slot, ValidMemory, ValidityTested}
use Rattle.bus_state.specs.declared.State.{State}
use Rattle.bus_state.specs.declared.NodeState.{NodeState}

-- ---- slots

pub record SlotIs (j low now : ℕ) (s : Slot) : Type 0 where
  pub lawful : legal_content (content_of s) ≡ true
  pub owner : s.owner ≡ j
  pub least : low ≤ s.accepted
  pub most : s.accepted ≤ now

pub slot_is : (j low now : ℕ) (s : Slot) → valid_slot j low now s ≡ true → SlotIs j low now s
unfolding valid_slot
slot_is j low now s e =
    let a = both _ _ e in
    let b = both _ _ a.0 in
    let c = both _ _ b.0 in
    record {
      lawful = c.0;
      owner = eqb-true s.owner j c.1;
      least = leb-true low s.accepted b.1;
      most = leb-true s.accepted now a.1;
    }

pub is_slot : (j low now : ℕ) (s : Slot) → SlotIs j low now s → valid_slot j low now s ≡ true
unfolding valid_slot
is_slot j low now s v =
    rw (v.lawful, eq-eqb s.owner j v.owner, le-leb low s.accepted v.least, le-leb s.accepted now v.most)

-- n slots from slot p on: each of them, and each against every later one
module _ (slots : List Slot) (j now : ℕ) where
  abbrev at : ℕ → Slot
  at p = get_or slots p free_slot

  pub slots_at : (n p low : ℕ) → valid_slots n p j low now slots ≡ true → (i : ℕ) → i < n → SlotIs j low now (at (p + i))
  unfolding valid_slots
  slots_at zero p low e i h = absurd (omega arith)
  slots_at (suc n) p low e zero h = rw add-zero (slot_is j low now (at p) (both _ _ e).0)
  slots_at (suc n) p low e (suc i) h =
      let q : suc p + i ≡ p + suc i = omega arith in
      let a = both (valid_slot j low now (at p)) _ e in
      let l = (slot_is j low now (at p) a.0).least in
      let s = rw q at (slots_at n (suc p) (at p).accepted a.1 i (omega arith)) in
      record { lawful = s.lawful; owner = s.owner; least = omega (arith, l, s.least); most = s.most }

  slots-order : (n p low : ℕ) → valid_slots n p j low now slots ≡ true → (i k : ℕ) → i < k → k < n
      → (at (p + i)).accepted ≤ (at (p + k)).accepted
  unfolding valid_slots
  slots-order zero p low e i k h l = absurd (omega arith)
  slots-order (suc n) p low e i zero h l = absurd (omega arith)
  slots-order (suc n) p low e zero (suc k) h l =
      let q : suc p + k ≡ p + suc k = omega arith in
      let a = both (valid_slot j low now (at p)) _ e in
      rw (add-zero, sym q) (slots_at n (suc p) (at p).accepted a.1 k (omega arith)).least
  slots-order (suc n) p low e (suc i) (suc k) h l =
      let q : suc p + i ≡ p + suc i = omega arith in
      let r : suc p + k ≡ p + suc k = omega arith in
      let a = both (valid_slot j low now (at p)) _ e in
      rw (q, r) at (slots-order n (suc p) (at p).accepted a.1 i k (omega arith) (omega arith))

  at_slots : (n p low : ℕ) → ((i : ℕ) → i < n → SlotIs j low now (at (p + i)))
      → ((i k : ℕ) → i < k → k < n → (at (p + i)).accepted ≤ (at (p + k)).accepted) → valid_slots n p j low now slots ≡ true
  unfolding valid_slots
  at_slots zero p low f g = refl
  at_slots (suc n) p low f g =
      let a : valid_slot j low now (at p) ≡ true = is_slot j low now (at p) (rw add-zero at (f 0 (omega arith))) in
      rw (a, at_slots n (suc p) (at p).accepted each later)
    where
      next : (i : ℕ) → p + suc i ≡ suc p + i
      next i = omega arith

      each : (i : ℕ) → i < n → SlotIs j (at p).accepted now (at (suc p + i))
      each i h =
          let s = rw (next i) at (f (suc i) (omega arith)) in
          let o = rw (add-zero, next i) at (g 0 (suc i) (omega arith) (omega arith)) in
          record { lawful = s.lawful; owner = s.owner; least = o; most = s.most }

      later : (i k : ℕ) → i < k → k < n → (at (suc p + i)).accepted ≤ (at (suc p + k)).accepted
      later i k h l = rw (next i, next k) at (g (suc i) (suc k) (omega arith) (omega arith))

-- ---- entries

non_zero_at : (l : List ℕ) → non_zero l ≡ true → (i : ℕ) → i < length l → 1 ≤ get_or l i 0
unfolding non_zero
non_zero_at [] e i h = absurd (omega arith)
non_zero_at (x ∷ l) e zero h = leb-true 1 x (both (leb 1 x) (non_zero l) e).0
non_zero_at (x ∷ l) e (suc i) h = non_zero_at l (both (leb 1 x) (non_zero l) e).1 i (omega arith)

at_non_zero : (l : List ℕ) → ((i : ℕ) → i < length l → 1 ≤ get_or l i 0) → non_zero l ≡ true
unfolding non_zero
at_non_zero [] f = refl
at_non_zero (x ∷ l) f = rw (le-leb 1 x (f 0 (omega arith))) (at_non_zero l (λ i h. f (suc i) (omega arith)))

pub record EntryIs (d : NodeState) : Type 0 where
  pub status : one_of d.status statuses ≡ true
  pub behaviour : one_of d.behaviour behaviours ≡ true
  pub rates : non_zero d.rates ≡ true
  pub fill : d.fill ≤ 4_096
  pub few : d.pending ≤ 4
  pub silent : eqb d.status bus_off ≡ true → d.pending ≡ 0

entry_is : (d : NodeState) → valid_entry d ≡ true → EntryIs d
unfolding valid_entry
entry_is d e =
    let a = both _ (not (eqb d.status bus_off) || eqb d.pending 0) e in
    let b = both _ (leb d.pending 4) a.0 in
    let c = both _ (leb d.fill 4_096) b.0 in
    let f = both _ (non_zero d.rates) c.0 in
    let g = both _ (one_of d.behaviour behaviours) f.0 in
    record {
      status = g.0;
      behaviour = g.1;
      rates = f.1;
      fill = leb-true d.fill 4_096 c.1;
      few = leb-true d.pending 4 b.1;
      silent = λ q. quiet (eqb d.status bus_off) a.1 q;
    }
  where
    quiet : (t : Bool) → (not t || eqb d.pending 0) ≡ true → t ≡ true → d.pending ≡ 0
    quiet true e q = eqb-true d.pending 0 e
    quiet false e q = false_is_true q

is_entry : (d : NodeState) → EntryIs d → valid_entry d ≡ true
unfolding valid_entry
is_entry d v =
    rw (v.status, v.behaviour, v.rates, le-leb d.fill 4_096 v.fill, le-leb d.pending 4 v.few)
    (quiet (eqb d.status bus_off) v.silent)
  where
    quiet : (t : Bool) → (t ≡ true → d.pending ≡ 0) → (not t || eqb d.pending 0) ≡ true
    quiet true f = eq-eqb d.pending 0 (f refl)
    quiet false f = refl

-- ---- nodes

module _ (s : State) (a : List Slot) where
  -- what the test says of one node
  pub record NodeIs (j : ℕ) : Type 0 where
    pub entry : EntryIs (node_state s j)
    pub slots : valid_slots (node_state s j).pending (4 * j) j 0 s.round a ≡ true

  node_is : (j : ℕ) → valid_node s.round j (node_state s j) a ≡ true → NodeIs j
  unfolding valid_node
  node_is j e = let b = both (valid_entry (node_state s j)) _ e in record { entry = entry_is (node_state s j) b.0; slots = b.1 }

  is_node : (j : ℕ) → NodeIs j → valid_node s.round j (node_state s j) a ≡ true
  unfolding valid_node
  is_node j v = rw (is_entry (node_state s j) v.entry) v.slots

  nodes_at : (n j : ℕ) → valid_nodes n j s a ≡ true → (i : ℕ) → i < n → NodeIs (j + i)
  unfolding valid_nodes
  nodes_at zero j e i h = absurd (omega arith)
  nodes_at (suc n) j e zero h = rw add-zero (node_is j (both (valid_node s.round j (node_state s j) a) _ e).0)
  nodes_at (suc n) j e (suc i) h =
      let q : suc j + i ≡ j + suc i = omega arith in
      let b = both (valid_node s.round j (node_state s j) a) _ e in
      rw q at (nodes_at n (suc j) b.1 i (omega arith))

  at_nodes : (n j : ℕ) → ((i : ℕ) → i < n → NodeIs (j + i)) → valid_nodes n j s a ≡ true
  unfolding valid_nodes
  at_nodes zero j f = refl
  at_nodes (suc n) j f =
      rw (is_node j (rw add-zero at (f 0 (omega arith))), at_nodes n (suc j) (λ i h. next i (f (suc i) (omega arith))))
    where
      next : (i : ℕ) → NodeIs (j + suc i) → NodeIs (suc j + i)
      next i v = let q : j + suc i ≡ suc j + i = omega arith in rw q at v

  -- ---- the whole

  -- what the test says of the count and of each attached node, and that this is all
  pub valid-count : valid_state s a ≡ true → (2 ≤ s.count) × (s.count ≤ 8)
  unfolding valid_state
  valid-count e =
      let b = both _ (valid_nodes s.count 0 s a) e in
      let c = both (leb 2 s.count) (leb s.count 8) b.0 in
      (leb-true 2 s.count c.0, leb-true s.count 8 c.1)

  pub valid_node_at : valid_state s a ≡ true → (j : ℕ) → j < s.count → NodeIs j
  unfolding valid_state
  valid_node_at e j h =
      let b = both (leb 2 s.count && leb s.count 8) (valid_nodes s.count 0 s a) e in
      rw zero-add at (nodes_at s.count 0 b.1 j h)

  pub nodes-valid : 2 ≤ s.count → s.count ≤ 8 → ((j : ℕ) → j < s.count → NodeIs j) → valid_state s a ≡ true
  unfolding valid_state
  nodes-valid least most f =
      rw (le-leb 2 s.count least, le-leb s.count 8 most) (at_nodes s.count 0 (λ i h. rw zero-add (f i h)))

-- ---- the test and the clauses

tested-valid : (m : Memory) → lent_well m ≡ true → valid_state m.state m.slots ≡ true → ValidMemory m
unfolding lent_well
tested-valid m w e =
    let a = both (eqb (length m.slots) 32 && eqb (length m.payload) 65_536) (eqb (length m.queues) 32_768) w in
    let b = both (eqb (length m.slots) 32) (eqb (length m.payload) 65_536) a.0 in
    let most = (valid-count m.state m.slots e).1 in
    record {
      least = (valid-count m.state m.slots e).0;
      most = most;
      status = λ j h. (node j h).entry.status;
      behaviour = λ j h. (node j h).entry.behaviour;
      rates = λ j i h. non_zero_at (node_state m.state j).rates (node j h).entry.rates i;
      fill = λ j h. (node j h).entry.fill;
      owner = λ j q h. (frame j q h).owner;
      content = λ j q h. (frame j q h).lawful;
      accepted = λ j q h. (frame j q h).most;
      few = λ j h. (node j h).entry.few;
      silent = λ j h o. (node j h).entry.silent (eq-eqb (node_state m.state j).status bus_off o);
      slot_lent = λ j q h. omega (arith, h.0, most, below j q h, eqb-true (length m.slots) 32 b.0);
      data_lent = λ j q h.
          omega (arith, h.0, most, below j q h, short j q h, eqb-true (length m.payload) 65_536 b.1);
      own_slot = λ j q i p h k o. apart j q i p (below j q h) (below i p k) o;
      own_bytes = λ j q i p x h k o u.
          apart j q i p (below j q h) (below i p k) (omega (arith, o.0, o.1, u.0, u.1, short j q h, short i p k));
      order = λ j q p h l.
          slots-order m.slots j m.state.round (node_state m.state j).pending (4 * j) 0 (node j h.0).slots q p l h.1;
    }
  where
    node : (j : ℕ) → j < m.state.count → NodeIs m.state m.slots j
    node = valid_node_at m.state m.slots e

    frame : (j q : ℕ) → PendingAt m j q → SlotIs j 0 m.state.round (frame_slot m j q)
    frame j q h =
        slots_at m.slots j m.state.round (node_state m.state j).pending (4 * j) 0 (node j h.0).slots q h.1

    short : (j q : ℕ) → PendingAt m j q → data_length (operation_at m (4 * j + q)) ≤ 2_048
    short j q h =
        let t = held-transmit (frame_slot m j q) (frame j q h).lawful in
        transmit-short (operation_at m (4 * j + q)) t.0 t.1

    below : (j q : ℕ) → PendingAt m j q → q < 4
    below j q h = omega (arith, h.1, (node j h.0).entry.few)

    -- positions below 4 in two nodes' slots
    apart : (j q i p : ℕ) → q < 4 → p < 4 → 4 * j + q ≡ 4 * i + p → (j ≡ i) × (q ≡ p)
    apart j q i p h k o = (omega arith, omega arith)

valid-tested : (m : Memory) → ValidMemory m → valid_state m.state m.slots ≡ true
valid-tested m v = nodes-valid m.state m.slots v.least v.most (λ j h. record {
  entry = record {
    status = v.status j h;
    behaviour = v.behaviour j h;
    rates = at_non_zero (node_state m.state j).rates (λ i. v.rates j i h);
    fill = v.fill j h;
    few = v.few j h;
    silent = λ q. v.silent j h (eqb-true (node_state m.state j).status bus_off q);
  };
  slots =
      at_slots m.slots j m.state.round (node_state m.state j).pending (4 * j) 0
      (λ q l. record {
        lawful = v.content j q (h, l);
        owner = v.owner j q (h, l);
        least = omega arith;
        most = v.accepted j q (h, l);
      })
      (λ q p l k. v.order j q p (h, k) l);
})

pub validity_tested : ValidityTested
validity_tested m w = (tested-valid m w, valid-tested m)
