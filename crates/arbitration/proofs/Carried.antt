-- The memory after a round, part by part: the entries and the queues node by node, the slots and the payload without the winner.
-- The model removes the winner at its owner's turn; what a node is owed is the same before and after other nodes' turns.
-- Assumes nothing.
use mathlib.Core.Path.{◌≡◌, refl, sym, ap, ◌∙◌}
use mathlib.Core.Bool.{Bool, true, false, cond}
use mathlib.Core.List.{List, map}
use Rattle.std.specs.Prelude.{Option}
use Prim.Native.Nat.{ℕ, zero, suc, ◌+◌, ◌-◌, ◌*◌, ◌≤◌, ◌<◌}
use native.Mathlib.Omega.{arith}
use native.Mathlib.Nat.{sub-zero}
use lib.Dec.{eqb}
use lib.ListN.{length}
use lib.Seq.{set-get_or, set-set}
use borrow.Author.Tests.{eqb-true, eqb-false, ne_eqb}
use Rattle.operation.specs.Format.{length_of}
use Rattle.operation.specs.declared.Operation.{Operation}
use Rattle.buffers.specs.Parts.{over}
use Rattle.slots.specs.Blocks.{set_block, block_at}
use Rattle.slots.specs.declared.Slot.{Slot}
use Rattle.plain_bus.specs.Order.{Entry}
use Rattle.plain_bus.specs.Round.{owed}
use Rattle.plain_bus.specs.Round as plain
use Rattle.bus_state.specs.Memory.{Memory, no_node, node_state, held, data_at_slot, node_view}
use Rattle.bus_state.specs.Entries.{with_entry, entry_fill, entry_pending}
use Rattle.bus_state.specs.Valid.{valid_state}
use Rattle.bus_state.specs.declared.State.{State}
use Rattle.bus_state.specs.declared.NodeState.{NodeState}
use Rattle.bus_model.specs.Primitives.{entry_at, set_entry, set_round, append, drop_frames, move_down, remove_frame, in_turn}
use Rattle.bus_model.specs.Round.{pending_at, without_winner, owed_at, without_losers, settle_at, after_round_in}
use Rattle.bus_model.specs.Refines.{Sized}
use Rattle.bus_model.proofs.Writes.{Same, same_refl, same_trans, entry-own}
use Rattle.bus_model.proofs.Views.{Fits, same-fits, same_view}
use Rattle.bus_model.proofs.Touched.{Touched, same-tidy}
use Rattle.bus_model.proofs.Settle.{owed-view, settle_touched}
use Rattle.arbitration.specs.declared.Injection.{Injection}
use Rattle.arbitration.specs.Injections.{injection_of}
use Rattle.scan.specs.Winner.{held_at}
use Rattle.arbitration.specs.Owed.{PendingAt, discards, own, stay_count, owed_to, room_from}
use Rattle.arbitration.specs.After.{entry_after, entries_after, state_after, queues_after, block_without, payload_without}
use Rattle.arbitration.proofs.Attached.{node_at_lem}
use Rattle.arbitration.proofs.Laid.{block-slot}
use Rattle.arbitration.proofs.Rooms.{room_at}
use Rattle.arbitration.proofs.Removed.{slots_down, payload_down, down_is, payload_down_lem, slots_down_lem}
use Rattle.arbitration.proofs.Agrees.{number-few, node_fits, node_tidy, node_placed, owed_is, owed-size}

-- ---- an entry that is set again, or to what it is

entry_again : (x : Memory) (j : ℕ) (d d' : NodeState) → set_entry (set_entry x j d) j d' ≡ set_entry x j d'
unfolding set_entry
entry_again x j d d' = rw (set-set x.state.nodes j d d')

entry-same : (x : Memory) (j : ℕ) → x ≡ set_entry x j (entry_at x j)
unfolding set_entry
entry-same x j = rw (set-get_or x.state.nodes j no_node)

-- ---- one node's turn

-- the memory without the winner, but for the owner's entry
abbrev lowered : Memory → ℕ → ℕ → Bool → Memory
lowered x j q mine = cond mine (move_down x (4 * j + q) ((entry_at x j).pending - 1 - q)) x

winner_step : (w : Entry) (x : Memory) (j : ℕ)
    → without_winner w x j
    ≡ set_entry (lowered x j w.position (eqb j w.owner)) j
    (entry_pending (entry_at x j) ((entry_at x j).pending - own (eqb j w.owner)))
unfolding without_winner remove_frame
winner_step w x j = go (eqb j w.owner)
  where
    go : (t : Bool)
        → cond t (remove_frame x j w.position) x
        ≡ set_entry (lowered x j w.position t) j (entry_pending (entry_at x j) ((entry_at x j).pending - own t))
    go true = refl
    go false = rw (sub-zero (entry_at x j).pending) (entry-same x j)

losers_step : (z : Memory) (j : ℕ) (d : NodeState) → j < length z.state.nodes
    → without_losers (set_entry z j d) j ≡ set_entry z j (cond (discards d) (entry_pending d 0) d)
unfolding without_losers drop_frames
losers_step z j d h = rw (entry-own z j d h) (go (discards d))
  where
    go : (t : Bool) → cond t (set_entry (set_entry z j d) j (entry_pending d 0)) (set_entry z j d) ≡ set_entry z j (cond t (entry_pending d 0) d)
    go true = entry_again z j d (entry_pending d 0)
    go false = refl

append_step : (z : Memory) (j : ℕ) (d : NodeState) (bytes : List ℕ) → j < length z.state.nodes
    → append (set_entry z j d) j bytes
    ≡ held (with_entry z.state j (entry_fill d (d.fill + length bytes))) z.slots z.payload
    (over z.queues (4_096 * j + d.fill) bytes)
unfolding append set_entry
append_step z j d bytes h =
    rw (entry-own z j d h, set-set z.state.nodes j d (entry_fill d (d.fill + length bytes)))

-- the node's entry at the end of its turn
last_entry : (t mine : Bool) (d : NodeState) (n : ℕ)
    → let x : NodeState = entry_pending d (d.pending - own mine) in
    let y : NodeState = cond t (entry_pending x 0) x in
    (y.fill ≡ d.fill) × (entry_fill y (y.fill + n) ≡ entry_pending (entry_fill d (d.fill + n)) (cond t 0 (d.pending - own mine)))
last_entry true mine d n = (refl, refl)
last_entry false mine d n = (refl, refl)

-- what moves where the winner is the node's own
lowered_is : (x : Memory) (j q : ℕ) (mine : Bool)
    → lowered x j q mine
    ≡ held x.state (cond mine (slots_down x.slots (4 * j + q) ((entry_at x j).pending - 1 - q)) x.slots)
    (cond mine (payload_down x.slots x.payload (4 * j + q) ((entry_at x j).pending - 1 - q)) x.payload) x.queues
lowered_is x j q true = down_is ((entry_at x j).pending - 1 - q) x (4 * j + q)
lowered_is x j q false = refl

settle_step : (e : plain.Injection) (w : Entry) (x : Memory) (j : ℕ) → j < length x.state.nodes
    → let mine : Bool = eqb j w.owner in
    let d : NodeState = entry_at x j in
    let bytes : List ℕ = owed_at e w x j in
    settle_at e w x j
    ≡ held
    (with_entry x.state j (entry_pending (entry_fill d (d.fill + length bytes)) (stay_count d mine)))
    (cond mine (slots_down x.slots (4 * j + w.position) (d.pending - 1 - w.position)) x.slots)
    (cond mine (payload_down x.slots x.payload (4 * j + w.position) (d.pending - 1 - w.position)) x.payload)
    (over x.queues (4_096 * j + d.fill) bytes)
unfolding settle_at
settle_step e w x j h =
    let mine = eqb j w.owner in
    let d = entry_at x j in
    let d₁ = entry_pending d (d.pending - own mine) in
    let d₂ : NodeState = cond (discards d) (entry_pending d₁ 0) d₁ in
    let z = lowered x j w.position mine in
    let k = lowered_is x j w.position mine in
    let l : j < length z.state.nodes = rw k h in
    let bytes = owed_at e w x j in
    let g = last_entry (discards d) mine d (length bytes) in
    ap (λ (y : Memory). append (without_losers y j) j bytes) (winner_step w x j)
    ∙ ap (λ (y : Memory). append y j bytes) (losers_step z j d₁ l)
    ∙ append_step z j d₂ bytes l
    ∙ rw (g.1, g.0, k)

-- ---- all turns

module _ (s : State) (a : List Slot) (payload queues : List ℕ) (e : Option Injection) (owner position : ℕ)
    (sized : Sized (held s a payload queues)) (v : valid_state s a ≡ true) (w : PendingAt s owner position)
    (ids : List ℕ) (named : ids ≡ map (λ (x : Slot). x.id) a)
    (room : room_from e s.nodes owner (length_of (held_at a (4 * owner + position))) 0 s.count ≡ true) where
  abbrev m : Memory
  m = held s a payload queues

  abbrev op : Operation
  op = held_at a (4 * owner + position)

  abbrev size : ℕ
  size = length_of op

  abbrev bytes : List ℕ
  bytes = data_at_slot m (4 * owner + position)

  abbrev winner : Entry
  winner = pending_at m owner position

  abbrev turn : Memory → ℕ → Memory
  turn = settle_at (injection_of e) winner

  -- the slots and the payload without the winner
  abbrev slots : List Slot
  slots = slots_down a (4 * owner + position) ((node_state s owner).pending - 1 - position)

  abbrev rest : List ℕ
  rest = payload_down a payload (4 * owner + position) ((node_state s owner).pending - 1 - position)

  -- before node j's turn, node j and the later ones are as they were
  record Before (j : ℕ) (x : Memory) : Type 0 where
    lengths : Sized x
    same : (i : ℕ) → j ≤ i → Same m x i
    early : j ≤ owner → (x.slots ≡ a) × (x.payload ≡ payload)
    late : owner < j → (x.slots ≡ slots) × (x.payload ≡ rest)

  module _ (j : ℕ) (h : j < s.count) (x : Memory) (b : Before j x) where
    at-fits : Fits m j
    at-fits = node_fits s a payload queues e owner position sized v w ids named j h

    at-placed : eqb j owner ≡ true → position < (entry_at x j).pending
    at-placed q = rw (b.same j (omega arith)).entry (node_placed s a payload queues e owner position sized v w ids named j q)

    at_owed : owed_at (injection_of e) winner x j ≡ owed_to e (node_state s j) j owner position op ids bytes
    at_owed =
        let q = b.same j (omega arith) in
        owed-view x b.lengths j (number-few s a payload queues e owner position sized v w ids named j h) (same-fits q at-fits)
        (same-tidy q at-fits (node_tidy s a payload queues e owner position sized v w ids named j h)) winner at-placed (injection_of e)
        ∙ ap (owed (injection_of e) winner j) (same_view q at-fits)
        ∙ owed_is s a payload queues e owner position sized v w ids named j h

    at_room : (entry_at x j).fill + length (owed (injection_of e) winner j (node_view x j)) ≤ 4_096
    at_room =
        let q = b.same j (omega arith) in
        let k = owed_is s a payload queues e owner position sized v w ids named j h in
        let n = owed-size s a payload queues e owner position sized v w ids named j h in
        rw (q.entry, same_view q at-fits, k, n) (room_at e s.nodes owner size s.count room j h)

    at_turn : turn x j
        ≡ held (with_entry x.state j (entry_after e (node_state s j) (eqb j owner) size))
        (cond (eqb j owner) (slots_down x.slots (4 * j + position) ((node_state s j).pending - 1 - position)) x.slots)
        (cond (eqb j owner) (payload_down x.slots x.payload (4 * j + position) ((node_state s j).pending - 1 - position)) x.payload)
        (over x.queues (4_096 * j + (node_state s j).fill) (owed_to e (node_state s j) j owner position op ids bytes))
    unfolding entry_after
    at_turn =
        let q = b.same j (omega arith) in
        let l : j < length x.state.nodes = omega (arith, b.lengths.nodes, number-few s a payload queues e owner position sized v w ids named j h) in
        let n = owed-size s a payload queues e owner position sized v w ids named j h in
        settle_step (injection_of e) winner x j l ∙ rw (at_owed, n, q.entry)

    -- its turn touches no other node
    at-touched : Touched x (turn x j) j (plain.settle (injection_of e) winner j (node_view x j))
    at-touched =
        let q = b.same j (omega arith) in
        settle_touched x b.lengths j (number-few s a payload queues e owner position sized v w ids named j h) (same-fits q at-fits)
        (same-tidy q at-fits (node_tidy s a payload queues e owner position sized v w ids named j h)) winner at-placed (injection_of e) at_room

    next : Before (suc j) (turn x j)
    next = record {
      lengths = at-touched.sized;
      same = λ i l. same_trans (b.same i (omega arith)) (at-touched.others i (λ q. omega arith));
      early = λ l.
          let o : eqb j owner ≡ false = ne_eqb j owner (λ q. omega arith) in
          let t = b.early (omega arith) in
          rw (at_turn, o) t;
      late = λ l. after (eqb j owner) refl l;
    }
      where
        after : (t : Bool) → eqb j owner ≡ t → owner < suc j → ((turn x j).slots ≡ slots) × ((turn x j).payload ≡ rest)
        after true q l =
            let o = eqb-true j owner q in
            let t = b.early (omega arith) in
            rw (at_turn, q, t.0, t.1, o) (refl, refl)
        after false q l =
            let o = eqb-false j owner q in
            rw (at_turn, q) (b.late (omega arith))

  turns : (n j : ℕ) (x : Memory) → j + n ≡ s.count → Before j x
      → in_turn turn j n x
      ≡ held
      (record {
        count = x.state.count;
        round = x.state.round;
        nodes = entries_after e s.nodes owner size j n x.state.nodes;
      })
      slots rest (queues_after e s.nodes owner position op ids bytes j n x.queues)
  unfolding in_turn entries_after queues_after
  turns zero j x q b = let t = b.late (omega (arith, w.0)) in rw (t.0, t.1)
  turns (suc n) j x q b =
      let h : j < s.count = omega arith in
      turns n (suc j) (turn x j) (omega arith) (next j h x b) ∙ rw (at_turn j h x b)

  -- the memory after the round
  pub after_is : after_round_in (injection_of e) winner m
      ≡ held (state_after e s owner size) (set_block a (4 * owner) (block_without (block_at a (4 * owner)) position ((node_state s owner).pending - 1)))
      (payload_without (block_at a (4 * owner)) (4 * owner) position ((node_state s owner).pending - 1 - position) payload)
      (queues_after e s.nodes owner position op ids bytes 0 s.count queues)
  unfolding after_round_in set_round state_after
  after_is =
      let o = number-few s a payload queues e owner position sized v w ids named owner w.0 in
      let few = (node_at_lem s a v owner w.0).few in
      let k = slots_down_lem a (4 * owner) position ((node_state s owner).pending - 1) (omega (arith, sized.slots)) (omega (arith, w.1)) (omega (arith, few, w.1)) in
      let p = payload_down_lem (block_at a (4 * owner)) (4 * owner) ((node_state s owner).pending - 1 - position) a payload position (λ i l u. sym (block-slot a (4 * owner) i u)) (omega (arith, few, w.1)) in
      ap (λ (x : Memory). set_round x (s.round + 1)) (turns s.count 0 m (omega arith) start)
      ∙ rw (k, p)
    where
      start : Before 0 m
      start = record {
        lengths = sized;
        same = λ i l. same_refl m i;
        early = λ l. (refl, refl);
        late = λ l. absurd (omega arith);
      }
