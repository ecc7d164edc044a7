-- What a node is owed by its entry and the slots is what the plain bus owes the view of it.
-- Assumes nothing.
use mathlib.Core.Path.{◌≡◌, refl, ◌∙◌}
use mathlib.Core.Bool.{Bool, true, false, cond}
use mathlib.Core.List.{List, [], map}
use Rattle.std.specs.Prelude.{Option, None, Some}
use Prim.Native.Nat.{ℕ, zero, suc, ◌+◌, ◌*◌, ◌≤◌, ◌<◌}
use native.Mathlib.Nat.{add-zero}
use native.Mathlib.Omega.{arith}
use lib.Dec.{eqb}
use lib.ListN.{length, get_or}
use borrow.Author.Tests.{eqb-true, eqb-false, eq-eqb, ne_eqb}
use Rattle.operation.specs.Format.{data_length, length_of}
use Rattle.operation.specs.Kinds.{id_of}
use Rattle.operation.specs.declared.Operation.{Operation}
use Rattle.slots.specs.declared.Slot.{Slot}
use Rattle.plain_bus.specs.Held as plain
use Rattle.plain_bus.specs.Round.{news_for, without, lost_notices, told, owed}
use Rattle.plain_bus.specs.Round as plainRound
use Rattle.buffers.proofs.Offsets.{length_part}
use Rattle.bus_state.specs.Memory.{Memory, node_state, held, data_at_slot, frame_at, frames_from, node_view, is_off}
use Rattle.bus_state.specs.Valid.{valid_state}
use Rattle.bus_state.specs.declared.State.{State}
use Rattle.bus_model.specs.Primitives.{entry_at}
use Rattle.bus_model.specs.Submit.{room_for_each}
use Rattle.bus_model.specs.Round.{pending_at, owed_at}
use Rattle.bus_model.specs.Refines.{Sized}
use Rattle.bus_model.proofs.Views.{Fits}
use Rattle.bus_model.proofs.Touched.{Tidy}
use Rattle.bus_model.proofs.Settle.{owed-view}
use Rattle.arbitration.specs.declared.Injection.{Injection}
use Rattle.arbitration.specs.Injections.{injection_of}
use Rattle.scan.specs.Winner.{held_at}
use Rattle.arbitration.specs.Owed.{PendingAt, discards, discarded, news_to, notices_but, owed_to, owed_length, room_from}
use Rattle.arbitration.proofs.Attached.{count-few, node_at_lem}
use Rattle.arbitration.proofs.Given.{id_at, tellable}
use Rattle.arbitration.proofs.Lengths.{owed_length_is}

-- ---- the notices

-- the IDs of the frames after the first
next : (m : Memory) (ids : List ℕ) (n p : ℕ) → ((i : ℕ) → i < suc n → get_or ids (p + i) 0 ≡ id_of (held_at m.slots (p + i)))
    → (i : ℕ) → i < n → get_or ids (suc p + i) 0 ≡ id_of (held_at m.slots (suc p + i))
next m ids n p named i h =
    let k : p + suc i ≡ suc p + i = omega arith in
    rw k at (named (suc i) (omega arith))

notices_others : (m : Memory) (ids : List ℕ) (winner n p : ℕ) → ((i : ℕ) → i < n → get_or ids (p + i) 0 ≡ id_of (held_at m.slots (p + i)))
    → ((i : ℕ) → i < n → p + i ≡ winner → ⊥) → lost_notices (frames_from m p n) ≡ notices_but ids winner p n
unfolding notices_but frames_from frame_at lost_notices
notices_others m ids winner zero p named o = refl
notices_others m ids winner (suc n) p named o =
    let x : eqb p winner ≡ false = ne_eqb p winner (λ e. o 0 (omega arith) (omega arith)) in
    rw (
      x,
      rw add-zero at (named 0 (omega arith)),
      notices_others m ids winner n (suc p) (next m ids n p named) (λ i h e. o (suc i) (omega arith) (omega arith)),
    )

notices_without : (m : Memory) (ids : List ℕ) (q n p : ℕ) → ((i : ℕ) → i < n → get_or ids (p + i) 0 ≡ id_of (held_at m.slots (p + i)))
    → q < n → lost_notices (without q (frames_from m p n)) ≡ notices_but ids (p + q) p n
unfolding notices_but frames_from frame_at lost_notices without
notices_without m ids q zero p named h = absurd (omega arith)
notices_without m ids zero (suc n) p named h =
    let x : eqb p (p + 0) ≡ true = eq-eqb p (p + 0) (omega arith) in
    rw x (notices_others m ids (p + 0) n (suc p) (next m ids n p named) (λ i h e. omega arith))
notices_without m ids (suc q) (suc n) p named h =
    let x : eqb p (p + suc q) ≡ false = ne_eqb p (p + suc q) (λ e. omega arith) in
    let s : suc p + q ≡ p + suc q = omega arith in
    let r = rw s at (notices_without m ids q n (suc p) (next m ids n p named) (omega arith)) in
    rw (x, rw add-zero at (named 0 (omega arith)), r)

notices_view : (m : Memory) (ids : List ℕ) (j owner position : ℕ) → position < 4 → (entry_at m j).pending ≤ 4
    → (j ≡ owner → position < (entry_at m j).pending)
    → ((q : ℕ) → q < (entry_at m j).pending → get_or ids (4 * j + q) 0 ≡ id_of (held_at m.slots (4 * j + q)))
    → lost_notices (told (pending_at m owner position) j (node_view m j))
    ≡ notices_but ids (4 * owner + position) (4 * j) (discarded (entry_at m j))
unfolding told plainRound.losers node_view notices_but lost_notices
notices_view m ids j owner position h few o named = go (discards (entry_at m j)) (eqb j owner) refl
  where
    frames : List plain.Frame
    frames = frames_from m (4 * j) (entry_at m j).pending

    go : (t u : Bool) → eqb j owner ≡ u
        → lost_notices (cond t (cond u (without position frames) frames) [])
        ≡ notices_but ids (4 * owner + position) (4 * j) (cond t (entry_at m j).pending 0)
    go false u q = refl
    go true true q =
        let e = eqb-true j owner q in
        rw (← e) (notices_without m ids position (entry_at m j).pending (4 * j) named (o e))
    go true false q =
        let n = eqb-false j owner q in
        notices_others m ids (4 * owner + position) (entry_at m j).pending (4 * j) named (λ i l e. n (omega arith))

-- ---- the news

news_view : (e : Option Injection) (m : Memory) (j owner position : ℕ)
    → news_for (injection_of e) (pending_at m owner position) j (node_view m j)
    ≡ news_to e j owner (is_off (entry_at m j)) (held_at m.slots (4 * owner + position)) (data_at_slot m (4 * owner + position))
unfolding news_for news_to node_view frame_at
news_view None m j owner position = refl
news_view (Some i) m j owner position = refl

-- ---- all of it, where the state is valid and the winner is pending

module _ (s : State) (a : List Slot) (payload queues : List ℕ) (e : Option Injection) (owner position : ℕ)
    (sized : Sized (held s a payload queues)) (v : valid_state s a ≡ true) (w : PendingAt s owner position)
    (ids : List ℕ) (named : ids ≡ map (λ (x : Slot). x.id) a) where
  abbrev m : Memory
  m = held s a payload queues

  abbrev op : Operation
  op = held_at a (4 * owner + position)

  abbrev size : ℕ
  size = length_of op

  low : position < 4
  low = omega (arith, (node_at_lem s a v owner w.0).few, w.1)

  own-low : (j : ℕ) → j ≡ owner → position < (node_state s j).pending
  own-low j q = rw q w.1

  pub number-few : (j : ℕ) → j < s.count → j < 8
  number-few j h = omega (arith, count-few s a v)

  pub node_fits : (j : ℕ) → j < s.count → Fits m j
  node_fits j h =
      let n = node_at_lem s a v j h in
      record { few = n.few; fill = n.fill; short = λ q l. (n.frames q l).short }

  pub node_tidy : (j : ℕ) → j < s.count → Tidy m j
  node_tidy j h = let n = node_at_lem s a v j h in record { fill = n.fill; owned = n.owned }

  pub node_placed : (j : ℕ) → eqb j owner ≡ true → position < (entry_at m j).pending
  node_placed j q = own-low j (eqb-true j owner q)

  pub owed_is : (j : ℕ) → j < s.count
      → owed (injection_of e) (pending_at m owner position) j (node_view m j)
      ≡ owed_to e (node_state s j) j owner position op ids (data_at_slot m (4 * owner + position))
  unfolding owed owed_to
  owed_is j h =
      rw (news_view e m j owner position, notices_view m ids j owner position low (node_at_lem s a v j h).few (own-low j) (id_at s a v ids named j h))

  data_whole : length (data_at_slot m (4 * owner + position)) ≡ data_length (held_at a (4 * owner + position))
  data_whole =
      let o = number-few owner w.0 in
      let f = (node_at_lem s a v owner w.0).frames position w.1 in
      length_part (2_048 * (4 * owner + position)) (data_length (held_at a (4 * owner + position))) payload
      (omega (arith, sized.payload, f.short, low))

  pub owed-size : (j : ℕ) → j < s.count
      → length (owed_to e (node_state s j) j owner position op ids (data_at_slot m (4 * owner + position)))
      ≡ owed_length e (node_state s j) (eqb j owner) size
  owed-size =
      owed_length_is e op (data_at_slot m (4 * owner + position)) size (tellable s a v ids named) w data_whole refl

  -- in the model's words
  owed_at_lem : (j : ℕ) → j < s.count
      → owed_at (injection_of e) (pending_at m owner position) m j
      ≡ owed_to e (node_state s j) j owner position op ids (data_at_slot m (4 * owner + position))
  owed_at_lem j h =
      owed-view m sized j (number-few j h) (node_fits j h) (node_tidy j h) (pending_at m owner position) (node_placed j) (injection_of e)
      ∙ owed_is j h

  room_from_lem : (n j : ℕ) → j + n ≤ s.count
      → room_for_each (owed_at (injection_of e) (pending_at m owner position) m) m j n ≡ room_from e s.nodes owner size j n
  unfolding room_for_each room_from
  room_from_lem zero j h = refl
  room_from_lem (suc n) j h =
      let l : j < s.count = omega arith in
      rw (owed_at_lem j l, owed-size j l, room_from_lem n (suc j) (omega arith))

  -- the room test by lengths is the model's
  pub room_is : room_for_each (owed_at (injection_of e) (pending_at m owner position) m) m 0 s.count
      ≡ room_from e s.nodes owner size 0 s.count
  room_is = room_from_lem s.count 0 (omega arith)
