-- A round is that of the plain bus on the view.
-- Assumes nothing.
use mathlib.Core.Path.{◌≡◌, refl, sym, ap, ◌∙◌}
use Prim.Native.Nat.{ℕ, ◌+◌, ◌-◌, ◌*◌, ◌<◌}
use mathlib.Core.Bool.{Bool, true, false, cond, not}
use lib.Dec.{leb, eqb}
use lib.ListN.{length}
use borrow.Author.Tests.{leb-false, eqb-true}
use Rattle.plain_bus.specs.Held.{Bus, last_round, node_at, with_round, all_have_room}
use Rattle.plain_bus.specs.Refusal.{bad_injection, queue_full, rounds_used_up}
use Rattle.plain_bus.specs.Order.{Entry, Winner, nobody, wins, winner}
use Rattle.plain_bus.specs.Round.{Injection, is_errored, winner_id, owed, settle, after_round, age}
use Rattle.plain_bus.specs.Calls.{refused, idle, carried, gives, refuses, wrong_injection, arbitrate, run_round}
use Rattle.plain_bus.specs.Session.{round}
use Rattle.plain_bus.proofs.ValidBus.{ValidNode, Valid}
use Rattle.plain_bus.proofs.Nodes.{length-each, each_at}
use Rattle.plain_bus.proofs.Winner.{winner-pending}
use Rattle.plain_bus.proofs.Preserved.{valid-kept}
use Rattle.plain_bus.proofs.Rounds.{round-done}
use Rattle.bus_state.specs.Memory.{Memory, node_view, view}
use Rattle.bus_state.specs.Valid.{valid_state}
use Rattle.bus_model.specs.Primitives.{entry_at, set_round, in_turn}
use Rattle.bus_model.specs.Round.{owed_at, settle_at, after_round_in}
use Rattle.bus_model.specs.Calls.{replies, refusing, arbitrate_in, rounded, round_in}
use Rattle.bus_model.specs.Refines.{Sized, TypedMemory, Refines}
use Rattle.bus_model.proofs.Writes.{Same, same_trans}
use Rattle.bus_model.proofs.Views.{same-fits, same_view, frames_moved, length-frames}
use Rattle.bus_model.proofs.Buses.{view-length, view_at, view-round, view_is}
use Rattle.bus_model.proofs.Validity.{Good, valid-good, good-number, good-fits}
use Rattle.bus_model.proofs.Touched.{same-tidy, good-tidy, Tidy, Touched, touched_as, good_from}
use Rattle.bus_model.proofs.Turns.{Going, in_turn_lem, going_view, room-view, room_one}
use Rattle.bus_model.proofs.Checked.{checked-passes, unchanged, changed}
use Rattle.bus_model.proofs.Winner.{winner-view, injection_view}
use Rattle.bus_model.proofs.Settle.{owed-view, settle_touched}

-- ---- the round number is set

round_same : (m : Memory) (x i : ℕ) → Same m (set_round m x) i
unfolding set_round
round_same m x i = record { entry = refl; slot = λ q h. refl; payload = λ q n h l. refl; queue = λ n l. refl }

round_node : (m : Memory) (x i : ℕ) → node_view (set_round m x) i ≡ node_view m i
unfolding node_view set_round
round_node m x i =
    rw (frames_moved m (set_round m x) (4 * i) (4 * i) (entry_at m i).pending (λ k l. record { slot = refl; bytes = refl }))

round-set : (m : Memory) (x : ℕ) → view (set_round m x) ≡ with_round (view m) x
unfolding set_round
round-set m x =
    view_is (set_round m x) (with_round (view m) x) (view-length m) refl (λ i h. round_node m x i ∙ sym (view_at m i h))

round-sized : (m : Memory) (x : ℕ) → Sized m → Sized (set_round m x)
unfolding set_round
round-sized m x s = record { slots = s.slots; payload = s.payload; queues = s.queues; nodes = s.nodes }

round-tidy : (m : Memory) (x j : ℕ) → Tidy m j → Tidy (set_round m x) j
unfolding set_round
round-tidy m x j t = record { fill = t.fill; owned = t.owned }

-- ---- a round that w wins

module _ (m : Memory) (g : Good m) (w : Entry) (q : winner (view m) ≡ wins w) where
  placed : (j : ℕ) → j < m.state.count → eqb j w.owner ≡ true → w.position < (entry_at m j).pending
  unfolding node_view
  placed j h e =
      let p = winner-pending (view m) w q in
      let o : j ≡ w.owner = eqb-true j w.owner e in
      let v : node_at (view m) w.owner ≡ node_view m j = ap (node_at (view m)) (sym o) ∙ view_at m j h in
      rw (length-frames m (4 * j) (entry_at m j).pending) at (rw v at p.placed)

  owed-each : (e : Injection) (j : ℕ) → j < m.state.count → owed_at e w m j ≡ owed e w j (node_view m j)
  owed-each e j h =
      owed-view m g.typed.sized j (good-number m g j h) (good-fits m g j h) (good-tidy g j h) w (placed j h) e

  module _ (e : Injection) (l : wrong_injection (view m) e ≡ false) (room : all_have_room (owed e w) (view m) ≡ true)
      (last : m.state.round < 4_294_967_295) where
    after-valid : Valid (after_round e w (view m))
    after-valid = rw (round-done (view m) e w l q room (rw (view-round m) last)) at (valid-kept (view m) (round e) g.valid)

    after-each : (i : ℕ) → i < m.state.count → ValidNode (m.state.round + 1) (settle e w i (node_view m i))
    unfolding after_round
    after-each i h =
        let u : i < length (view m).nodes = rw (view-length m) h in
        let v = after-valid.each i (rw (length-each (settle e w) 0 (view m).nodes) u) in
        rw (each_at (settle e w) (view m).nodes i u, view_at m i h, view-round m) at v

    settle_step : (x : Memory) (j : ℕ) → j < m.state.count → Sized x → Same m x j → x.state.round ≡ m.state.round
        → Touched x (settle_at e w x j) j (settle e w j (node_view m j))
    settle_step x j h s a r =
        let f = good-fits m g j h in
        let v : node_view x j ≡ node_view m j = same_view a f in
        let p : eqb j w.owner ≡ true → w.position < (entry_at x j).pending = λ o. rw a.entry (placed j h o) in
        touched_as
        (settle_touched x s j (good-number m g j h) (same-fits a f) (same-tidy a f (good-tidy g j h)) w p e
        (rw (a.entry, v) (room_one (owed e w) m g room j h)))
        (ap (settle e w j) v)

    going : Going m (in_turn (settle_at e w) 0 m.state.count m) m.state.count (settle e w)
    going = in_turn_lem m (settle e w) (m.state.round + 1) after-each (settle_at e w) settle_step g.typed.sized

    after-view : view (after_round_in e w m) ≡ after_round e w (view m)
    unfolding after_round_in after_round
    after-view =
        rw (view-round m)
        (round-set (in_turn (settle_at e w) 0 m.state.count m) (m.state.round + 1)
        ∙ ap (λ (b : Bus). with_round b (m.state.round + 1)) (going_view m _ (settle e w) g going))

    after-good : Good (after_round_in e w m)
    unfolding after_round_in set_round
    after-good =
        let x = in_turn (settle_at e w) 0 m.state.count m in
        good_from m (after_round_in e w m) (after_round e w (view m)) g after-view after-valid going.count
        (round-sized x (m.state.round + 1) going.sized) going.fields
        (λ j h. round-tidy x (m.state.round + 1) j (going.past j h).1)
        (λ j h. same_trans (going.left j h) (round_same x (m.state.round + 1) j))

  won_refines : (e : Injection) → wrong_injection (view m) e ≡ false → Refines (arbitrate_in m e (wins w)) (arbitrate (view m) e (wins w))
  unfolding arbitrate_in arbitrate age view
  won_refines e l =
      rw (room-view (owed_at e w m) (owed e w) m g (owed-each e), view-round m)
      (go (all_have_room (owed e w) (view m)) refl (leb last_round m.state.round) refl)
    where
      go : (t : Bool) → all_have_room (owed e w) (view m) ≡ t → (u : Bool) → leb last_round m.state.round ≡ u
          → Refines
          (cond (not t) (refusing queue_full m)
          (cond u (refusing rounds_used_up m)
          (replies (carried w.owner (winner_id w) (is_errored e) (m.state.round - w.frame.accepted)) (after_round_in e w m))))
          (cond (not t) (refuses queue_full (view m))
          (cond u (refuses rounds_used_up (view m))
          (gives (carried w.owner (winner_id w) (is_errored e) (m.state.round - w.frame.accepted)) (after_round e w (view m)))))
      go false qt u qu = unchanged m g (refused queue_full)
      go true qt true qu = unchanged m g (refused rounds_used_up)
      go true qt false qu =
          let last = leb-false last_round m.state.round qu in
          changed (after_round_in e w m) (after_round e w (view m)) (after-good e l qt last) (after-view e l qt last)
          (carried w.owner (winner_id w) (is_errored e) (m.state.round - w.frame.accepted))

-- ---- the call

rounded_refines : (m : Memory) (e : Injection) → Good m → Refines (rounded m e) (run_round (view m) e)
unfolding rounded run_round arbitrate_in arbitrate
rounded_refines m e g =
    rw (injection_view m e, winner-view m) (go (wrong_injection (view m) e) refl (winner (view m)) refl)
  where
    go : (t : Bool) → wrong_injection (view m) e ≡ t → (x : Winner) → winner (view m) ≡ x
        → Refines (cond t (refusing bad_injection m) (arbitrate_in m e x)) (cond t (refuses bad_injection (view m)) (arbitrate (view m) e x))
    go true l x q = unchanged m g (refused bad_injection)
    go false l nobody q = unchanged m g idle
    go false l (wins w) q = won_refines m g w q e l

-- a round, for every valid memory
pub round_refines : (m : Memory) (e : Injection) → TypedMemory m → valid_state m.state m.slots ≡ true
    → Refines (round_in m e) (run_round (view m) e)
unfolding round_in
round_refines m e t v =
    let g = valid-good m t v in
    rw (checked-passes m (rounded m e) g) (rounded_refines m e g)
