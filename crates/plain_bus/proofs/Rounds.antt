-- A refused call and an idle round change nothing; and what a round that is carried out does, as its answer says: the winner,
-- the age, what is removed and what is queued.
-- Assumes nothing.
use mathlib.Core.Path.{◌≡◌, refl, ap, ◌∙◌}
use Prim.Native.Nat.{ℕ, ◌+◌, ◌<◌}
use native.Mathlib.Omega.{arith}
use mathlib.Core.Bool.{Bool, true, false}
use mathlib.Core.List.{[], ◌++◌}
use lib.ListN.{length}
use borrow.Author.Tests.{eq-eqb, ne_eqb, le-leb, lt-leb}
use Rattle.plain_bus.specs.Held.{Node, Bus, last_round, discards, node_at, all_have_room}
use Rattle.plain_bus.specs.Refusal.{Refusal, rounds_used_up}
use Rattle.plain_bus.specs.Order.{Entry, wins, winner}
use Rattle.plain_bus.specs.Round.{Injection, is_errored, winner_id, without, losers, stay, owed, settle, after_round, age}
use Rattle.plain_bus.specs.Calls.{refused, idle, carried, Outcome, gives, refuses, wrong_injection, arbitrate, run_round}
use Rattle.plain_bus.proofs.ValidBus.{Valid}
use Rattle.plain_bus.specs.Session.{Call, round, call}
use Rattle.plain_bus.proofs.Nodes.{each_at}
use Rattle.plain_bus.proofs.Winner.{winner-pending}
use Rattle.plain_bus.proofs.Validity.{pending-valid}
use Rattle.plain_bus.proofs.Outcomes.{Came, turned_down, idled, took, carried_out, handed_over, came}

-- ---- nothing is changed

refused-outcome : {b : Bus} {c : Call} {o : Outcome} {r : Refusal} → Came b c o → o.answer ≡ refused r → o.bus ≡ b
refused-outcome (turned_down r) q = refl
refused-outcome (idled e n) q = refl
refused-outcome (took k buffer b' h t) q = let z : ◌≡◌ {A = ℕ} 0 1 = cc in absurd (omega arith)
refused-outcome (carried_out e w l n room last) q = let z : ◌≡◌ {A = ℕ} 0 1 = cc in absurd (omega arith)
refused-outcome (handed_over k room h) q = let z : ◌≡◌ {A = ℕ} 0 1 = cc in absurd (omega arith)

-- a refused call hands back the bus as it was
pub refused-same : (b : Bus) (c : Call) {r : Refusal} → (call b c).answer ≡ refused r → (call b c).bus ≡ b
refused-same b c q = refused-outcome (came b c) q

idle-outcome : {b : Bus} {c : Call} {o : Outcome} → Came b c o → o.answer ≡ idle → o.bus ≡ b
idle-outcome (turned_down r) q = refl
idle-outcome (idled e n) q = refl
idle-outcome (took k buffer b' h t) q = let z : ◌≡◌ {A = ℕ} 0 1 = cc in absurd (omega arith)
idle-outcome (carried_out e w l n room last) q = let z : ◌≡◌ {A = ℕ} 0 1 = cc in absurd (omega arith)
idle-outcome (handed_over k room h) q = let z : ◌≡◌ {A = ℕ} 0 1 = cc in absurd (omega arith)

-- an idle round changes nothing, the round number included
pub idle-same : (b : Bus) (c : Call) → (call b c).answer ≡ idle → (call b c).bus ≡ b
idle-same b c q = idle-outcome (came b c) q

-- ---- the answer of a round

module _ (b : Bus) (e : Injection) (w : Entry) (l : wrong_injection b e ≡ false) (q : winner b ≡ wins w)
    (room : all_have_room (owed e w) b ≡ true) where
  -- with room in every queue, a round is carried out at every round number but the largest, where it is refused by 10
  pub round-done : b.round < 4_294_967_295
      → call b (round e) ≡ gives (carried w.owner (winner_id w) (is_errored e) (age b w)) (after_round e w b)
  unfolding call run_round arbitrate
  round-done h = rw (l, q, room, lt-leb last_round b.round h)

  pub round_last : b.round ≡ 4_294_967_295 → call b (round e) ≡ refuses rounds_used_up b
  unfolding call run_round arbitrate
  round_last h = rw (l, q, room, le-leb last_round b.round (omega arith))

-- there was a winner; the answer names its node, its ID, whether an error was injected, and its age; the bus is that after
-- the round
pub record Carried (b : Bus) (e : Injection) (s i : ℕ) (t : Bool) (a : ℕ) (b' : Bus) : Type 0 where
  pub entry : Entry
  pub won : winner b ≡ wins entry
  pub sender : s ≡ entry.owner
  pub named : i ≡ winner_id entry
  pub errored : t ≡ is_errored e
  pub aged : a ≡ age b entry
  pub bus : b' ≡ after_round e entry b

carried-outcome : {b : Bus} {e : Injection} {o : Outcome} {s i a : ℕ} {t : Bool} → Came b (round e) o
    → o.answer ≡ carried s i t a
    → Carried b e s i t a o.bus
carried-outcome (turned_down r) q = let z : ◌≡◌ {A = ℕ} 0 1 = cc in absurd (omega arith)
carried-outcome (idled e n) q = let z : ◌≡◌ {A = ℕ} 0 1 = cc in absurd (omega arith)
carried-outcome (carried_out e w l n room last) q =
    record { entry = w; won = n; sender = cc; named = cc; errored = cc; aged = cc; bus = refl }

pub round-carried : (b : Bus) (e : Injection) {s i a : ℕ} {t : Bool} → (call b (round e)).answer ≡ carried s i t a
    → Carried b e s i t a (call b (round e)).bus
round-carried b e q = carried-outcome (came b (round e)) q

-- the age is the difference of two round numbers: that before the round, and that at acceptance
pub age_difference : (b : Bus) (w : Entry) → Valid b → winner b ≡ wins w → w.frame.accepted + age b w ≡ b.round
unfolding age
age_difference b w v q = omega (arith, (pending-valid b w v (winner-pending b w q)).1)

-- ---- the bus after a round

module _ (b : Bus) (e : Injection) (w : Entry) where
  pub round_grows : (after_round e w b).round ≡ b.round + 1
  unfolding after_round
  round_grows = refl

  -- every node is settled
  pub round_node : (j : ℕ) → j < length b.nodes → node_at (after_round e w b) j ≡ settle e w j (node_at b j)
  unfolding after_round
  round_node j h = each_at (settle e w) b.nodes j h

  pub round-queue : (j : ℕ) → j < length b.nodes
      → (node_at (after_round e w b) j).queue ≡ (node_at b j).queue ++ owed e w j (node_at b j)
  unfolding settle
  round-queue j h = ap (λ (d : Node). d.queue) (round_node j h)

  pub round-pending : (j : ℕ) → j < length b.nodes → (node_at (after_round e w b) j).pending ≡ stay w j (node_at b j)
  unfolding settle
  round-pending j h = ap (λ (d : Node). d.pending) (round_node j h)

  -- a node that discards has nothing pending any more, the sender's other frames included
  pub discarded : (j : ℕ) → j < length b.nodes → discards (node_at b j) ≡ true
      → (node_at (after_round e w b) j).pending ≡ []
  unfolding stay
  discarded j h t = round-pending j h ∙ rw t

  -- a sender that buffers keeps all its pending frames but the winner
  pub winner-removed : w.owner < length b.nodes → discards (node_at b w.owner) ≡ false
      → (node_at (after_round e w b) w.owner).pending ≡ without w.position (node_at b w.owner).pending
  unfolding stay losers
  winner-removed h t = round-pending w.owner h ∙ rw (t, eq-eqb w.owner w.owner refl)

  -- another node that buffers keeps them all, with their acceptance rounds
  pub losers_wait : (j : ℕ) → j < length b.nodes → (j ≡ w.owner → ⊥) → discards (node_at b j) ≡ false
      → (node_at (after_round e w b) j).pending ≡ (node_at b j).pending
  unfolding stay losers
  losers_wait j h n t = round-pending j h ∙ rw (t, ne_eqb j w.owner n)
