-- Every call keeps the bus valid, and its queues sequences of whole operations. What every step keeps, every call keeps.
-- Assumes nothing.
use mathlib.Core.Path.{◌≡◌, refl, sym, ap, ◌∙◌, subst}
use Prim.Native.Nat.{ℕ, ◌+◌, ◌≤◌, ◌<◌}
use native.Mathlib.Omega.{arith}
use mathlib.Core.Bool.{Bool, true, false, cond, ◌&&◌}
use mathlib.Core.List.{List, [], ◌∷◌}
use lib.Dec.{leb, eqb}
use lib.ListN.{length, length-replicate, get_or-replicate}
use borrow.Author.Tests.{leb-true, eqb-true, eqb-false}
use Rattle.operation.specs.Rules.{one_of}
use Rattle.decoder.specs.Stream.{Item, items_of}
use Rattle.plain_bus.specs.Held.{Bus, new_node, new_bus, node_at}
use Rattle.plain_bus.specs.Refusal.{bad_node_count}
use Rattle.plain_bus.specs.Submit.{Step, done, fails, take_item, take_items}
use Rattle.plain_bus.specs.Round.{after_round}
use Rattle.plain_bus.specs.Calls.{accepted, Outcome, gives, refuses, start}
use Rattle.plain_bus.proofs.ValidBus.{ValidNode, Valid, Whole, WholeQueues}
use Rattle.plain_bus.specs.Register.{Register, Update, updated}
use Rattle.plain_bus.specs.Session.{Call, call, calls}
use Rattle.plain_bus.proofs.Whole.{ValidItems, items-valid, whole-nil}
use Rattle.plain_bus.proofs.Winner.{winner-pending}
use Rattle.plain_bus.proofs.Validity.{change_valid}
use Rattle.plain_bus.proofs.Tally.{change_whole}
use Rattle.plain_bus.proofs.Steps.{Stepped, bus_of, never, fails-stay, item_step_lem, collect_step, round_step}
use Rattle.plain_bus.proofs.Outcomes.{Came, turned_down, idled, took, carried_out, handed_over, came}

-- ---- from steps to calls

module _ (P : Bus → Type 0) (valid : (b : Bus) → P b → Valid b)
    (step : (b b' : Bus) (k later : ℕ) (clears : Bool) (call : Register → Update) → Stepped b b' k later clears call
    → k < length b.nodes → P b → P b') where
  items_keep : (k : ℕ) (is : List Item) (b b' : Bus) → ValidItems is → k < length b.nodes → P b
      → take_items k is (done b) ≡ done b' → P b'
  unfolding take_items
  items_keep k [] b b' v h p e = subst P (bus_of e) p
  items_keep k (i ∷ is) b b' v h p e = go (take_item b k i) refl e (λ c. items_keep k is c b' v.1)
    where
      go : (s : Step) → take_item b k i ≡ s → take_items k is s ≡ done b'
          → ((c : Bus) → k < length c.nodes → P c → take_items k is (done c) ≡ done b' → P b') → P b'
      go (fails r) q e rest = never (sym (fails-stay k is r) ∙ e)
      go (done c) q e rest =
          let s = item_step_lem b k h i v.0 q in
          rest c (omega (arith, s.size)) (step b c k _ _ _ s h p) e

  outcome_keeps : (b : Bus) (c : Call) (o : Outcome) → Came b c o → P b → P o.bus
  outcome_keeps b c o (turned_down r) p = p
  outcome_keeps b c o (idled e q) p = p
  outcome_keeps b c o (took k buffer b' h e) p = items_keep k (items_of buffer) b b' (items-valid buffer) h p e
  outcome_keeps b c o (carried_out e w l q room last) p =
      step b (after_round e w b) w.owner (b.round + 1) false updated (round_step b e w (valid b p) l q room last)
      (winner-pending b w q).attached p
  outcome_keeps b c o (handed_over k room h) p = step b _ k b.round false _ (collect_step b k h) h p

  pub call_keeps : (b : Bus) (c : Call) → P b → P (call b c).bus
  call_keeps b c p = outcome_keeps b c (call b c) (came b c) p

  pub calls-keep : (cs : List Call) (b : Bus) → P b → P (calls cs b)
  unfolding calls
  calls-keep [] b p = p
  calls-keep (c ∷ cs) b p = calls-keep cs (call b c).bus (call_keeps b c p)

-- ---- validity

-- of every number: node k's own, and any other's
pub by_number : (P : ℕ → Type 0) (k : ℕ) → P k → ((j : ℕ) → (j ≡ k → ⊥) → P j) → (j : ℕ) → P j
by_number P k own other j = go (eqb j k) refl
  where
    go : (t : Bool) → eqb j k ≡ t → P j
    go true e = subst P (sym (eqb-true j k e)) own
    go false e = other j (eqb-false j k e)

step_valid : (b b' : Bus) (k later : ℕ) (clears : Bool) (call : Register → Update) → Stepped b b' k later clears call
    → k < length b.nodes → Valid b → Valid b'
step_valid b b' k later clears call s h v =
    record {
      least = omega (arith, s.size, v.least);
      most = omega (arith, s.size, v.most);
      round = rw s.round (s.bound v.round);
      each = λ j l. rw s.round (each j (rw s.size at l));
    }
  where
    each : (j : ℕ) → j < length b.nodes → ValidNode later (node_at b' j)
    each =
        by_number (λ j. j < length b.nodes → ValidNode later (node_at b' j)) k
        (λ l. change_valid s.own (v.each k h))
        (λ j n l. change_valid (s.others j l n) (v.each j l))

-- every call keeps the bus valid
pub valid-kept : (b : Bus) (c : Call) → Valid b → Valid (call b c).bus
valid-kept = call_keeps Valid (λ b v. v) step_valid

-- ---- whole queues

-- valid, and its queues whole
pub record ValidWhole (b : Bus) : Type 0 where
  pub valid : Valid b
  pub whole : WholeQueues b

pub step_whole : (b b' : Bus) (k later : ℕ) (clears : Bool) (call : Register → Update) → Stepped b b' k later clears call
    → k < length b.nodes → ValidWhole b → ValidWhole b'
step_whole b b' k later clears call s h p =
    record { valid = step_valid b b' k later clears call s h p.valid; whole = λ j l. each j (rw s.size at l) }
  where
    each : (j : ℕ) → j < length b.nodes → Whole (node_at b' j).queue
    each =
        by_number (λ j. j < length b.nodes → Whole (node_at b' j).queue) k
        (λ l. change_whole s.own (p.valid.each k h) (p.whole k h))
        (λ j n l. change_whole (s.others j l n) (p.valid.each j l) (p.whole j l))

-- every call keeps the queues of a valid bus whole
pub whole-kept : (b : Bus) (c : Call) → Valid b → WholeQueues b → WholeQueues (call b c).bus
whole-kept b c v w = (call_keeps ValidWhole (λ b p. p.valid) step_whole b c (record { valid = v; whole = w })).whole

-- ---- the start

-- an accepted start gives 2 to 8 new nodes
pub record Started (n : ℕ) (b : Bus) : Type 0 where
  pub bus : new_bus n ≡ b
  pub least : 2 ≤ n
  pub most : n ≤ 8

pub started : (n : ℕ) → (start n).answer ≡ accepted → Started n (start n).bus
unfolding start
started n e = go (leb 2 n) refl (leb n 8) refl e
  where
    Out : Outcome → Type 0
    Out o = o.answer ≡ accepted → Started n o.bus

    go : (t : Bool) → leb 2 n ≡ t → (u : Bool) → leb n 8 ≡ u
        → Out (cond (t && u) (gives accepted (new_bus n)) (refuses bad_node_count (new_bus 0)))
    go true qt true qu = λ e. record { bus = refl; least = leb-true 2 n qt; most = leb-true n 8 qu }
    go true qt false qu = λ e. let z : ◌≡◌ {A = ℕ} 0 1 = cc in absurd (omega arith)
    go false qt u qu = λ e. let z : ◌≡◌ {A = ℕ} 0 1 = cc in absurd (omega arith)

start-size : {n : ℕ} {b : Bus} → Started n b → n ≡ length b.nodes
start-size {n} s = sym (length-replicate n new_node) ∙ ap (λ (c : Bus). length c.nodes) s.bus

pub start_node : {n : ℕ} {b : Bus} → Started n b → (k : ℕ) → k < length b.nodes → node_at b k ≡ new_node
start_node {n} s k h = rw (← s.bus) (get_or-replicate n k new_node new_node (omega (arith, start-size s)))

new_valid : ValidNode 0 new_node
unfolding one_of
new_valid =
    record {
      status = refl;
      behaviour = refl;
      three = refl;
      rates = (omega arith, (omega arith, (omega arith, tt)));
      room = omega arith;
      few = omega arith;
      silent = λ q. refl;
      frames = tt;
    }

-- an accepted start is valid, and its queues are whole
pub start-valid : {n : ℕ} {b : Bus} → Started n b → ValidWhole b
start-valid {n} {b} s =
    let first : 0 ≡ b.round = ap (λ (c : Bus). c.round) s.bus in
    record {
      valid =
          record {
            least = omega (arith, start-size s, s.least);
            most = omega (arith, start-size s, s.most);
            round = omega arith;
            each = λ k h. rw (← first, start_node s k h) new_valid;
          };
      whole = λ k h. rw (start_node s k h) whole-nil;
    }

-- and so is the bus after any list of calls from there on
pub session-valid : (n : ℕ) → (start n).answer ≡ accepted → (cs : List Call) → ValidWhole (calls cs (start n).bus)
session-valid n e cs = calls-keep ValidWhole (λ b p. p.valid) step_whole cs (start n).bus (start-valid (started n e))
