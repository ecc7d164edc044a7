-- A frame that was accepted stays pending, with its acceptance round, until it is removed: what an accepted buffer and a
-- collect leave pending at every node. (Of a round: Rounds, `round-pending`; of a refused call: `refused-same`.)
-- Assumes nothing.
use mathlib.Core.Path.{◌≡◌, refl, sym, ◌∙◌, subst}
use Prim.Native.Nat.{ℕ, ◌-◌, ◌<◌}
use native.Mathlib.Omega.{arith}
use mathlib.Core.Bool.{Bool, true, false, cond, ◌&&◌, ◌||◌}
use mathlib.Core.List.{List, [], ◌∷◌, ◌++◌, append-nil, append_assoc}
use lib.Dec.{eqb}
use lib.ListN.{length, set}
use lib.Seq.{get_or-set_same, get_or-set_other}
use borrow.Author.Tests.{eq-eqb, ne_eqb}
use Rattle.decoder.specs.Stream.{Item, items_of}
use Rattle.plain_bus.specs.Held.{Frame, Node, Bus, bus_off, with_behaviour, with_rates, with_queue, new_node, node_at, with_node}
use Rattle.plain_bus.specs.Submit.{Step, done, fails, cleared, configure, set_status, take_item, take_items}
use Rattle.plain_bus.specs.Calls.{accepted, Outcome}
use Rattle.plain_bus.specs.Register.{Register, Update}
use Rattle.plain_bus.specs.Session.{submission, collection, call}
use Rattle.plain_bus.proofs.Whole.{ValidItems, items-valid}
use Rattle.plain_bus.proofs.Changes.{Change, still, ignored, joined, configured, status_set, answered, settled, collected}
use Rattle.plain_bus.proofs.Steps.{Stepped, bus_of, never, fails-stay, turns_off, item_step_lem}
use Rattle.plain_bus.proofs.Outcomes.{Came, turned_down, took, handed_over, came}
use Rattle.plain_bus.proofs.Preserved.{by_number}

-- all of these were accepted at the round number `now`
abbrev pub AcceptedAt : ℕ → List Frame → Type 0
AcceptedAt now [] = Unit {0}
AcceptedAt now (f ∷ fs) = (f.accepted ≡ now) × AcceptedAt now fs

-- after what was pending come frames that were accepted now
pub record Joins (now : ℕ) (before after : List Frame) : Type 0 where
  pub added : List Frame
  pub split : after ≡ before ++ added
  pub fresh : AcceptedAt now added

same_joins : {now : ℕ} (fs : List Frame) → Joins now fs fs
same_joins fs = record { added = []; split = sym (append-nil fs); fresh = tt }

fresh-append : (now : ℕ) (a b : List Frame) → AcceptedAt now a → AcceptedAt now b → AcceptedAt now (a ++ b)
fresh-append now [] b x y = y
fresh-append now (f ∷ a) b x y = (x.0, fresh-append now a b x.1 y)

joins_twice : {now : ℕ} {a b c : List Frame} → Joins now a b → Joins now b c → Joins now a c
joins_twice {now} {a} x y =
    record {
      added = x.added ++ y.added;
      split = y.split ∙ rw x.split (append_assoc a x.added y.added);
      fresh = fresh-append now x.added y.added x.fresh y.fresh;
    }

-- ---- one step

-- within a round number, a change leaves what is pending, or clears it, and adds what is accepted now
change_joins : {now later : ℕ} {clears : Bool} {call : Register → Update} {d d' : Node}
    → Change now later clears call d d'
    → later ≡ now → Joins now (cond clears [] d.pending) d'.pending
unfolding configure set_status
change_joins {d = d} still e = same_joins d.pending
change_joins {d = d} (ignored id off) e = same_joins d.pending
change_joins (joined f on few v q) e = record { added = f ∷ []; split = refl; fresh = (q, tt) }
change_joins {now} {d = d} (configured kind value l) e = go (eqb kind 4)
  where
    go : (t : Bool)
        → Joins now d.pending (cond t (with_behaviour d value) (with_rates d (set d.rates (kind - 1) value))).pending
    go true = same_joins d.pending
    go false = same_joins d.pending
change_joins {now} {d = d} (status_set status l) e = go (eqb status bus_off)
  where
    go : (t : Bool) → Joins now (cond t [] d.pending) (cond t (cleared d) d).pending
    go true = same_joins []
    go false = same_joins d.pending
change_joins {d = d} (answered op bytes r q room) e = same_joins d.pending
change_joins (settled i w j l v own room) e = absurd (omega arith)
change_joins {d = d} collected e = same_joins d.pending

-- the pending frames of every node, where only node k may be cleared
record Joined (b b' : Bus) (k : ℕ) (clears : Bool) : Type 0 where
  size : length b'.nodes ≡ length b.nodes
  round : b'.round ≡ b.round
  each : (j : ℕ) → j < length b.nodes
      → Joins b.round (cond (clears && eqb j k) [] (node_at b j).pending) (node_at b' j).pending

step_joined : {b b' : Bus} {k : ℕ} {clears : Bool} {call : Register → Update} → Stepped b b' k b.round clears call
    → Joined b b' k clears
step_joined {b} {b'} {k} {clears} s =
    record {
      size = s.size;
      round = s.round;
      each =
          by_number
          (λ j.
          j < length b.nodes
          → Joins b.round (cond (clears && eqb j k) [] (node_at b j).pending) (node_at b' j).pending)
          k
          (λ l. rw (eq-eqb k k refl) (own clears (change_joins s.own refl)))
          (λ j n l. rw (ne_eqb j k n) (other j clears (change_joins (s.others j l n) refl)));
    }
  where
    own : (t : Bool) → Joins b.round (cond t [] (node_at b k).pending) (node_at b' k).pending
        → Joins b.round (cond (t && true) [] (node_at b k).pending) (node_at b' k).pending
    own true x = x
    own false x = x

    other : (j : ℕ) (t : Bool) → Joins b.round (node_at b j).pending (node_at b' j).pending
        → Joins b.round (cond (t && false) [] (node_at b j).pending) (node_at b' j).pending
    other j true x = x
    other j false x = x

-- ---- all steps of a buffer

-- one of a buffer's items is a Status Bus-Off
unfoldable pub any_turns_off : List Item → Bool
any_turns_off [] = false
any_turns_off (i ∷ is) = turns_off i || any_turns_off is

joined_twice : {a b c : Bus} {k : ℕ} (clears later : Bool) → Joined a b k clears → Joined b c k later
    → Joined a c k (clears || later)
joined_twice {a} {b} {c} {k} clears later s t =
    record {
      size = t.size ∙ s.size;
      round = t.round ∙ s.round;
      each = λ j l. both j (eqb j k) clears later (s.each j l) (rw s.round at (t.each j (rw s.size l)));
    }
  where
    both : (j : ℕ) (own clears later : Bool)
        → Joins a.round (cond (clears && own) [] (node_at a j).pending) (node_at b j).pending
        → Joins a.round (cond (later && own) [] (node_at b j).pending) (node_at c j).pending
        → Joins a.round (cond ((clears || later) && own) [] (node_at a j).pending) (node_at c j).pending
    both j own true false x y = joins_twice x y
    both j own false false x y = joins_twice x y
    both j true true true x y = y
    both j false true true x y = joins_twice x y
    both j true false true x y = y
    both j false false true x y = joins_twice x y

items-joined : (k : ℕ) (is : List Item) (b b' : Bus) → ValidItems is → k < length b.nodes
    → take_items k is (done b) ≡ done b'
    → Joined b b' k (any_turns_off is)
unfolding take_items any_turns_off
items-joined k [] b b' v h e =
    subst (λ (y : Bus). Joined b y k false) (bus_of e)
    (record { size = refl; round = refl; each = λ j l. same_joins (node_at b j).pending })
items-joined k (i ∷ is) b b' v h e = go (take_item b k i) refl e (λ c. items-joined k is c b' v.1)
  where
    go : (s : Step) → take_item b k i ≡ s → take_items k is s ≡ done b'
        → ((c : Bus) → k < length c.nodes → take_items k is (done c) ≡ done b' → Joined c b' k (any_turns_off is))
        → Joined b b' k (turns_off i || any_turns_off is)
    go (fails r) q e rest = never (sym (fails-stay k is r) ∙ e)
    go (done c) q e rest =
        let s = item_step_lem b k h i v.0 q in
        joined_twice (turns_off i) (any_turns_off is) (step_joined s) (rest c (rw s.size h) e)

-- ---- the calls

submit-outcome : {b : Bus} {k : ℕ} {buffer : List ℕ} {o : Outcome} → Came b (submission k buffer) o → o.answer ≡ accepted
    → Joined b o.bus k (any_turns_off (items_of buffer))
submit-outcome (turned_down r) q = let z : ◌≡◌ {A = ℕ} 0 1 = cc in absurd (omega arith)
submit-outcome {b} (took k buffer b' h e) q = items-joined k (items_of buffer) b b' (items-valid buffer) h e

-- an accepted buffer of node k leaves every pending frame where it is, and adds frames that are accepted now;
-- only where a Status Bus-Off is in it, node k's earlier frames are gone
pub submit-pending : (b : Bus) (k : ℕ) (buffer : List ℕ) → (call b (submission k buffer)).answer ≡ accepted → (j : ℕ)
    → j < length b.nodes
    → Joins b.round (cond (any_turns_off (items_of buffer) && eqb j k) [] (node_at b j).pending)
    (node_at (call b (submission k buffer)).bus j).pending
submit-pending b k buffer e = (submit-outcome (came b (submission k buffer)) e).each

collect-outcome : {b : Bus} {k room : ℕ} {o : Outcome} → Came b (collection k room) o → (j : ℕ) → j < length b.nodes
    → (node_at o.bus j).pending ≡ (node_at b j).pending
collect-outcome (turned_down r) = λ j l. refl
collect-outcome {b} (handed_over k room h) =
    by_number
    (λ j. j < length b.nodes → (node_at (with_node b k (with_queue (node_at b k) [])) j).pending ≡ (node_at b j).pending)
    k
    (λ l. rw (get_or-set_same b.nodes k (with_queue (node_at b k) []) new_node h))
    (λ j n l. rw (get_or-set_other b.nodes k j (with_queue (node_at b k) []) new_node n))

-- a collect leaves every pending frame where it is
pub collect-pending : (b : Bus) (k room j : ℕ) → j < length b.nodes
    → (node_at (call b (collection k room)).bus j).pending ≡ (node_at b j).pending
collect-pending b k room j l = collect-outcome (came b (collection k room)) j l
