-- The plain bus with its registers: after any list of calls, what a node's register has open is what is pending or waiting to be
-- closed, and every register call is done. By the tally of each node with its register, kept by every step.
-- Assumes nothing.
use mathlib.Core.Path.{◌≡◌, refl, sym, ap, ◌∙◌, subst}
use Prim.Native.Nat.{ℕ, ◌+◌, ◌<◌}
use native.Mathlib.Omega.{arith}
use mathlib.Core.Bool.{Bool, true, false}
use mathlib.Core.List.{List, [], ◌∷◌}
use lib.ListN.{length, get_or, set, length-set, length-replicate, get_or-replicate}
use lib.Seq.{get_or-set_same, get_or-set_other, set-get_or, set-set}
use Rattle.decoder.specs.Stream.{Item, items_of}
use Rattle.plain_bus.specs.Held.{Bus, new_node, node_at}
use Rattle.plain_bus.specs.Submit.{Step, done, fails, take_item, take_items}
use Rattle.plain_bus.specs.Round.{after_round}
use Rattle.plain_bus.specs.Calls.{Outcome}
use Rattle.plain_bus.specs.Register.{Register, new_register, Update, updated, rejected, updates, enter_item, enter, read}
use Rattle.plain_bus.specs.Session.{Call, submission, round, collection, call, calls, count, pending_ids, closing_ids, all_zero}
use Rattle.plain_bus.specs.Network.{NodeRegisters, note_update, register_call, Network, new_network, network_after, play}
use Rattle.plain_bus.proofs.Whole.{ValidItems, items-nil, items-valid}
use Rattle.plain_bus.proofs.Winner.{winner-pending}
use Rattle.plain_bus.proofs.Tally.{Tally, register-valid, change_tally}
use Rattle.plain_bus.proofs.Steps.{Stepped, bus_of, never, fails-stay, turns_off, item_step_lem, collect_step, round_step}
use Rattle.plain_bus.proofs.Outcomes.{Came, turned_down, idled, took, carried_out, handed_over, came}
use Rattle.plain_bus.proofs.Preserved.{by_number, ValidWhole, step_whole, Started, start_node, start-valid}

-- the bus is sound, and each node tallies with its register
pub record Agree (b : Bus) (rs : List Register) : Type 0 where
  pub bus : ValidWhole b
  pub size : length rs ≡ length b.nodes
  pub each : (j : ℕ) → j < length b.nodes → Tally (node_at b j) (get_or rs j new_register)

-- a register call of node k that is done, after which all agree
record Done (b : Bus) (rs : List Register) (k : ℕ) (u : Update) : Type 0 where
  register : Register
  result : u ≡ updated register
  agree : Agree b (set rs k register)

-- one step of a call
step_agrees : (b b' : Bus) (k later : ℕ) (clears : Bool) (call : Register → Update) (rs : List Register)
    → Stepped b b' k later clears call → k < length b.nodes → Agree b rs → Done b' rs k (call (get_or rs k new_register))
step_agrees b b' k later clears call rs s h a =
    let t = change_tally s.own (a.bus.valid.each k h) (a.bus.whole k h) (a.each k h) in
    record {
      register = t.0;
      result = t.1;
      agree =
          record {
            bus = step_whole b b' k later clears call s h a.bus;
            size = length-set rs k t.0 ∙ a.size ∙ sym s.size;
            each = λ j l. each t.0 t.2 j (rw s.size at l);
          };
    }
  where
    each : (x : Register) → Tally (node_at b' k) x → (j : ℕ) → j < length b.nodes
        → Tally (node_at b' j) (get_or (set rs k x) j new_register)
    each x t =
        by_number (λ j. j < length b.nodes → Tally (node_at b' j) (get_or (set rs k x) j new_register)) k
        (λ l. rw (get_or-set_same rs k x new_register (omega (arith, a.size))) t)
        (λ j n l.
        let o = change_tally (s.others j l n) (a.bus.valid.each j l) (a.bus.whole j l) (a.each j l) in
        let same : o.0 ≡ get_or rs j new_register = cc o.1 in
        rw (get_or-set_other rs k j x new_register n, ← same) o.2)

-- a submitted buffer, item by item
items-agree : (k : ℕ) (is : List Item) (b b' : Bus) (rs : List Register) → ValidItems is → k < length b.nodes
    → Agree b rs
    → take_items k is (done b) ≡ done b' → Done b' rs k (updates enter_item is (updated (get_or rs k new_register)))
unfolding take_items updates
items-agree k [] b b' rs v h a e =
    record {
      register = get_or rs k new_register;
      result = refl;
      agree = rw set-get_or (subst (λ (c : Bus). Agree c rs) (bus_of e) a);
    }
items-agree k (i ∷ is) b b' rs v h a e = go (take_item b k i) refl e (λ c qs. items-agree k is c b' qs v.1)
  where
    go : (s : Step) → take_item b k i ≡ s → take_items k is s ≡ done b'
        → ((c : Bus) (qs : List Register) → k < length c.nodes → Agree c qs → take_items k is (done c) ≡ done b'
        → Done b' qs k (updates enter_item is (updated (get_or qs k new_register))))
        → Done b' rs k (updates enter_item is (enter_item (get_or rs k new_register) i))
    go (fails r) q e rest = never (sym (fails-stay k is r) ∙ e)
    go (done c) q e rest =
        let s = item_step_lem b k h i v.0 q in
        let x = step_agrees b c k b.round (turns_off i) (λ y. enter_item y i) rs s h a in
        let here : get_or (set rs k x.register) k new_register ≡ x.register =
        get_or-set_same rs k x.register new_register (omega (arith, a.size)) in
        let r = rest c (set rs k x.register) (omega (arith, s.size)) x.agree e in
        record {
          register = r.register;
          result = ap (updates enter_item is) (x.result ∙ ap updated (sym here)) ∙ r.result;
          agree = rw set-set at r.agree;
        }

-- ---- a call with its register call

pub record Good (w : Network) : Type 0 where
  pub agree : Agree w.bus w.registers.each
  pub all_done : all_zero w.registers.answers ≡ true

update_good : (b : Bus) (rs : NodeRegisters) (k : ℕ) (u : Update) → all_zero rs.answers ≡ true → Done b rs.each k u
    → Good (record { bus = b; registers = note_update rs k u })
unfolding note_update all_zero
update_good b rs k (updated x) g r =
    let same : x ≡ r.register = cc r.result in
    record { agree = rw same r.agree; all_done = g }
update_good b rs k (rejected x) g r = let z : ◌≡◌ {A = ℕ} 0 1 = cc r.result in absurd (omega arith)

outcome-good : (w : Network) (c : Call) (o : Outcome) → Came w.bus c o → Good w → Good (network_after w c o)
unfolding network_after register_call enter
outcome-good w (submission k buffer) o (turned_down r) g = g
outcome-good w (round e) o (turned_down r) g = g
outcome-good w (collection k room) o (turned_down r) g = g
outcome-good w c o (idled e q) g = g
outcome-good w c o (took k buffer b' h e) g =
    let r = items-agree k (items_of buffer) w.bus b' w.registers.each (items-valid buffer) h g.agree e in
    let v = register-valid (g.agree.bus.valid.each k h) (g.agree.each k h) in
    update_good b' w.registers k _ g.all_done
    (record { register = r.register; result = rw v r.result; agree = r.agree })
outcome-good w c o (carried_out e v l q room last) g =
    let b = w.bus in
    let s = round_step b e v g.agree.bus.valid l q room last in
    let h = (winner-pending b v q).attached in
    let r = step_agrees b (after_round e v b) v.owner (b.round + 1) false updated w.registers.each s h g.agree in
    let same : r.register ≡ get_or w.registers.each v.owner new_register = cc r.result in
    record { agree = rw (same, set-get_or) at r.agree; all_done = g.all_done }
outcome-good w c o (handed_over k room h) g =
    let b = w.bus in
    let reads : Register → Update = λ x. read x (node_at w.bus k).queue in
    update_good _ w.registers k _ g.all_done
    (step_agrees b _ k b.round false reads w.registers.each (collect_step b k h) h g.agree)

pub play-good : (cs : List Call) (w : Network) → Good w → Good (play cs w)
unfolding play
play-good [] w g = g
play-good (c ∷ cs) w g = play-good cs _ (outcome-good w c (call w.bus c) (came w.bus c) g)

-- the bus with its registers goes as the bus alone
pub play-bus : (cs : List Call) (w : Network) → (play cs w).bus ≡ calls cs w.bus
unfolding play calls network_after
play-bus [] w = refl
play-bus (c ∷ cs) w = play-bus cs (network_after w c (call w.bus c))

-- ---- the start, and the claim

new_tally : Tally new_node new_register
unfolding count pending_ids closing_ids
new_tally = record { counts = λ p. rw items-nil; flag = refl; shut = λ q. refl }

pub start-good : {n : ℕ} (b : Bus) → Started n b → Good (new_network b)
unfolding new_network all_zero
start-good b s =
    record {
      agree =
          record {
            bus = start-valid s;
            size = length-replicate (length b.nodes) new_register;
            each = λ j h. rw (get_or-replicate (length b.nodes) j new_register new_register h, start_node s j h) new_tally;
          };
      all_done = refl;
    }
