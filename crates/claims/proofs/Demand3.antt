-- Demand 3: beside every session goes the plain bus with its own registers, of which plain_bus proves it. What is demanded of a call says
-- that the memory is that bus by its view, and the registers are its registers, written flat (Registers).
-- Assumes nothing.
use mathlib.Core.Path.{◌≡◌, refl, sym, ap, ◌∙◌, subst}
use Prim.Native.Nat.{ℕ}
use mathlib.Core.Bool.{Bool, true, false, cond, ◌&&◌}
use mathlib.Core.List.{List, [], ◌∷◌, map}
use lib.Dec.{leb, eqb}
use lib.ListN.{length}
use Rattle.operation.proofs.Tests.{false_is_true}
use Rattle.slots.specs.declared.Slot.{Slot}
use Rattle.plain_bus.specs.Held.{Bus, new_bus}
use Rattle.plain_bus.specs.Refusal.{bad_node_count}
use Rattle.plain_bus.specs.Calls.{Answer, accepted, is_done, bytes_given, gives, refuses, start}
use Rattle.plain_bus.specs.Register.{new_register, enter, read}
use Rattle.plain_bus.specs.Session as session
use Rattle.plain_bus.specs.Network as network
use Rattle.plain_bus.proofs.Preserved.{started}
use Rattle.plain_bus.proofs.Networks.{Good, play-good, play-bus, start-good}
use Rattle.bus_state.specs.Memory.{Memory, held, view}
use Rattle.bus_state.specs.Valid.{valid_state}
use Rattle.bus_state.specs.declared.State.{State}
use Rattle.bus_model.specs.Primitives.{new_state}
use Rattle.bus_model.specs.Calls.{start_in}
use Rattle.bus_model.specs.Refines.{TypedMemory}
use Rattle.bus_model.proofs.Buses.{view-length}
use Rattle.bus_model.proofs.Start.{start_refines}
use Rattle.bus.specs.Left.{leaves}
use Rattle.outcome.specs.declared.Answer as code
use Rattle.plain_bus.specs.Round.{injection_from}
use Rattle.claims.specs.Numbers.{first_row, start_rows}
use Rattle.claims.specs.Demands.{Call, submits, arbitrates, collects, plain_call, AnswersAs, Passes, SameAs, Demanded, Started, follow_up, World, opening, Follows, Session, Claim, Demand3}
use Rattle.claims.proofs.Model.{left_by, memory_of, given_by}
use Rattle.claims.proofs.Answers.{left-state, answer_number_lem, done-number}
use Rattle.claims.proofs.Calls.{follows}
use Rattle.claims.proofs.Numbers.{start-number}
use Rattle.claims.proofs.Demanded.{demanded_by, start-accepted, start_memory_lem, started_by_lem}
use Rattle.claims.proofs.Registers.{map-replicate, Flattens, choose, register_open, keep_flattens}

-- ---- a list of calls

-- a session beside the plain bus with its registers
record Beside (w : World) (p : network.Network) : Type 0 where
  bus : view w.memory ≡ p.bus
  passes : Passes w.memory
  registers : Flattens w.registers p.registers
  good : Good p

-- what is demanded of a call is that of the plain bus beside it
beside_same : {w : World} {p : network.Network} → Beside w p → (c : Call) (a : code.Answer) (out : List ℕ) (m : Memory)
    → Demanded c w.memory a out m → SameAs (session.call p.bus (plain_call c)) a out m
beside_same s c a out m d = subst (λ (b : Bus). SameAs (session.call b (plain_call c)) a out m) s.bus (d.same s.passes)

-- number 0 says that the plain bus's call is done
same-done : (p : Answer) (a : code.Answer) → AnswersAs p a → eqb a.number 0 ≡ is_done p
same-done p a e =
    ap (λ (x : code.Answer). eqb x.number 0) e ∙ ap (λ (n : ℕ). eqb n 0) (answer_number_lem p a.state) ∙ done-number p

-- the register call that follows is the same
follow_flattens : (w : World) (p : network.Network) → Beside w p → (c : Call) (out : List ℕ)
    → let a = (session.call p.bus (plain_call c)).answer in
    out ≡ bytes_given a
    → Flattens (cond (is_done a) (follow_up c out w.registers) w.registers) (network.register_call p.registers (plain_call c) a)
unfolding follow_up network.register_call
follow_flattens w p s (submits node buffer u) out e =
    choose (is_done (session.call p.bus (session.submission node buffer)).answer)
    (keep_flattens p.bus w.registers p.registers s.good.agree s.registers node (λ r. enter r buffer))
    s.registers
follow_flattens w p s (arbitrates present code detector) out e =
    go (is_done (session.call p.bus (session.round (injection_from present code detector))).answer)
  where
    go : (t : Bool) → Flattens (cond t w.registers w.registers) p.registers
    go true = s.registers
    go false = s.registers
follow_flattens w p s (collects node buffer) out e =
    let a = (session.call p.bus (session.collection node (length buffer))).answer in
    choose (is_done a)
    (rw e
    (keep_flattens p.bus w.registers p.registers s.good.agree s.registers node (λ r. read r (bytes_given a))))
    s.registers

follow_beside : (w w' : World) (p : network.Network) → Beside w p → (c : Call) → Follows c w w'
    → Beside w' (network.network_after p (plain_call c) (session.call p.bus (plain_call c)))
unfolding network.network_after network.play
follow_beside w w' p s c f =
    let x = beside_same s c f.answer f.out w'.memory f.demanded in
    let a = (session.call p.bus (plain_call c)).answer in
    let done : eqb f.answer.number 0 ≡ is_done (session.call p.bus (plain_call c)).answer = same-done a f.answer x.answer in
    record {
      bus = x.bus;
      passes = x.passes;
      registers = rw (f.registers, done) (follow_flattens w p s c f.out x.bytes);
      good = play-good (plain_call c ∷ []) p s.good;
    }

session_beside : (cs : List Call) (w w' : World) (p : network.Network) → Beside w p → Session cs w w'
    → Beside w' (network.play (map plain_call cs) p)
unfolding network.play
session_beside [] w w' p s e = subst (λ (x : World). Beside x p) e s
session_beside (c ∷ cs) w w' p s f = session_beside cs f.0 w' _ (follow_beside w f.0 p s c f.1) f.2

-- ---- the claim

claimed : (w : World) (p : network.Network) → Beside w p → Claim w p.bus
claimed w p s = record {
  bus = s.bus;
  passes = s.passes;
  same = beside_same s;
  all_done = rw s.registers.numbers s.good.all_done;
  counts = λ k h id.
      rw (register_open p.bus w.registers p.registers s.good.agree s.registers k)
      ((s.good.agree.each k h).counts (λ x. eqb x id));
}

-- ---- the start

plain_accepted : (count : ℕ) → is_done (start count).answer ≡ true → (start count).answer ≡ accepted
unfolding start
plain_accepted count = go (leb 2 count && leb count 8)
  where
    go : (t : Bool) → let a = (cond t (gives accepted (new_bus count)) (refuses bad_node_count (new_bus 0))).answer in is_done a ≡ true
        → a ≡ accepted
    go true e = refl
    go false e = false_is_true e

start_beside : (count : ℕ) (m : Memory) → (start count).answer ≡ accepted → view m ≡ (start count).bus → Passes m
    → Beside (opening m) (network.new_network (start count).bus)
unfolding network.new_network
start_beside count m e b p =
    let size : length (start count).bus.nodes ≡ m.state.count = ap (λ (x : Bus). length x.nodes) (sym b) ∙ view-length m in
    record {
      bus = b;
      passes = p;
      registers = record { each = rw size (map-replicate m.state.count new_register); numbers = refl };
      good = start-good (start count).bus (started count e);
    }

start_claimed : (slots after : List Slot) (payload queues : List ℕ) (count : ℕ) (a : code.Answer)
    → Started slots payload queues count a after → a.number ≡ 0 → (cs : List Call) (w : World)
    → Session cs (opening (held a.state after payload queues)) w
    → Claim w (session.calls (map plain_call cs) (start count).bus)
unfolding network.new_network
start_claimed slots after payload queues count a s z cs w f =
    let m = held a.state after payload queues in
    let x = s.same z in
    let done : is_done (start count).answer ≡ true = sym (same-done (start count).answer a x.answer) ∙ ap (λ (n : ℕ). eqb n 0) z in
    let o = start_beside count m (plain_accepted count done) x.bus x.passes in
    subst (Claim w) (play-bus (map plain_call cs) (network.new_network (start count).bus))
    (claimed w _ (session_beside cs (opening m) w (network.new_network (start count).bus) o f))

-- ---- there is a session for every list of calls: the model's

abbrev after_call : World → Call → World
after_call w c = record {
  memory = memory_of (left_by w.memory c);
  registers = cond (eqb (left_by w.memory c).answer.number 0) (follow_up c (given_by w.memory c) w.registers) w.registers;
}

session-exists : (cs : List Call) (w : World) → TypedMemory w.memory → valid_state w.memory.state w.memory.slots ≡ true
    → (w' : World) × Session cs w w'
session-exists [] w t v = (w, refl)
session-exists (c ∷ cs) w t v =
    let m = w.memory in
    let f = follows {m = m} {b = view m} (record { bus = refl; valid = v; typed = t }) c in
    let r = session-exists cs (after_call w c) f.typed f.valid in
    let s : Follows c w (after_call w c) =
    record { answer = (left_by m c).answer; out = given_by m c; demanded = demanded_by m c (λ e. t); registers = refl } in
    (r.0, (after_call w c, s, r.1))

start-exists : (slots : List Slot) (payload queues : List ℕ) (count : ℕ)
    → ((s : State) → first_row (start_rows (held s slots payload queues) count) ≡ 0)
    → (a : code.Answer) × (after : List Slot) × Started slots payload queues count a after
    × ((cs : List Call) → (w : World) × Session cs (opening (held a.state after payload queues)) w)
start-exists slots payload queues count z =
    let m = held (new_state 0) slots payload queues in
    let l = leaves (start_in m count) in
    let a = start-accepted m count (start-number m count ∙ z (new_state 0)) in
    let r = start_refines m count a.lent a.fits in (
      l.answer,
      l.slots,
      started_by_lem slots payload queues count,
      λ cs.
          session-exists cs (opening (held l.answer.state l.slots payload queues)) (rw (start_memory_lem m count) r.typed)
          (rw (left-state (start_in m count)) r.valid),
    )

pub demand3 : Demand3
demand3 = record { holds = start_claimed; exists = start-exists }
