-- Every step of every call changes each node in one of the eight ways: the steps of a submitted buffer, a round, a collect.
-- Assumes nothing.
use mathlib.Core.Path.{◌≡◌, refl, sym, subst}
use Prim.Native.Nat.{ℕ, ◌+◌, ◌≤◌, ◌<◌}
use native.Mathlib.Omega.{arith}
use mathlib.Core.Bool.{Bool, true, false, cond, not, ◌||◌}
use mathlib.Core.List.{List, [], ◌∷◌, append-nil}
use lib.Dec.{leb, eqb}
use lib.ListN.{length, get_or, length-append, length-set}
use lib.Seq.{get_or-set_same, get_or-set_other}
use borrow.Author.Tests.{leb-true, leb-false, eqb-true}
use Rattle.operation.specs.Format.{encode}
use Rattle.operation.specs.Rules.{one_of, error_codes}
use Rattle.operation.specs.declared.Operation.{Operation}
use Rattle.operation.specs.declared.Operation.TheVariants.{FormatError, CanTransmit, FdTransmit, XlTransmit, Confirm, ArbitrationLost, BusError, Configuration, Status, Wakeup}
use Rattle.decoder.specs.Stream.{Item, operation, fault}
use Rattle.decoder.proofs.Found.{found}
use Rattle.operation.specs.Kinds.{is_transmit, id_of}
use Rattle.plain_bus.specs.Held.{Frame, Node, Bus, max_pending, queue_capacity, last_round, bus_off, is_off, with_queue, new_node, attached, node_at, with_node, with_nodes, each_node, has_room, all_have_room, enqueue}
use Rattle.plain_bus.specs.Refusal.{Refusal, four_pending, queue_full}
use Rattle.plain_bus.specs.Submit.{done, fails, accept, take_transmit, wakeup_for, wake, take_wakeup, format_error, answer_format_error, unanswered, take_item, take_items}
use Rattle.plain_bus.specs.Order.{Entry, Pending, wins, winner}
use Rattle.plain_bus.specs.Round.{Injection, no_error, injected, owed, settle, after_round}
use Rattle.plain_bus.specs.Calls.{wrong_injection}
use Rattle.plain_bus.proofs.ValidBus.{ReadsWhole, ValidFrame, Valid}
use Rattle.plain_bus.specs.Register.{Register, Update, updated, open_id, enter_item, read}
use Rattle.plain_bus.proofs.Codec.{reads-format_error, reads-wakeup}
use Rattle.plain_bus.proofs.Whole.{ValidItem}
use Rattle.plain_bus.proofs.Nodes.{length-each, each_at, room_at}
use Rattle.plain_bus.proofs.Winner.{winner-pending}
use Rattle.plain_bus.proofs.Validity.{pending-valid}
use Rattle.plain_bus.proofs.Changes.{LegalInjection, Own, Change, still, ignored, joined, configured, status_set, answered, settled, collected}

-- a step from b to b' of a call of node k: the round number after it, whether it clears node k, and what the call of node k's
-- register does
pub record Stepped (b b' : Bus) (k later : ℕ) (clears : Bool) (call : Register → Update) : Type 0 where
  pub size : length b'.nodes ≡ length b.nodes
  pub round : b'.round ≡ later
  pub bound : b.round ≤ last_round → later ≤ last_round
  pub own : Change b.round later clears call (node_at b k) (node_at b' k)
  pub others : (j : ℕ) → j < length b.nodes → (j ≡ k → ⊥)
      → Change b.round later false updated (node_at b j) (node_at b' j)

pub bus_of : {b b' : Bus} → done b ≡ done b' → b ≡ b'
bus_of e = cc

pub never : {P : Type 0} {r : Refusal} {b : Bus} → fails r ≡ done b → P
never e = let z : ◌≡◌ {A = ℕ} 0 1 = cc in absurd (omega arith)

-- the bus of a step that is done
moved : {b b' b'' : Bus} {k later : ℕ} {clears : Bool} {call : Register → Update} → done b' ≡ done b''
    → Stepped b b' k later clears call
    → Stepped b b'' k later clears call
moved {b} {k = k} {later = later} {clears = clears} {call = call} e s =
    subst (λ (y : Bus). Stepped b y k later clears call) (bus_of e) s

-- what failed stays failed
pub fails-stay : (k : ℕ) (is : List Item) (r : Refusal) → take_items k is (fails r) ≡ fails r
unfolding take_items
fails-stay k [] r = refl
fails-stay k (i ∷ is) r = refl

-- an item that is a Status Bus-Off
abbrev pub turns_off : Item → Bool
turns_off (operation (FormatError n) bytes) = false
turns_off (operation (CanTransmit id ide rtr dl) bytes) = false
turns_off (operation (FdTransmit id ide brs esi dl) bytes) = false
turns_off (operation (XlTransmit id ide sec sdt vcid af dl) bytes) = false
turns_off (operation (Confirm id) bytes) = false
turns_off (operation (ArbitrationLost id) bytes) = false
turns_off (operation (BusError id code flag sender) bytes) = false
turns_off (operation (Configuration kind value) bytes) = false
turns_off (operation (Status status) bytes) = eqb status bus_off
turns_off (operation Wakeup bytes) = false
turns_off (fault number bytes) = false

-- ---- a step of a submitted buffer

module _ (b : Bus) (k : ℕ) (h : k < length b.nodes) where
  -- only node k is changed
  node_step : {clears : Bool} {call : Register → Update} (d' : Node)
      → Change b.round b.round clears call (node_at b k) d'
      → Stepped b (with_node b k d') k b.round clears call
  node_step d' c = record {
    size = length-set b.nodes k d';
    round = refl;
    bound = λ l. l;
    own = rw (get_or-set_same b.nodes k d' new_node h) c;
    others = λ j l n. rw (get_or-set_other b.nodes k j d' new_node n) still;
  }

  same_step : {call : Register → Update} → Change b.round b.round false call (node_at b k) (node_at b k)
      → Stepped b b k b.round false call
  same_step c = record { size = refl; round = refl; bound = λ l. l; own = c; others = λ j l n. still }

  transmit_step : (op : Operation) (bytes : List ℕ) {b' : Bus} → is_transmit op ≡ true → ReadsWhole op bytes
      → take_transmit b k op bytes ≡ done b'
      → Stepped b b' k b.round false (λ x. open_id x (id_of op))
  unfolding take_transmit
  transmit_step op bytes {b'} t r e = go (is_off (node_at b k)) refl (leb max_pending (length (node_at b k).pending)) refl e
    where
      f : Frame
      f = record { op = op; bytes = bytes; accepted = b.round }

      go : (o : Bool) → is_off (node_at b k) ≡ o → (p : Bool) → leb max_pending (length (node_at b k).pending) ≡ p
          → cond o (done b) (cond p (fails four_pending) (done (with_node b k (accept (node_at b k) f)))) ≡ done b'
          → Stepped b b' k b.round false (λ x. open_id x (id_of op))
      go true qo p qp e = moved e (same_step (ignored (id_of op) qo))
      go false qo true qp e = never e
      go false qo false qp e =
          let few = leb-false max_pending (length (node_at b k).pending) qp in
          moved e (node_step _ (joined f qo few (record { transmit = t; reads = r }) refl))

  -- the bytes of a Format Error are more than those that it answers
  answer_long : (bytes : List ℕ) → length bytes ≤ length (format_error bytes)
  unfolding encode
  answer_long bytes = rw length-append (omega arith)

  answer_step : (bytes : List ℕ) {b' : Bus} → answer_format_error b k bytes ≡ done b'
      → Stepped b b' k b.round false updated
  unfolding answer_format_error
  answer_step bytes {b'} e = go (has_room (node_at b k) (format_error bytes)) refl e
    where
      go : (t : Bool) → has_room (node_at b k) (format_error bytes) ≡ t
          → cond t (done (with_node b k (enqueue (node_at b k) (format_error bytes)))) (fails queue_full) ≡ done b'
          → Stepped b b' k b.round false updated
      go false q e = never e
      go true q e =
          let room = leb-true (length (node_at b k).queue + length (format_error bytes)) queue_capacity q in
          let small : length bytes < 65_536 = omega (arith, answer_long bytes) in
          moved e
          (node_step _ (answered (FormatError (length bytes)) (format_error bytes) (reads-format_error bytes small) refl room))

  wakeup_change : (now j : ℕ) (d : Node) → length d.queue + length (wakeup_for k j d) ≤ queue_capacity
      → Change now now false updated d (wake k j d)
  wakeup_change now j d r = go (eqb j k || is_off d) r
    where
      go : (t : Bool) → length d.queue + length (cond t [] (encode Wakeup [])) ≤ queue_capacity
          → Change now now false updated d (enqueue d (cond t [] (encode Wakeup [])))
      go true r = subst (λ (q : List ℕ). Change now now false updated d (with_queue d q)) (sym (append-nil d.queue)) still
      go false r = answered Wakeup (encode Wakeup []) reads-wakeup refl r

  wakeup_step : {b' : Bus} → take_wakeup b k ≡ done b' → Stepped b b' k b.round false updated
  unfolding take_wakeup
  wakeup_step {b'} e = go (is_off (node_at b k)) (all_have_room (wakeup_for k) b) refl e
    where
      at : all_have_room (wakeup_for k) b ≡ true → (j : ℕ) → j < length b.nodes
          → Change b.round b.round false updated (node_at b j) (get_or (each_node (wake k) 0 b.nodes) j new_node)
      at q j l =
          rw (each_at (wake k) b.nodes j l) (wakeup_change b.round j (node_at b j) (room_at (wakeup_for k) b q j l))

      go : (o t : Bool) → all_have_room (wakeup_for k) b ≡ t
          → cond o (done b) (cond t (done (with_nodes b (each_node (wake k) 0 b.nodes))) (fails queue_full)) ≡ done b'
          → Stepped b b' k b.round false updated
      go true t q e = moved e (same_step still)
      go false false q e = never e
      go false true q e = moved e (record {
        size = length-each (wake k) 0 b.nodes;
        round = refl;
        bound = λ l. l;
        own = at q k h;
        others = λ j l n. at q j l;
      })

  -- one item of a buffer, and its entry into the register
  pub item_step_lem : (i : Item) {b' : Bus} → ValidItem i → take_item b k i ≡ done b'
      → Stepped b b' k b.round (turns_off i) (λ x. enter_item x i)
  unfolding take_item enter_item
  item_step_lem (operation (FormatError n) bytes) v e = moved e (same_step still)
  item_step_lem (operation (CanTransmit id ide rtr dl) bytes) v e = transmit_step (CanTransmit id ide rtr dl) bytes refl v e
  item_step_lem (operation (FdTransmit id ide brs esi dl) bytes) v e = transmit_step (FdTransmit id ide brs esi dl) bytes refl v e
  item_step_lem (operation (XlTransmit id ide sec sdt vcid af dl) bytes) v e =
      transmit_step (XlTransmit id ide sec sdt vcid af dl) bytes refl v e
  item_step_lem (operation (Confirm id) bytes) v e = answer_step bytes e
  item_step_lem (operation (ArbitrationLost id) bytes) v e = answer_step bytes e
  item_step_lem (operation (BusError id code flag sender) bytes) v e = answer_step bytes e
  item_step_lem (operation (Configuration kind value) bytes) v e =
      moved e (node_step _ (configured kind value (found v).lawful))
  item_step_lem (operation (Status status) bytes) v e = moved e (node_step _ (status_set status (found v).lawful))
  item_step_lem (operation Wakeup bytes) v e = wakeup_step e
  item_step_lem (fault number bytes) v e = go (unanswered bytes) e
    where
      go : {b' : Bus} (t : Bool) → cond t (done b) (answer_format_error b k bytes) ≡ done b'
          → Stepped b b' k b.round false updated
      go true e = moved e (same_step still)
      go false e = answer_step bytes e

  -- a collect, and its reading into the register
  pub collect_step : Stepped b (with_node b k (with_queue (node_at b k) [])) k b.round false (λ x. read x (node_at b k).queue)
  collect_step = node_step (with_queue (node_at b k) []) collected

-- ---- a round that is carried out

pub injection_legal : (b : Bus) (e : Injection) → wrong_injection b e ≡ false → LegalInjection e
unfolding wrong_injection
injection_legal b no_error q = tt
injection_legal b (injected code detector) q = go (one_of code error_codes) refl q
  where
    go : (t : Bool) → one_of code error_codes ≡ t
        → (not t || not (attached b detector) || is_off (node_at b detector)) ≡ false → one_of code error_codes ≡ true
    go true e q = e
    go false e q = let z : ◌≡◌ {A = ℕ} 0 1 = cc in absurd (omega arith)

pub round_step : (b : Bus) (e : Injection) (w : Entry) → Valid b → wrong_injection b e ≡ false → winner b ≡ wins w
    → all_have_room (owed e w) b ≡ true → b.round < last_round
    → Stepped b (after_round e w b) w.owner (b.round + 1) false updated
unfolding after_round
round_step b e w v l q room last = record {
  size = length-each (settle e w) 0 b.nodes;
  round = refl;
  bound = λ h. omega arith;
  own = at w.owner s.attached;
  others = λ j h n. at j h;
}
  where
    s : Pending b w
    s = winner-pending b w q

    f : ValidFrame w.frame
    f = (pending-valid b w v s).0

    own : (j : ℕ) → eqb j w.owner ≡ true → Own w (node_at b j)
    own j e = let o : j ≡ w.owner = eqb-true j w.owner e in rw o (record { placed = s.placed; held = s.held })

    at : (j : ℕ) → j < length b.nodes
        → Change b.round (b.round + 1) false updated (node_at b j) (get_or (each_node (settle e w) 0 b.nodes) j new_node)
    at j h =
        rw (each_at (settle e w) b.nodes j h)
        (settled e w j (injection_legal b e l) f (own j) (room_at (owed e w) b room j h))
