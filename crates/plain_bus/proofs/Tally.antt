-- What holds between a node and its register, and that each change keeps it: the open IDs, counted by any test, are those of
-- the pending frames and of the closing operations in the queue. The test "equals an ID" gives demand 3's count; the tests
-- "any" and "above the largest ID" show the register valid.
-- Assumes nothing.
use mathlib.Core.Path.{◌≡◌, refl, sym, ap, ◌∙◌}
use Prim.Native.Nat.{ℕ, zero, suc, ◌+◌, ◌-◌, ◌≤◌, ◌<◌}
use native.Mathlib.Omega.{arith}
use mathlib.Core.Bool.{Bool, true, false, cond, not, ◌||◌}
use mathlib.Core.List.{List, [], ◌∷◌, ◌++◌}
use lib.Dec.{leb, eqb}
use lib.ListN.{length, get_or, set}
use borrow.Author.Tests.{le-leb, lt-leb, eq-eqb}
use Rattle.operation.specs.Rules.{max_extended_id}
use Rattle.operation.proofs.Tests.{false_is_true}
use Rattle.decoder.specs.Stream.{Item, operation, fault, items_of}
use Rattle.operation.specs.Kinds.{id_of}
use Rattle.plain_bus.specs.Closing.{closes}
use Rattle.plain_bus.specs.Held.{Frame, Node, max_pending, bus_off, is_off, discards, with_status, with_behaviour, with_rates, with_pending, with_queue, enqueue}
use Rattle.plain_bus.specs.Submit.{accept, cleared, configure, set_status}
use Rattle.plain_bus.specs.Order.{Entry}
use Rattle.plain_bus.specs.Round.{winner_id, without, losers, told, stay, owed, settle}
use Rattle.plain_bus.proofs.ValidBus.{ValidFrames, ValidNode, Whole}
use Rattle.plain_bus.specs.Register.{Register, max_open, with_opened, valid_register, Update, updated, updates, open_id, with_off, note_status, is_open, remove, close_id, read_item, read}
use Rattle.plain_bus.specs.Session.{count, pending_ids, closing_ids}
use Rattle.plain_bus.proofs.Counts.{count-append, count-all, count_none, count-remove, open_counted, none_above_lem}
use Rattle.plain_bus.proofs.Whole.{ValidItems, items-nil, items-append, items-valid, whole_append, whole-nil, closing-append, closings-short}
use Rattle.plain_bus.proofs.Owed.{read-id, Says, says_one, says_owed}
use Rattle.plain_bus.proofs.Changes.{Own, Change, still, ignored, joined, configured, status_set, answered, settled, collected}
use Rattle.plain_bus.proofs.Validity.{told-valid}

abbrev pub closings : Node → List ℕ
closings d = closing_ids (items_of d.queue)

pub record Tally (d : Node) (x : Register) : Type 0 where
  pub counts : (p : ℕ → Bool) → count p x.opened ≡ count p (pending_ids d.pending) + count p (closings d)
  pub flag : x.off ≡ is_off d
  pub shut : x.off ≡ true → x.opened ≡ []

-- ---- the register is valid

length-pending : (fs : List Frame) → length (pending_ids fs) ≡ length fs
unfolding pending_ids
length-pending [] = refl
length-pending (f ∷ fs) = ap suc (length-pending fs)

-- so many are open
open_length : {d : Node} {x : Register} → Tally d x → length x.opened ≡ length d.pending + length (closings d)
open_length {d} {x} t =
    let a = count-all x.opened in
    let b = count-all (pending_ids d.pending) in
    let c = count-all (closings d) in
    omega (arith, t.counts (λ y. true), length-pending d.pending)

few-closings : {now : ℕ} {d : Node} → ValidNode now d → length (closings d) ≤ 341
few-closings {now} {d} v = omega (arith, closings-short d.queue, v.room)

abbrev too_high : ℕ → Bool
too_high id = not (leb id max_extended_id)

pending-low : (low now : ℕ) (fs : List Frame) → ValidFrames low now fs → count too_high (pending_ids fs) ≡ 0
unfolding count pending_ids
pending-low low now [] v = refl
pending-low low now (f ∷ fs) v =
    rw (le-leb (id_of f.op) max_extended_id (read-id f.bytes v.0.reads), pending-low f.accepted now fs v.3)

closings-low : (is : List Item) → ValidItems is → count too_high (closing_ids is) ≡ 0
unfolding count closing_ids
closings-low [] v = refl
closings-low (fault number bytes ∷ is) v = closings-low is v.1
closings-low (operation op bytes ∷ is) v = go (closes op) (closings-low is v.1)
  where
    go : (t : Bool) → count too_high (closing_ids is) ≡ 0
        → count too_high (cond t (id_of op ∷ closing_ids is) (closing_ids is)) ≡ 0
    go true e = rw (le-leb (id_of op) max_extended_id (read-id bytes v.0), e)
    go false e = e

pub register-valid : {now : ℕ} {d : Node} {x : Register} → ValidNode now d → Tally d x → valid_register x ≡ true
unfolding valid_register
register-valid {now} {d} {x} v t =
    let few : length x.opened ≤ max_open = omega (arith, open_length t, few-closings v, v.few) in
    let p = pending-low 0 now d.pending v.frames in
    let q = closings-low (items_of d.queue) (items-valid d.queue) in
    let low = none_above_lem max_extended_id x.opened (t.counts too_high ∙ rw (p, q)) in
    rw (le-leb (length x.opened) max_open few, low) (go x.off t.shut)
  where
    go : (o : Bool) → (o ≡ true → x.opened ≡ []) → (not o || eqb (length x.opened) 0) ≡ true
    go true f = rw (f refl)
    go false f = refl

-- ---- each change

-- what a change comes to: the register call is done, and the register tallies with the node after it
abbrev pub Tallied : (Register → Update) → Node → Register → Type 0
Tallied call d x = (x' : Register) × (call x ≡ updated x') × Tally d x'

pending_join : (p : ℕ → Bool) (fs : List Frame) (f : Frame)
    → count p (pending_ids (fs ++ f ∷ [])) ≡ count p (pending_ids fs) + count p (id_of f.op ∷ [])
unfolding pending_ids count
pending_join p [] f = omega arith
pending_join p (g ∷ fs) f = let h = pending_join p fs f in omega arith

joined_tally : {now : ℕ} {d : Node} {x : Register} (f : Frame) → is_off d ≡ false → length d.pending < max_pending
    → ValidNode now d → Tally d x
    → Tallied (λ y. open_id y (id_of f.op)) (accept d f) x
unfolding open_id
joined_tally {now} {d} {x} f on few v t =
    let off : x.off ≡ false = t.flag ∙ on in
    let id = id_of f.op in
    let room : length x.opened < max_open = omega (arith, open_length t, few-closings v) in (
      with_opened x (x.opened ++ id ∷ []),
      rw (off, lt-leb max_open (length x.opened) room),
      record {
        counts = λ p. omega (arith, t.counts p, count-append p x.opened (id ∷ []), pending_join p d.pending f);
        flag = t.flag;
        shut = λ e. false_is_true (sym off ∙ e);
      },
    )

configured_tally : {d : Node} {x : Register} (kind value : ℕ) → Tally d x → Tally (configure d kind value) x
unfolding configure
configured_tally {d} {x} kind value t = go (eqb kind 4)
  where
    go : (b : Bool) → Tally (cond b (with_behaviour d value) (with_rates d (set d.rates (kind - 1) value))) x
    go true = record { counts = t.counts; flag = t.flag; shut = t.shut }
    go false = record { counts = t.counts; flag = t.flag; shut = t.shut }

status_tally : {d : Node} {x : Register} (status : ℕ) → Tally d x → Tally (set_status d status) (note_status x status)
unfolding set_status note_status with_off count pending_ids closing_ids
status_tally {d} {x} status t = go (eqb status bus_off) refl
  where
    go : (b : Bool) → eqb status bus_off ≡ b → Tally (with_status (cond b (cleared d) d) status) (with_off x b)
    go true e = record { counts = λ p. rw items-nil; flag = sym e; shut = λ q. refl }
    go false e = record { counts = t.counts; flag = sym e; shut = λ q. false_is_true q }

-- operations are added to the queue, and the IDs that they close are no longer pending
queued_tally : {d : Node} {x : Register} (fs : List Frame) (bytes ids : List ℕ) → Whole d.queue → Says bytes ids
    → ((p : ℕ → Bool) → count p (pending_ids d.pending) ≡ count p (pending_ids fs) + count p ids)
    → Tally d x → Tally (enqueue (with_pending d fs) bytes) x
queued_tally {d} {x} fs bytes ids w s h t =
    record {
      counts = λ p.
          rw (items-append d.queue bytes w, closing-append, s.closing)
          (omega (arith, t.counts p, h p, count-append p (closings d) ids));
      flag = t.flag;
      shut = t.shut;
    }

count-without : (p : ℕ → Bool) (i : ℕ) (fs : List Frame) (f : Frame) → i < length fs → get_or fs i f ≡ f
    → count p (pending_ids fs) ≡ count p (id_of f.op ∷ []) + count p (pending_ids (without i fs))
unfolding count pending_ids without
count-without p i [] f h e = absurd (omega arith)
count-without p zero (g ∷ fs) f h e = rw e (omega arith)
count-without p (suc i) (g ∷ fs) f h e = let r = count-without p i fs f (omega arith) e in omega arith

-- the winner, the frames that are told and those that stay are all that was pending
round_splits : (p : ℕ → Bool) (w : Entry) (j : ℕ) (d : Node) → (eqb j w.owner ≡ true → Own w d)
    → count p (pending_ids d.pending)
    ≡ count p (pending_ids (stay w j d)) + count p (cond (eqb j w.owner) (winner_id w ∷ []) [] ++ pending_ids (told w j d))
unfolding stay told losers pending_ids count
round_splits p w j d own = go (eqb j w.owner) (discards d) own
  where
    removed : Own w d
        → count p (pending_ids d.pending) ≡ count p (winner_id w ∷ []) + count p (pending_ids (without w.position d.pending))
    removed o = count-without p w.position d.pending w.frame o.placed o.held

    go : (u t : Bool) → (u ≡ true → Own w d)
        → let l = cond u (without w.position d.pending) d.pending in
        count p (pending_ids d.pending)
        ≡ count p (pending_ids (cond t [] l)) + count p (cond u (winner_id w ∷ []) [] ++ pending_ids (cond t l []))
    go true true own = let r = removed (own refl) in omega arith
    go true false own = let r = removed (own refl) in omega arith
    go false true own = omega arith
    go false false own = omega arith

-- a node with a pending frame is not Bus-Off
pending_on : {now : ℕ} {d : Node} → ValidNode now d → 0 < length d.pending → is_off d ≡ false
pending_on {now} {d} v h = go (is_off d) refl
  where
    go : (t : Bool) → is_off d ≡ t → is_off d ≡ false
    go true e = absurd (omega (arith, ap length (v.silent e)))
    go false e = e

-- a reading that is done, and leaves open what the test counts as `rest`
record Reads (u : Update) (rest : (ℕ → Bool) → ℕ) (off : Bool) : Type 0 where
  register : Register
  done : u ≡ updated register
  left : (p : ℕ → Bool) → count p register.opened ≡ rest p
  same : register.off ≡ off

-- reading takes out exactly the IDs that the items close
read_all : (is : List Item) (x : Register) (rest : (ℕ → Bool) → ℕ)
    → ((p : ℕ → Bool) → count p x.opened ≡ rest p + count p (closing_ids is)) → Reads (updates read_item is (updated x)) rest x.off
unfolding updates read_item closing_ids count close_id
read_all [] x rest h = record { register = x; done = refl; left = λ p. omega (arith, h p); same = refl }
read_all (fault number bytes ∷ is) x rest h = read_all is x rest h
read_all (operation op bytes ∷ is) x rest h = go (closes op) h (λ y g. read_all is y rest g)
  where
    id : ℕ
    id = id_of op

    Rest : Register → Type 0
    Rest y =
        ((p : ℕ → Bool) → count p y.opened ≡ rest p + count p (closing_ids is))
        → Reads (updates read_item is (updated y)) rest y.off

    go : (t : Bool)
        → ((p : ℕ → Bool) → count p x.opened ≡ rest p + count p (cond t (id ∷ closing_ids is) (closing_ids is)))
        → ((y : Register) → Rest y) → Reads (updates read_item is (cond t (close_id x id) (updated x))) rest x.off
    go true h r =
        let one : ◌≡◌ {A = ℕ} (cond (eqb id id) 1 0) 1 = rw (eq-eqb id id refl) in
        let here : is_open id x.opened ≡ true = open_counted id x.opened (omega (arith, h (λ y. eqb y id))) in
        rw here (r (with_opened x (remove id x.opened)) (λ p. omega (arith, h p, count-remove p id x.opened here)))
    go false h r = r x h

collected_tally : {now : ℕ} {d : Node} {x : Register} → ValidNode now d → Tally d x
    → Tallied (λ y. read y d.queue) (with_queue d []) x
unfolding read count closing_ids
collected_tally {now} {d} {x} v t =
    let r = read_all (items_of d.queue) x (λ p. count p (pending_ids d.pending)) t.counts in (
      r.register,
      rw (register-valid v t) r.done,
      record {
        counts = λ p. rw items-nil (omega (arith, r.left p));
        flag = r.same ∙ t.flag;
        shut = λ e.
            let none = ap (λ l. count (λ y. true) l) (t.shut (sym r.same ∙ e)) in
            count_none r.register.opened (omega (arith, r.left (λ y. true), t.counts (λ y. true)));
      },
    )

-- every change keeps the tally, its register call being done
pub change_tally : {now later : ℕ} {clears : Bool} {call : Register → Update} {d d' : Node} {x : Register}
    → Change now later clears call d d'
    → ValidNode now d → Whole d.queue → Tally d x → Tallied call d' x
unfolding settle open_id count
change_tally {x = x} still v w t = (x, refl, t)
change_tally {x = x} (ignored id off) v w t = (x, rw (t.flag, off), t)
change_tally (joined f on few vf e) v w t = joined_tally f on few v t
change_tally {x = x} (configured kind value l) v w t = (x, refl, configured_tally kind value t)
change_tally {x = x} (status_set status l) v w t = (note_status x status, refl, status_tally status t)
change_tally {d = d} {x = x} (answered op bytes r c room) v w t =
    (x, refl, queued_tally d.pending bytes [] w (rw c at (says_one r)) (λ p. omega arith) t)
change_tally {now} {d = d} {x = x} (settled e s j l vf own room) v w t =
    let on : eqb j s.owner ≡ true → is_off d ≡ false = λ q. pending_on v (omega (arith, (own q).placed)) in
    let says = says_owed e s j d 0 now l vf on (told-valid now d s j v) in
    (x, refl, queued_tally (stay s j d) (owed e s j d) _ w says (λ p. round_splits p s j d own) t)
change_tally collected v w t = collected_tally v t

-- every change keeps the queue a sequence of whole operations
pub change_whole : {now later : ℕ} {clears : Bool} {call : Register → Update} {d d' : Node}
    → Change now later clears call d d' → ValidNode now d → Whole d.queue → Whole d'.queue
unfolding settle configure set_status
change_whole still v w = w
change_whole (ignored id off) v w = w
change_whole (joined f on few vf e) v w = w
change_whole {d = d} (configured kind value l) v w = go (eqb kind 4)
  where
    go : (b : Bool) → Whole (cond b (with_behaviour d value) (with_rates d (set d.rates (kind - 1) value))).queue
    go true = w
    go false = w
change_whole {d = d} (status_set status l) v w = go (eqb status bus_off)
  where
    go : (b : Bool) → Whole (cond b (cleared d) d).queue
    go true = whole-nil
    go false = w
change_whole {d = d} (answered op bytes r c room) v w = whole_append d.queue bytes w (says_one r).whole
change_whole {now} {d = d} (settled e s j l vf own room) v w =
    let on : eqb j s.owner ≡ true → is_off d ≡ false = λ q. pending_on v (omega (arith, (own q).placed)) in
    whole_append d.queue (owed e s j d) w (says_owed e s j d 0 now l vf on (told-valid now d s j v)).whole
change_whole collected v w = whole-nil
