-- Each change of a node keeps it valid, and keeps its queue a sequence of whole operations.
-- Assumes nothing.
use mathlib.Core.Path.{◌≡◌, refl, sym, ◌∙◌, subst}
use Prim.Native.Nat.{ℕ, zero, suc, ◌+◌, ◌-◌, ◌≤◌, ◌<◌}
use native.Mathlib.Omega.{arith}
use mathlib.Core.Bool.{Bool, true, false, cond}
use mathlib.Core.List.{List, [], ◌∷◌, ◌++◌}
use lib.Dec.{leb, eqb}
use lib.ListN.{length, get_or, set, length-append, length-set}
use borrow.Author.Tests.{leb-true}
use Rattle.operation.specs.Rules.{one_of, setting_rule, rules, legal, statuses, behaviours}
use Rattle.operation.proofs.Tests.{false_is_true, passed}
use Rattle.operation.specs.declared.Operation.TheVariants.{Configuration, Status}
use Rattle.decoder.proofs.Found.{found}
use Rattle.plain_bus.specs.Held.{Frame, Node, Bus, max_pending, queue_capacity, bus_off, is_off, discards, with_status, with_behaviour, with_rates, with_pending, with_queue, node_at, enqueue}
use Rattle.plain_bus.specs.Submit.{cleared, configure, set_status}
use Rattle.plain_bus.specs.Order.{Entry, Pending}
use Rattle.plain_bus.specs.Round.{without, losers, told, stay, owed, settle}
use Rattle.plain_bus.specs.Register.{Register, Update}
use Rattle.plain_bus.proofs.ValidBus.{ValidFrame, ValidFrames, NonZero, ValidNode, Valid}
use Rattle.plain_bus.proofs.Changes.{Change, still, ignored, joined, configured, status_set, answered, settled, collected}

-- ---- pending frames

frames_join : (low now : ℕ) (fs : List Frame) (f : Frame) → low ≤ now → f.accepted ≡ now → ValidFrame f
    → ValidFrames low now fs → ValidFrames low now (fs ++ f ∷ [])
frames_join low now [] f l e v a = (v, omega arith, omega arith, tt)
frames_join low now (g ∷ fs) f l e v a = (a.0, a.1, a.2, frames_join g.accepted now fs f a.2 e v a.3)

frames_later : (low now later : ℕ) (fs : List Frame) → now ≤ later → ValidFrames low now fs → ValidFrames low later fs
frames_later low now later [] h a = tt
frames_later low now later (f ∷ fs) h a = (a.0, a.1, omega (arith, a.2), frames_later f.accepted now later fs h a.3)

frames_lower : (low low' now : ℕ) (fs : List Frame) → low ≤ low' → ValidFrames low' now fs → ValidFrames low now fs
frames_lower low low' now [] h a = tt
frames_lower low low' now (f ∷ fs) h a = (a.0, omega (arith, a.1), a.2, a.3)

frames-without : (low now i : ℕ) (fs : List Frame) → ValidFrames low now fs → ValidFrames low now (without i fs)
unfolding without
frames-without low now i [] a = tt
frames-without low now zero (f ∷ fs) a = frames_lower low f.accepted now fs a.1 a.3
frames-without low now (suc i) (f ∷ fs) a = (a.0, a.1, a.2, frames-without f.accepted now i fs a.3)

pub length_without : (i : ℕ) (fs : List Frame) → length (without i fs) ≤ length fs
unfolding without
length_without i [] = omega arith
length_without zero (f ∷ fs) = omega arith
length_without (suc i) (f ∷ fs) = omega (arith, length_without i fs)

frame_at : (low now i : ℕ) (fs : List Frame) (f : Frame) → ValidFrames low now fs → i < length fs → get_or fs i f ≡ f
    → ValidFrame f × (f.accepted ≤ now)
frame_at low now i [] f v h e = absurd (omega arith)
frame_at low now zero (g ∷ fs) f v h e = subst (λ (x : Frame). ValidFrame x × (x.accepted ≤ now)) e (v.0, v.2)
frame_at low now (suc i) (g ∷ fs) f v h e = frame_at g.accepted now i fs f v.3 (omega arith) e

-- a valid frame meets the content rules
pub frame-legal : (f : Frame) → ValidFrame f → legal f.op ≡ true
frame-legal f v = (found v.reads).lawful

-- a pending frame of a valid bus is valid, and was accepted at a round not above the present one
pub pending-valid : (b : Bus) (w : Entry) → Valid b → Pending b w
    → ValidFrame w.frame × (w.frame.accepted ≤ b.round)
pending-valid b w v p =
    frame_at 0 b.round w.position (node_at b w.owner).pending w.frame (v.each w.owner p.attached).frames
    p.placed p.held

-- ---- settings

non_zero-set : (l : List ℕ) (i x : ℕ) → 1 ≤ x → NonZero l → NonZero (set l i x)
non_zero-set [] i x h a = tt
non_zero-set (y ∷ l) zero x h a = (h, a.1)
non_zero-set (y ∷ l) (suc i) x h a = (a.0, non_zero-set l i x h a.1)

setting-legal : (kind value : ℕ) → legal (Configuration kind value) ≡ true → setting_rule kind value ≡ true
unfolding legal rules
setting-legal kind value e = passed _ e 2

status-legal : (status : ℕ) → legal (Status status) ≡ true → one_of status statuses ≡ true
unfolding legal rules
status-legal status e = passed _ e 0

-- ---- each setter

module _ {now : ℕ} {d : Node} (v : ValidNode now d) where
  valid-status : (x : ℕ) → one_of x statuses ≡ true → (eqb x bus_off ≡ true → d.pending ≡ [])
      → ValidNode now (with_status d x)
  valid-status x e s = record {
    status = e;
    behaviour = v.behaviour;
    three = v.three;
    rates = v.rates;
    room = v.room;
    few = v.few;
    silent = s;
    frames = v.frames;
  }

  valid-behaviour : (x : ℕ) → one_of x behaviours ≡ true → ValidNode now (with_behaviour d x)
  valid-behaviour x e = record {
    status = v.status;
    behaviour = e;
    three = v.three;
    rates = v.rates;
    room = v.room;
    few = v.few;
    silent = v.silent;
    frames = v.frames;
  }

  valid-rates : (x : List ℕ) → length x ≡ 3 → NonZero x → ValidNode now (with_rates d x)
  valid-rates x l e = record {
    status = v.status;
    behaviour = v.behaviour;
    three = l;
    rates = e;
    room = v.room;
    few = v.few;
    silent = v.silent;
    frames = v.frames;
  }

  valid-pending : (later : ℕ) (x : List Frame) → length x ≤ max_pending → (is_off d ≡ true → x ≡ [])
      → ValidFrames 0 later x → ValidNode later (with_pending d x)
  valid-pending later x l s e = record {
    status = v.status;
    behaviour = v.behaviour;
    three = v.three;
    rates = v.rates;
    room = v.room;
    few = l;
    silent = s;
    frames = e;
  }

  valid-queue : (x : List ℕ) → length x ≤ queue_capacity → ValidNode now (with_queue d x)
  valid-queue x l = record {
    status = v.status;
    behaviour = v.behaviour;
    three = v.three;
    rates = v.rates;
    room = l;
    few = v.few;
    silent = v.silent;
    frames = v.frames;
  }

  valid-enqueue : (x : List ℕ) → length d.queue + length x ≤ queue_capacity → ValidNode now (enqueue d x)
  valid-enqueue x l = valid-queue (d.queue ++ x) (rw length-append l)

-- ---- each change

configured-valid : (now : ℕ) (d : Node) (kind value : ℕ) → legal (Configuration kind value) ≡ true → ValidNode now d
    → ValidNode now (configure d kind value)
unfolding configure
configured-valid now d kind value l v = go (eqb kind 4) (setting-legal kind value l)
  where
    go : (t : Bool) → cond t (one_of value behaviours) (leb 1 value) ≡ true
        → ValidNode now (cond t (with_behaviour d value) (with_rates d (set d.rates (kind - 1) value)))
    go true e = valid-behaviour v value e
    go false e =
        valid-rates v _ (length-set d.rates (kind - 1) value ∙ v.three)
        (non_zero-set d.rates (kind - 1) value (leb-true 1 value e) v.rates)

cleared-valid : {now : ℕ} {d : Node} → ValidNode now d → ValidNode now (cleared d)
cleared-valid v = record {
  status = v.status;
  behaviour = v.behaviour;
  three = v.three;
  rates = v.rates;
  room = omega (arith, v.room);
  few = omega arith;
  silent = λ q. refl;
  frames = tt;
}

status-valid : (now : ℕ) (d : Node) (status : ℕ) → legal (Status status) ≡ true → ValidNode now d
    → ValidNode now (set_status d status)
unfolding set_status
status-valid now d status l v = go (eqb status bus_off) refl
  where
    go : (t : Bool) → eqb status bus_off ≡ t → ValidNode now (with_status (cond t (cleared d) d) status)
    go true e = valid-status (cleared-valid v) status (status-legal status l) (λ q. refl)
    go false e = valid-status v status (status-legal status l) (λ q. false_is_true (sym e ∙ q))

-- frames that a node may have pending
record Holds (now : ℕ) (d : Node) (fs : List Frame) : Type 0 where
  few : length fs ≤ max_pending
  silent : is_off d ≡ true → fs ≡ []
  frames : ValidFrames 0 now fs

holds-none : (now : ℕ) (d : Node) → Holds now d []
holds-none now d = record { few = omega arith; silent = λ q. refl; frames = tt }

losers-valid : (now : ℕ) (d : Node) (w : Entry) (j : ℕ) → ValidNode now d → Holds now d (losers w j d)
unfolding losers without
losers-valid now d w j v = go (eqb j w.owner)
  where
    go : (u : Bool) → Holds now d (cond u (without w.position d.pending) d.pending)
    go true =
        record {
          few = omega (arith, length_without w.position d.pending, v.few);
          silent = λ q. rw (v.silent q);
          frames = frames-without 0 now w.position d.pending v.frames;
        }
    go false = record { few = v.few; silent = v.silent; frames = v.frames }

-- the frames that stay pending after a round, and those that are told
stay-valid : (now : ℕ) (d : Node) (w : Entry) (j : ℕ) → ValidNode now d → Holds now d (stay w j d)
unfolding stay
stay-valid now d w j v = go (discards d)
  where
    go : (t : Bool) → Holds now d (cond t [] (losers w j d))
    go true = holds-none now d
    go false = losers-valid now d w j v

pub told-valid : (now : ℕ) (d : Node) (w : Entry) (j : ℕ) → ValidNode now d → ValidFrames 0 now (told w j d)
unfolding told
told-valid now d w j v = go (discards d)
  where
    go : (t : Bool) → ValidFrames 0 now (cond t (losers w j d) [])
    go true = (losers-valid now d w j v).frames
    go false = tt

-- every change keeps a node valid
pub change_valid : {now later : ℕ} {clears : Bool} {call : Register → Update} {d d' : Node}
    → Change now later clears call d d' → ValidNode now d → ValidNode later d'
unfolding settle
change_valid still v = v
change_valid (ignored id o) v = v
change_valid {now} {d = d} (joined f on few vf e) v =
    valid-pending v now (d.pending ++ f ∷ []) (rw length-append (omega arith)) (λ q. false_is_true (sym on ∙ q))
    (frames_join 0 now d.pending f (omega arith) e vf v.frames)
change_valid {now} {d = d} (configured kind value l) v = configured-valid now d kind value l v
change_valid {now} {d = d} (status_set status l) v = status-valid now d status l v
change_valid (answered op bytes r c room) v = valid-enqueue v bytes room
change_valid {now} {d = d} (settled e w j l vf own room) v =
    let s = stay-valid now d w j v in
    let later = frames_later 0 now (now + 1) (stay w j d) (omega arith) s.frames in
    valid-enqueue (valid-pending v (now + 1) (stay w j d) s.few s.silent later) (owed e w j d) room
change_valid collected v = valid-queue v [] (omega arith)
