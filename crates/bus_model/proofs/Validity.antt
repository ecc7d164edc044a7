-- From the test to validity of the view, and back: with memory as its types and sizes say, the test passes exactly where the view is
-- valid, the fills are within the queues and the slots name their owners. `Good` has all of these, and every step of a call keeps it.
-- Assumes nothing.
use mathlib.Core.Path.{◌≡◌, refl, sym, ap, ◌∙◌}
use Prim.Native.Nat.{ℕ, zero, suc, ◌+◌, ◌*◌, ◌≤◌, ◌<◌}
use native.Mathlib.Omega.{arith}
use native.Mathlib.Nat.{add-zero}
use mathlib.Core.Bool.{true}
use mathlib.Core.List.{List, [], ◌∷◌}
use lib.Dec.{leb}
use lib.ListN.{length}
use borrow.Author.Tests.{leb-true, le-leb}
use Rattle.operation.specs.Format.{data_length}
use Rattle.operation.proofs.Sizes.{transmit-short}
use Rattle.operation.proofs.Tests.{both}
use Rattle.slots.specs.Slots.{content_of, legal_content}
use Rattle.plain_bus.specs.Held.{Node}
use Rattle.plain_bus.proofs.ValidBus.{ValidFrame, ValidFrames, NonZero, ValidNode, Valid}
use Rattle.plain_bus.proofs.Validity.{frame-legal}
use Rattle.bus_state.specs.Memory.{Memory, slot_at, operation_at, frame_at, frames_from, node_view, view}
use Rattle.bus_state.specs.Valid.{valid_slots, non_zero, valid_state}
use Rattle.bus_state.proofs.Validity.{slot_is, is_slot, slots_at, NodeIs, valid-count, valid_node_at, nodes-valid}
use Rattle.bus_model.specs.Primitives.{entry_at}
use Rattle.bus_model.specs.Refines.{TypedMemory}
use Rattle.buffers.proofs.Offsets.{length_part}
use Rattle.bus_model.proofs.Views.{Fits, length-frames, queue_filled}
use Rattle.bus_model.proofs.Buses.{view-length, view_at, view-round}
use Rattle.bus_model.proofs.Lawful.{slot-lawful, content-legal, lawful-reads}

-- the slots of node j's frames name it as their owner
abbrev pub Owned : Memory → ℕ → Type 0
Owned m j = (q : ℕ) → q < (entry_at m j).pending → (slot_at m (4 * j + q)).owner ≡ j

pub record Good (m : Memory) : Type 0 where
  pub typed : TypedMemory m
  pub valid : Valid (view m)
  pub fill : (j : ℕ) → j < m.state.count → (entry_at m j).fill ≤ 4_096
  pub owned : (j : ℕ) → j < m.state.count → Owned m j

-- ---- slots

module _ (m : Memory) (j now : ℕ) (t : TypedMemory m) where
  frame-valid : (p : ℕ) → p < 32 → legal_content (content_of (slot_at m p)) ≡ true → ValidFrame (frame_at m p)
  unfolding frame_at
  frame-valid p h l =
      let w = slot-lawful (slot_at m p) (t.fields p) l in
      record {
        transmit = w.transmit;
        reads = lawful-reads (operation_at m p) _ w (length_part (2_048 * p) (data_length (operation_at m p)) m.payload (omega (arith, w.short, t.sized.payload)));
      }

  slots-frames : (n p low : ℕ) → p + n ≤ 32 → valid_slots n p j low now m.slots ≡ true → ValidFrames low now (frames_from m p n)
  unfolding valid_slots frames_from frame_at
  slots-frames zero p low h e = tt
  slots-frames (suc n) p low h e =
      let a = both _ _ e in
      let s = slot_is j low now (slot_at m p) a.0 in
      (frame-valid p (omega arith) s.lawful, s.least, s.most, slots-frames n (suc p) (slot_at m p).accepted (omega arith) a.1)

  frames-slots : (n p low : ℕ) → ValidFrames low now (frames_from m p n) → ((i : ℕ) → i < n → (slot_at m (p + i)).owner ≡ j)
      → valid_slots n p j low now m.slots ≡ true
  unfolding valid_slots frames_from frame_at
  frames-slots zero p low v o = refl
  frames-slots (suc n) p low v o =
      let a =
      is_slot j low now (slot_at m p) (record {
        lawful = content-legal (content_of (slot_at m p)) v.0.transmit (frame-legal (frame_at m p) v.0);
        owner = rw add-zero at (o 0 (omega arith));
        least = v.1;
        most = v.2;
      }) in
      let b = frames-slots n (suc p) (slot_at m p).accepted v.3 (λ i h. next i (o (suc i) (omega arith))) in
      rw (a, b)
    where
      next : (i : ℕ) → (slot_at m (p + suc i)).owner ≡ j → (slot_at m (suc p + i)).owner ≡ j
      next i e = let q : p + suc i ≡ suc p + i = omega arith in rw q at e

frames-short : (m : Memory) (p n low now : ℕ) → ValidFrames low now (frames_from m p n) → (i : ℕ) → i < n
    → data_length (operation_at m (p + i)) ≤ 2_048
unfolding frames_from frame_at
frames-short m p zero low now v i h = absurd (omega arith)
frames-short m p (suc n) low now v zero h =
    rw add-zero (transmit-short (operation_at m p) v.0.transmit (frame-legal (frame_at m p) v.0))
frames-short m p (suc n) low now v (suc i) h =
    let q : suc p + i ≡ p + suc i = omega arith in
    rw q at (frames-short m (suc p) n (slot_at m p).accepted now v.3 i (omega arith))

-- ---- entries

non_zero_lem : (l : List ℕ) → non_zero l ≡ true → NonZero l
unfolding non_zero
non_zero_lem [] e = tt
non_zero_lem (x ∷ l) e = let a = both (leb 1 x) (non_zero l) e in (leb-true 1 x a.0, non_zero_lem l a.1)

zero_free : (l : List ℕ) → NonZero l → non_zero l ≡ true
unfolding non_zero
zero_free [] v = refl
zero_free (x ∷ l) v = rw (le-leb 1 x v.0) (zero_free l v.1)

-- ---- nodes

node_valid : (m : Memory) (j : ℕ) → TypedMemory m → j < 8 → NodeIs m.state m.slots j → ValidNode m.state.round (node_view m j)
unfolding node_view frames_from
node_valid m j t h v = record {
  status = v.entry.status;
  behaviour = v.entry.behaviour;
  three = t.rates j h;
  rates = non_zero_lem (entry_at m j).rates v.entry.rates;
  room =
      rw (length_part (4_096 * j) (entry_at m j).fill m.queues (omega (arith, v.entry.fill, t.sized.queues))) v.entry.fill;
  few = rw (length-frames m (4 * j) (entry_at m j).pending) v.entry.few;
  silent = λ q. ap (frames_from m (4 * j)) (v.entry.silent q);
  frames = slots-frames m j m.state.round t (entry_at m j).pending (4 * j) 0 (omega (arith, v.entry.few)) v.slots;
}

node_passes : (m : Memory) (j : ℕ) → TypedMemory m → (entry_at m j).fill ≤ 4_096 → Owned m j → ValidNode m.state.round (node_view m j)
    → NodeIs m.state m.slots j
unfolding node_view
node_passes m j t f o v = record {
  entry = record {
    status = v.status;
    behaviour = v.behaviour;
    rates = zero_free (entry_at m j).rates v.rates;
    fill = f;
    few = rw (length-frames m (4 * j) (entry_at m j).pending) at v.few;
    silent = λ q. sym (length-frames m (4 * j) (entry_at m j).pending) ∙ ap length (v.silent q);
  };
  slots = frames-slots m j m.state.round t (entry_at m j).pending (4 * j) 0 v.frames o;
}

-- ---- the whole

pub valid-good : (m : Memory) → TypedMemory m → valid_state m.state m.slots ≡ true → Good m
valid-good m t e =
    let at = valid_node_at m.state m.slots e in
    let count = valid-count m.state m.slots e in
    record {
      typed = t;
      valid = record {
        least = rw (view-length m) count.0;
        most = rw (view-length m) count.1;
        round = rw (view-round m) t.round;
        each = λ k h.
            let h' : k < m.state.count = rw (view-length m) at h in
            rw (view_at m k h', view-round m) (node_valid m k t (omega (arith, count.1)) (at k h'));
      };
      fill = λ j h. (at j h).entry.fill;
      owned = λ j h q l. (slots_at m.slots j m.state.round (entry_at m j).pending (4 * j) 0 (at j h).slots q l).owner;
    }

pub good-valid : (m : Memory) → Good m → valid_state m.state m.slots ≡ true
good-valid m g =
    nodes-valid m.state m.slots (rw (view-length m) at g.valid.least) (rw (view-length m) at g.valid.most) (λ j h.
    let v = g.valid.each j (rw (view-length m) h) in
    node_passes m j g.typed (g.fill j h) (g.owned j h) (rw (view_at m j h, view-round m) at v))

-- ---- one node, by number

pub fits_from : (m : Memory) (j now : ℕ) (d : Node) → node_view m j ≡ d → ValidNode now d → (entry_at m j).fill ≤ 4_096 → Fits m j
unfolding node_view
fits_from m j now d e v f =
    let w : ValidNode now (node_view m j) = rw e v in
    record {
      few = rw (length-frames m (4 * j) (entry_at m j).pending) at w.few;
      fill = f;
      short = λ q l. frames-short m (4 * j) (entry_at m j).pending 0 now w.frames q l;
    }

module _ (m : Memory) (g : Good m) (j : ℕ) (h : j < m.state.count) where
  pub good_node : ValidNode m.state.round (node_view m j)
  good_node = rw (view_at m j h, view-round m) at (g.valid.each j (rw (view-length m) h))

  pub good-number : j < 8
  good-number = let most : m.state.count ≤ 8 = rw (view-length m) at g.valid.most in omega arith

  pub good-fits : Fits m j
  good-fits = fits_from m j m.state.round (node_view m j) refl good_node (g.fill j h)

  pub queue-length : length (node_view m j).queue ≡ (entry_at m j).fill
  queue-length = queue_filled m j g.typed.sized good-number (g.fill j h)
