-- What the view says after a frame is put: at its node, and at every other.
-- Assumes nothing.
use mathlib.Core.Path.{◌≡◌, refl, ◌∙◌}
use Prim.Native.Nat.{ℕ, ◌+◌, ◌*◌, ◌≤◌, ◌<◌}
use native.Mathlib.Omega.{arith}
use native.Mathlib.Numerals.{add-one}
use mathlib.Core.Bool.{true}
use mathlib.Core.List.{List}
use lib.ListN.{length}
use Rattle.operation.specs.Format.{data_length, encode}
use Rattle.operation.specs.declared.Operation.{Operation}
use Rattle.operation.specs.declared.Operation.TheVariants.{FormatError, CanTransmit, FdTransmit, XlTransmit, Confirm, ArbitrationLost, BusError, Configuration, Status, Wakeup}
use Rattle.operation.proofs.Tests.{false_is_true}
use Rattle.slots.specs.Slots.{content_of}
use Rattle.slots.specs.Blocks.{slot_of}
use Rattle.std.specs.Prelude.{Some}
use Rattle.operation.specs.Kinds.{is_transmit}
use Rattle.plain_bus.specs.Submit.{accept}
use Rattle.bus_state.specs.Memory.{Memory, operation_at, slot_at, frame_at, node_view}
use Rattle.bus_state.specs.Entries.{entry_pending}
use Rattle.bus_model.specs.Primitives.{entry_at, set_entry, fill_slot, next_slot, put_frame}
use Rattle.bus_model.specs.Refines.{Sized}
use Rattle.bus_model.proofs.Writes.{Same, same_trans, entry-own, entry-others, entry-sized, slot-own, slot_other, bytes-own, bytes_other, slot-sized}
use Rattle.bus_model.proofs.Views.{Fits, Moved, frames_moved, frames_snoc, entry_view, entry_view_lem}

-- ---- the slot of a Transmit

slot-content : (op : Operation) (owner accepted : ℕ) → is_transmit op ≡ true → content_of (slot_of op owner accepted) ≡ Some op
unfolding content_of slot_of
slot-content (FormatError n) owner accepted t = false_is_true t
slot-content (CanTransmit id ide rtr dl) owner accepted t = refl
slot-content (FdTransmit id ide brs esi dl) owner accepted t = refl
slot-content (XlTransmit id ide sec sdt vcid af dl) owner accepted t = refl
slot-content (Confirm id) owner accepted t = false_is_true t
slot-content (ArbitrationLost id) owner accepted t = false_is_true t
slot-content (BusError id code flag sender) owner accepted t = false_is_true t
slot-content (Configuration kind value) owner accepted t = false_is_true t
slot-content (Status status) owner accepted t = false_is_true t
slot-content Wakeup owner accepted t = false_is_true t

pub slot_signed : (op : Operation) (owner accepted : ℕ) → is_transmit op ≡ true
    → ((slot_of op owner accepted).accepted ≡ accepted) × ((slot_of op owner accepted).owner ≡ owner)
unfolding slot_of
slot_signed (FormatError n) owner accepted t = false_is_true t
slot_signed (CanTransmit id ide rtr dl) owner accepted t = (refl, refl)
slot_signed (FdTransmit id ide brs esi dl) owner accepted t = (refl, refl)
slot_signed (XlTransmit id ide sec sdt vcid af dl) owner accepted t = (refl, refl)
slot_signed (Confirm id) owner accepted t = false_is_true t
slot_signed (ArbitrationLost id) owner accepted t = false_is_true t
slot_signed (BusError id code flag sender) owner accepted t = false_is_true t
slot_signed (Configuration kind value) owner accepted t = false_is_true t
slot_signed (Status status) owner accepted t = false_is_true t
slot_signed Wakeup owner accepted t = false_is_true t

-- ---- a frame is put

-- its slot and its data are written
abbrev laid : Memory → ℕ → Operation → List ℕ → Memory
laid m j op bytes = fill_slot m (next_slot m j) (slot_of op j m.state.round) bytes

module _ (m : Memory) (j : ℕ) (op : Operation) (bytes : List ℕ) (s : Sized m) (h : j < 8) (few : (entry_at m j).pending < 4)
    (l : length bytes ≤ 2_048) where
  laid_moved : (r : ℕ) → (r ≡ next_slot m j → ⊥) → data_length (operation_at m r) ≤ 2_048 → Moved m (laid m j op bytes) r r
  laid_moved r n k = record {
    slot = slot_other m (next_slot m j) (slot_of op j m.state.round) bytes s (omega arith) l r n;
    bytes = bytes_other m (next_slot m j) (slot_of op j m.state.round) bytes s (omega arith) l r _ n k;
  }

  laid-frame : is_transmit op ≡ true → length bytes ≡ data_length op
      → frame_at (laid m j op bytes) (next_slot m j) ≡ record { op = op; bytes = encode op bytes; accepted = m.state.round }
  unfolding frame_at
  laid-frame t e =
      let a = slot-own m (next_slot m j) (slot_of op j m.state.round) bytes s (omega arith) l in
      let b = bytes-own m (next_slot m j) (slot_of op j m.state.round) bytes s (omega arith) l in
      rw (a, slot-content op j m.state.round t, ← e, b, (slot_signed op j m.state.round t).0)

  pub put_view : is_transmit op ≡ true → length bytes ≡ data_length op → Fits m j
      → node_view (put_frame m j op bytes) j ≡ accept (node_view m j) (record { op = op; bytes = encode op bytes; accepted = m.state.round })
  unfolding node_view entry_view put_frame fill_slot
  put_view t e f =
      entry_view_lem (laid m j op bytes) j _ (omega (arith, s.nodes))
      ∙ rw (
        add-one (entry_at m j).pending,
        frames_snoc (laid m j op bytes) (4 * j) (entry_at m j).pending,
        frames_moved m (laid m j op bytes) (4 * j) (4 * j) (entry_at m j).pending (λ i g. laid_moved (4 * j + i) (λ q. omega arith) (f.short i g)),
        laid-frame t e,
      )

  pub put_others : (i : ℕ) → (i ≡ j → ⊥) → Same m (put_frame m j op bytes) i
  unfolding put_frame fill_slot
  put_others i n = same_trans first (entry-others (laid m j op bytes) j _ i n)
    where
      first : Same m (laid m j op bytes) i
      first = record {
        entry = refl;
        slot = λ q g. slot_other m (next_slot m j) (slot_of op j m.state.round) bytes s (omega arith) l (4 * i + q) (λ e. omega arith);
        payload = λ q k g u.
            bytes_other m (next_slot m j) (slot_of op j m.state.round) bytes s (omega arith) l (4 * i + q) k (λ e. omega arith) u;
        queue = λ k u. refl;
      }

  pub put_sized : Sized (put_frame m j op bytes)
  unfolding put_frame fill_slot
  put_sized = entry-sized (laid m j op bytes) j _ (slot-sized m (next_slot m j) (slot_of op j m.state.round) bytes s (omega arith) l)

  pub put_entry : entry_at (put_frame m j op bytes) j ≡ entry_pending (entry_at m j) ((entry_at m j).pending + 1)
  unfolding put_frame fill_slot
  put_entry = entry-own (laid m j op bytes) j (entry_pending (entry_at m j) ((entry_at m j).pending + 1)) (omega (arith, s.nodes))

  pub put_slot : slot_at (put_frame m j op bytes) (next_slot m j) ≡ slot_of op j m.state.round
  unfolding put_frame set_entry
  put_slot = slot-own m (next_slot m j) (slot_of op j m.state.round) bytes s (omega arith) l

  pub put_slots : (r : ℕ) → (r ≡ next_slot m j → ⊥) → slot_at (put_frame m j op bytes) r ≡ slot_at m r
  unfolding put_frame set_entry
  put_slots r n = slot_other m (next_slot m j) (slot_of op j m.state.round) bytes s (omega arith) l r n
