-- What the view says of a node after its entry is set and its queue is added to, and of one of which nothing changes.
-- Assumes nothing.
use mathlib.Core.Path.{◌≡◌, refl, ap, ◌∙◌}
use Prim.Native.Nat.{ℕ, zero, suc, ◌+◌, ◌*◌, ◌≤◌, ◌<◌}
use native.Mathlib.Omega.{arith}
use native.Mathlib.Nat.{add-zero}
use mathlib.Core.List.{List, [], ◌∷◌, ◌++◌}
use lib.ListN.{length}
use Rattle.operation.specs.Format.{data_length}
use Rattle.plain_bus.specs.Held.{Node, enqueue}
use Rattle.buffers.specs.Parts.{part}
use Rattle.bus_state.specs.Memory.{Memory, operation_at, data_at_slot, slot_at, frame_at, frames_from, node_view}
use Rattle.bus_state.specs.declared.NodeState.{NodeState}
use Rattle.bus_model.specs.Primitives.{entry_at, set_entry, lay_queue, append}
use Rattle.bus_model.specs.Refines.{Sized}
use Rattle.buffers.proofs.Offsets.{length_part, over_grown}
use Rattle.bus_model.proofs.Writes.{Same, same_trans, entry-own, entry-others, entry-sized, queue-others, queue-sized}

-- a node's frames and its queue are no more than its part of the memory
pub record Fits (m : Memory) (j : ℕ) : Type 0 where
  pub few : (entry_at m j).pending ≤ 4
  pub fill : (entry_at m j).fill ≤ 4_096
  pub short : (q : ℕ) → q < (entry_at m j).pending → data_length (operation_at m (4 * j + q)) ≤ 2_048

-- ---- frames

-- slot p' of one memory and slot p of another hold one frame
pub record Moved (m m' : Memory) (p p' : ℕ) : Type 0 where
  pub slot : slot_at m' p' ≡ slot_at m p
  pub bytes : part (2_048 * p') (data_length (operation_at m p)) m'.payload ≡ data_at_slot m p

pub frame_moved : {m m' : Memory} {p p' : ℕ} → Moved m m' p p' → frame_at m' p' ≡ frame_at m p
unfolding frame_at
frame_moved {m} {m'} {p} {p'} v = rw (v.slot, v.bytes)

pub frames_moved : (m m' : Memory) (p p' n : ℕ) → ((i : ℕ) → i < n → Moved m m' (p + i) (p' + i))
    → frames_from m' p' n ≡ frames_from m p n
unfolding frames_from
frames_moved m m' p p' zero f = refl
frames_moved m m' p p' (suc n) f =
    let a : frame_at m' p' ≡ frame_at m p = rw (add-zero p, add-zero p') at (frame_moved (f 0 (omega arith))) in
    let b : frames_from m' (suc p') n ≡ frames_from m (suc p) n =
    frames_moved m m' (suc p) (suc p') n (λ i h. next i (f (suc i) (omega arith))) in
    rw (a, b)
  where
    next : (i : ℕ) → Moved m m' (p + suc i) (p' + suc i) → Moved m m' (suc p + i) (suc p' + i)
    next i v =
        let e : p + suc i ≡ suc p + i = omega arith in
        let e' : p' + suc i ≡ suc p' + i = omega arith in
        rw (e, e') at v

pub frames_snoc : (m : Memory) (p n : ℕ) → frames_from m p (suc n) ≡ frames_from m p n ++ frame_at m (p + n) ∷ []
unfolding frames_from
frames_snoc m p zero = rw add-zero
frames_snoc m p (suc n) =
    let e : suc p + n ≡ p + suc n = omega arith in
    rw (frames_snoc m (suc p) n, e)

pub length-frames : (m : Memory) (p n : ℕ) → length (frames_from m p n) ≡ n
unfolding frames_from
length-frames m p zero = refl
length-frames m p (suc n) = ap suc (length-frames m (suc p) n)

-- ---- a node of which nothing changes

pub same-fits : {m m' : Memory} {i : ℕ} → Same m m' i → Fits m i → Fits m' i
same-fits {m} {m'} {i} s f = record {
  few = rw s.entry f.few;
  fill = rw s.entry f.fill;
  short = λ q h. let h' : q < (entry_at m i).pending = rw s.entry at h in rw (s.slot q (omega (arith, f.few))) (f.short q h');
}

same_moved : {m m' : Memory} {i : ℕ} → Same m m' i → Fits m i → (q : ℕ) → q < (entry_at m i).pending
    → Moved m m' (4 * i + q) (4 * i + q)
same_moved {m} {m'} {i} s f q h =
    let h' : q < 4 = omega (arith, f.few) in
    record { slot = s.slot q h'; bytes = s.payload q _ h' (f.short q h) }

pub same_view : {m m' : Memory} {i : ℕ} → Same m m' i → Fits m i → node_view m' i ≡ node_view m i
unfolding node_view
same_view {m} {m'} {i} s f =
    rw (s.entry, frames_moved m m' (4 * i) (4 * i) (entry_at m i).pending (same_moved s f), s.queue (entry_at m i).fill f.fill)

-- ---- a node whose entry is set

-- what the view says of a node with this entry
unfoldable pub entry_view : Memory → ℕ → NodeState → Node
entry_view m j d = record {
  status = d.status;
  behaviour = d.behaviour;
  rates = d.rates;
  pending = frames_from m (4 * j) d.pending;
  queue = part (4_096 * j) d.fill m.queues;
}

pub entry_view_lem : (m : Memory) (j : ℕ) (d : NodeState) → j < length m.state.nodes → node_view (set_entry m j d) j ≡ entry_view m j d
unfolding node_view entry_view set_entry
entry_view_lem m j d h =
    rw (entry-own m j d h, frames_moved m (set_entry m j d) (4 * j) (4 * j) d.pending (λ i l. record { slot = refl; bytes = refl }))

-- ---- a queue

pub queue_filled : (m : Memory) (j : ℕ) → Sized m → j < 8 → (entry_at m j).fill ≤ 4_096 → length (node_view m j).queue ≡ (entry_at m j).fill
unfolding node_view
queue_filled m j s h l = length_part (4_096 * j) (entry_at m j).fill m.queues (omega (arith, s.queues))

module _ (m : Memory) (j : ℕ) (bytes : List ℕ) (s : Sized m) (h : j < 8) (l : (entry_at m j).fill + length bytes ≤ 4_096) where
  pub append-view : node_view (append m j bytes) j ≡ enqueue (node_view m j) bytes
  unfolding node_view entry_view append
  append-view =
      entry_view_lem (lay_queue m j bytes) j _ (omega (arith, s.nodes))
      ∙ rw (
        over_grown (4_096 * j) (entry_at m j).fill bytes m.queues (omega (arith, s.queues)),
        frames_moved m (lay_queue m j bytes) (4 * j) (4 * j) (entry_at m j).pending (λ i l. record { slot = refl; bytes = refl }),
      )

  pub append-others : (i : ℕ) → (i ≡ j → ⊥) → Same m (append m j bytes) i
  unfolding append
  append-others i n = same_trans (queue-others m j bytes s h l i n) (entry-others (lay_queue m j bytes) j _ i n)

  pub append-sized : Sized (append m j bytes)
  unfolding append
  append-sized = entry-sized (lay_queue m j bytes) j _ (queue-sized m j bytes s h l)
