-- What the view says after a frame is removed, and the later ones moved down: at its node, and at every other.
-- Assumes nothing.
use mathlib.Core.Path.{◌≡◌, refl, sym, ap, ◌∙◌, subst}
use Prim.Native.Nat.{ℕ, zero, suc, ◌+◌, ◌-◌, ◌*◌, ◌≤◌, ◌<◌}
use native.Mathlib.Omega.{arith}
use native.Mathlib.Nat.{add-zero}
use mathlib.Core.Logic.{◌⊎◌, inl, inr}
use mathlib.Core.Bool.{Bool, true, false}
use lib.Dec.{ltb}
use lib.ListN.{length}
use borrow.Author.Tests.{ltb-true, ltb-false}
use Rattle.operation.specs.Format.{data_length}
use Rattle.slots.specs.declared.Slot.{Slot}
use Rattle.plain_bus.specs.Held.{with_pending}
use Rattle.plain_bus.specs.Round.{without}
use Rattle.buffers.specs.Parts.{part}
use Rattle.bus_state.specs.Memory.{Memory, operation_at, data_at_slot, slot_at, frame_at, frames_from, node_view}
use Rattle.bus_state.specs.declared.State.{State}
use Rattle.bus_state.specs.Entries.{entry_pending}
use Rattle.bus_model.specs.Primitives.{entry_at, set_entry, fill_slot, move_down, remove_frame}
use Rattle.bus_model.specs.Refines.{Sized}
use Rattle.buffers.proofs.Offsets.{length_part}
use Rattle.bus_model.proofs.Writes.{Same, same_trans, entry-own, entry-others, entry-sized, slot-own, slot_other, bytes-own, bytes_other, slot-sized}
use Rattle.bus_model.proofs.Views.{Fits, Moved, frame_moved, frames_moved, entry_view, entry_view_lem}

-- ---- frames are moved down
moved_trans : {m m' m'' : Memory} {p p' p'' : ℕ} → Moved m m' p p' → Moved m' m'' p' p'' → Moved m m'' p p''
moved_trans v w = record { slot = w.slot ∙ v.slot; bytes = rw v.slot at w.bytes ∙ v.bytes }

-- the frames of the n slots after p stand one lower; every other slot is as it was
record Down (m m' : Memory) (p n : ℕ) : Type 0 where
  sized : Sized m'
  state : m'.state ≡ m.state
  queues : m'.queues ≡ m.queues
  slot : (r : ℕ) → ((i : ℕ) → i < n → r ≡ p + i → ⊥) → slot_at m' r ≡ slot_at m r
  bytes : (r k : ℕ) → ((i : ℕ) → i < n → r ≡ p + i → ⊥) → k ≤ 2_048
      → part (2_048 * r) k m'.payload ≡ part (2_048 * r) k m.payload
  down : (i : ℕ) → i < n → Moved m m' (suc p + i) (p + i)

-- the frame of slot p + 1 to slot p
abbrev one_down : Memory → ℕ → Memory
one_down m p = fill_slot m p (slot_at m (suc p)) (data_at_slot m (suc p))

module _ (m : Memory) (p : ℕ) (s : Sized m) (h : suc p < 32) (f : data_length (operation_at m (suc p)) ≤ 2_048) where
  down-length : length (data_at_slot m (suc p)) ≡ data_length (operation_at m (suc p))
  down-length = length_part (2_048 * suc p) (data_length (operation_at m (suc p))) m.payload (omega (arith, s.payload))

  down-short : length (data_at_slot m (suc p)) ≤ 2_048
  down-short = rw down-length f

  down-sized : Sized (one_down m p)
  down-sized = slot-sized m p (slot_at m (suc p)) (data_at_slot m (suc p)) s (omega arith) down-short

  down-slot : (r : ℕ) → (r ≡ p → ⊥) → slot_at (one_down m p) r ≡ slot_at m r
  down-slot r n = slot_other m p (slot_at m (suc p)) (data_at_slot m (suc p)) s (omega arith) down-short r n

  down-bytes : (r k : ℕ) → (r ≡ p → ⊥) → k ≤ 2_048
      → part (2_048 * r) k (one_down m p).payload ≡ part (2_048 * r) k m.payload
  down-bytes r k n l = bytes_other m p (slot_at m (suc p)) (data_at_slot m (suc p)) s (omega arith) down-short r k n l

  down_one : Moved m (one_down m p) (suc p) p
  down_one = record {
    slot = slot-own m p (slot_at m (suc p)) (data_at_slot m (suc p)) s (omega arith) down-short;
    bytes =
        ap (λ (k : ℕ). part (2_048 * p) k (one_down m p).payload) (sym down-length)
        ∙ bytes-own m p (slot_at m (suc p)) (data_at_slot m (suc p)) s (omega arith) down-short;
  }

  -- and those after it
  down-more : (m' : Memory) (n : ℕ) → ((i : ℕ) → i < suc n → data_length (operation_at m (suc p + i)) ≤ 2_048)
      → Down (one_down m p) m' (suc p) n → Down m m' p (suc n)
  unfolding fill_slot
  down-more m' n g d = record {
    sized = d.sized;
    state = d.state;
    queues = d.queues;
    slot = λ r o. d.slot r (later r o) ∙ down-slot r (now r o);
    bytes = λ r k o l. d.bytes r k (later r o) l ∙ down-bytes r k (now r o) l;
    down = each;
  }
    where
      now : (r : ℕ) → ((i : ℕ) → i < suc n → r ≡ p + i → ⊥) → r ≡ p → ⊥
      now r o e = o 0 (omega arith) (omega arith)

      later : (r : ℕ) → ((i : ℕ) → i < suc n → r ≡ p + i → ⊥) → (i : ℕ) → i < n → r ≡ suc p + i → ⊥
      later r o i l e = o (suc i) (omega arith) (omega arith)

      first : Moved m m' (suc p) p
      first =
          let o : (i : ℕ) → i < n → p ≡ suc p + i → ⊥ = λ i l e. omega arith in
          moved_trans down_one (record { slot = d.slot p o; bytes = d.bytes p _ o (rw down_one.slot f) })

      still : (r : ℕ) → (r ≡ p → ⊥) → data_length (operation_at m r) ≤ 2_048 → Moved m (one_down m p) r r
      still r o l = record { slot = down-slot r o; bytes = down-bytes r _ o l }

      each : (i : ℕ) → i < suc n → Moved m m' (suc p + i) (p + i)
      each zero l = rw (add-zero p, add-zero (suc p)) first
      each (suc i) l =
          let e : suc (suc p) + i ≡ suc p + suc i = omega arith in
          let e' : suc p + i ≡ p + suc i = omega arith in
          rw (← e, ← e') (moved_trans (still (suc (suc p) + i) (λ q. omega arith) (rw e (g (suc i) l))) (d.down i (omega arith)))

moves_down : (n : ℕ) (m : Memory) (p : ℕ) → Sized m → p + n < 32
    → ((i : ℕ) → i < n → data_length (operation_at m (suc p + i)) ≤ 2_048) → Down m (move_down m p n) p n
unfolding move_down
moves_down zero m p s h f = record {
  sized = s;
  state = refl;
  queues = refl;
  slot = λ r g. refl;
  bytes = λ r k g l. refl;
  down = λ i l. absurd (omega arith);
}
moves_down (suc n) m p s h f =
    let g : suc p < 32 = omega arith in
    let c : data_length (operation_at m (suc p)) ≤ 2_048 = rw add-zero at (f 0 (omega arith)) in
    down-more m p s g c (move_down (one_down m p) (suc p) n) n f
    (moves_down n (one_down m p) (suc p) (down-sized m p s g c) (omega arith) (λ i l. short i l g c))
  where
    short : (i : ℕ) → i < n → (g : suc p < 32) (c : data_length (operation_at m (suc p)) ≤ 2_048)
        → data_length (operation_at (one_down m p) (suc (suc p) + i)) ≤ 2_048
    short i l g c =
        let e : suc (suc p) + i ≡ suc p + suc i = omega arith in
        rw (down-slot m p s g c (suc (suc p) + i) (λ q. omega arith), e) (f (suc i) (omega arith))

-- the frames of n slots, where frame q of n + 1 was removed
without-frames : (m m' : Memory) (q p n : ℕ) → q ≤ n → ((i : ℕ) → i < q → Moved m m' (p + i) (p + i))
    → ((i : ℕ) → q ≤ i → i < n → Moved m m' (suc p + i) (p + i)) → frames_from m' p n ≡ without q (frames_from m p (suc n))
unfolding frames_from without
without-frames m m' zero p n h f g = frames_moved m m' (suc p) p n (λ i l. g i (omega arith) l)
without-frames m m' (suc q) p zero h f g = absurd (omega arith)
without-frames m m' (suc q) p (suc n) h f g =
    let a : frame_at m' p ≡ frame_at m p = rw add-zero at (frame_moved (f 0 (omega arith))) in
    let b : frames_from m' (suc p) n ≡ without q (frames_from m (suc p) (suc n)) =
    without-frames m m' q (suc p) n (omega arith) (λ i l. before i (f (suc i) (omega arith)))
    (λ i k l. behind i (g (suc i) (omega arith) (omega arith))) in
    rw (a, b)
  where
    before : (i : ℕ) → Moved m m' (p + suc i) (p + suc i) → Moved m m' (suc p + i) (suc p + i)
    before i v = let e : p + suc i ≡ suc p + i = omega arith in rw e at v

    behind : (i : ℕ) → Moved m m' (suc p + suc i) (p + suc i) → Moved m m' (suc (suc p) + i) (suc p + i)
    behind i v =
        let e : p + suc i ≡ suc p + i = omega arith in
        let e' : suc p + suc i ≡ suc (suc p) + i = omega arith in
        rw (e, e') at v

-- the later frames are moved
abbrev lowered : Memory → ℕ → ℕ → Memory
lowered m j q = move_down m (4 * j + q) ((entry_at m j).pending - 1 - q)

module _ (m : Memory) (j q : ℕ) (s : Sized m) (h : j < 8) (f : Fits m j) (l : q < (entry_at m j).pending) where
  removed-down : Down m (lowered m j q) (4 * j + q) ((entry_at m j).pending - 1 - q)
  removed-down = moves_down ((entry_at m j).pending - 1 - q) m (4 * j + q) s (omega (arith, f.few)) short
    where
      short : (i : ℕ) → i < (entry_at m j).pending - 1 - q → data_length (operation_at m (suc (4 * j + q) + i)) ≤ 2_048
      short i g = let e : 4 * j + suc (q + i) ≡ suc (4 * j + q) + i = omega arith in rw (← e) (f.short (suc (q + i)) (omega arith))

  removed-before : (i : ℕ) → i < q → Moved m (lowered m j q) (4 * j + i) (4 * j + i)
  removed-before i g =
      let o : (k : ℕ) → k < (entry_at m j).pending - 1 - q → 4 * j + i ≡ 4 * j + q + k → ⊥ = λ k u e. omega arith in
      record { slot = removed-down.slot (4 * j + i) o; bytes = removed-down.bytes (4 * j + i) _ o (f.short i (omega arith)) }

  removed_behind : (i : ℕ) → q ≤ i → i < (entry_at m j).pending - 1 → Moved m (lowered m j q) (suc (4 * j) + i) (4 * j + i)
  removed_behind i k g =
      let e : 4 * j + q + (i - q) ≡ 4 * j + i = omega arith in
      let e' : suc (4 * j + q) + (i - q) ≡ suc (4 * j) + i = omega arith in
      rw (← e, ← e') (removed-down.down (i - q) (omega arith))

  pub remove-view : node_view (remove_frame m j q) j ≡ with_pending (node_view m j) (without q (node_view m j).pending)
  unfolding node_view entry_view remove_frame
  remove-view =
      let e : suc ((entry_at m j).pending - 1) ≡ (entry_at m j).pending = omega arith in
      let w : frames_from (lowered m j q) (4 * j) ((entry_at m j).pending - 1) ≡ without q (frames_from m (4 * j) (entry_at m j).pending) =
      without-frames m (lowered m j q) q (4 * j) ((entry_at m j).pending - 1) (omega arith) removed-before removed_behind
      ∙ ap (λ (n : ℕ). without q (frames_from m (4 * j) n)) e in
      let n : length (lowered m j q).state.nodes ≡ 8 = removed-down.sized.nodes in
      entry_view_lem (lowered m j q) j _ (omega arith) ∙ rw (w, removed-down.queues)

  pub remove-others : (i : ℕ) → (i ≡ j → ⊥) → Same m (remove_frame m j q) i
  unfolding remove_frame
  remove-others i n = same_trans first (entry-others (lowered m j q) j _ i n)
    where
      away : (r k : ℕ) → r < 4 → k < (entry_at m j).pending - 1 - q → 4 * i + r ≡ 4 * j + q + k → ⊥
      away r k a b e = omega (arith, f.few)

      first : Same m (lowered m j q) i
      first = record {
        entry = rw removed-down.state;
        slot = λ r g. removed-down.slot (4 * i + r) (λ k. away r k g);
        payload = λ r k g u. removed-down.bytes (4 * i + r) k (λ k. away r k g) u;
        queue = λ k u. rw removed-down.queues;
      }

  pub remove-sized : Sized (remove_frame m j q)
  unfolding remove_frame
  remove-sized = entry-sized (lowered m j q) j _ removed-down.sized

  -- each slot that is still in use has what it had, or what the next one had
  pub remove-slot : (i : ℕ) → i < (entry_at m j).pending - 1
      → (slot_at (remove_frame m j q) (4 * j + i) ≡ slot_at m (4 * j + i)) ⊎ (slot_at (remove_frame m j q) (4 * j + i) ≡ slot_at m (4 * j + suc i))
  unfolding remove_frame set_entry
  remove-slot i g = go (ltb i q) refl
    where
      go : (t : Bool) → ltb i q ≡ t
          → (slot_at (lowered m j q) (4 * j + i) ≡ slot_at m (4 * j + i)) ⊎ (slot_at (lowered m j q) (4 * j + i) ≡ slot_at m (4 * j + suc i))
      go true e = inl (removed-before i (ltb-true i q e)).slot
      go false e =
          let a : suc (4 * j) + i ≡ 4 * j + suc i = omega arith in
          inr (rw a at (removed_behind i (ltb-false i q e) g).slot)

  pub remove-state : ((remove_frame m j q).state.count ≡ m.state.count) × ((remove_frame m j q).state.round ≡ m.state.round)
  unfolding remove_frame set_entry
  remove-state = (ap (λ (x : State). x.count) removed-down.state, ap (λ (x : State). x.round) removed-down.state)

  pub remove_entry : entry_at (remove_frame m j q) j ≡ entry_pending (entry_at m j) ((entry_at m j).pending - 1)
  unfolding remove_frame
  remove_entry =
      let n : length (lowered m j q).state.nodes ≡ 8 = removed-down.sized.nodes in
      entry-own (lowered m j q) j (entry_pending (entry_at m j) ((entry_at m j).pending - 1)) (omega arith)

  -- what holds of every slot still does
  pub remove-all : (P : Slot → Type 0) → ((r : ℕ) → P (slot_at m r)) → (r : ℕ) → P (slot_at (remove_frame m j q) r)
  unfolding remove_frame set_entry
  remove-all P f r = go (ltb r (4 * j + q)) refl (ltb r (4 * j + q + ((entry_at m j).pending - 1 - q))) refl
    where
      go : (a : Bool) → ltb r (4 * j + q) ≡ a → (b : Bool) → ltb r (4 * j + q + ((entry_at m j).pending - 1 - q)) ≡ b → P (slot_at (lowered m j q) r)
      go true e b e' = let l = ltb-true r (4 * j + q) e in subst P (sym (removed-down.slot r (λ i u v. omega arith))) (f r)
      go false e true e' =
          let l = ltb-false r (4 * j + q) e in
          let u = ltb-true r (4 * j + q + ((entry_at m j).pending - 1 - q)) e' in
          let k : 4 * j + q + (r - (4 * j + q)) ≡ r = omega arith in
          let s : slot_at (lowered m j q) r ≡ slot_at m (suc (4 * j + q) + (r - (4 * j + q))) =
          subst (λ (i : ℕ). slot_at (lowered m j q) i ≡ slot_at m (suc (4 * j + q) + (r - (4 * j + q)))) k
          (removed-down.down (r - (4 * j + q)) (omega arith)).slot in
          subst P (sym s) (f (suc (4 * j + q) + (r - (4 * j + q))))
      go false e false e' =
          let l = ltb-false r (4 * j + q + ((entry_at m j).pending - 1 - q)) e' in
          subst P (sym (removed-down.slot r (λ i u v. omega arith))) (f r)
