-- What the three writes leave: an entry, a slot with its data, bytes at a queue's fill. Each changes one node only.
-- Assumes nothing.
use mathlib.Core.Path.{◌≡◌, refl, ◌∙◌}
use Prim.Native.Nat.{ℕ, ◌+◌, ◌*◌, ◌≤◌, ◌<◌}
use native.Mathlib.Omega.{arith}
use mathlib.Core.Bool.{Bool, true, false}
use mathlib.Core.List.{List}
use lib.Dec.{ltb}
use lib.ListN.{length, length-set}
use lib.Seq.{get_or-set_same, get_or-set_other}
use borrow.Author.Tests.{ltb-true, ltb-false}
use Rattle.buffers.specs.Parts.{part, over}
use Rattle.slots.specs.Slots.{free_slot}
use Rattle.slots.specs.declared.Slot.{Slot}
use Rattle.bus_state.specs.Memory.{Memory, no_node, slot_at}
use Rattle.bus_state.specs.declared.NodeState.{NodeState}
use Rattle.bus_model.specs.Primitives.{entry_at, set_entry, lay_queue, fill_slot}
use Rattle.bus_model.specs.Refines.{Sized}
use Rattle.buffers.proofs.Offsets.{length_over, over-same, over-before, over_behind}

-- all that node i has is the same in two memories
pub record Same (m m' : Memory) (i : ℕ) : Type 0 where
  pub entry : entry_at m' i ≡ entry_at m i
  pub slot : (q : ℕ) → q < 4 → slot_at m' (4 * i + q) ≡ slot_at m (4 * i + q)
  pub payload : (q n : ℕ) → q < 4 → n ≤ 2_048
      → part (2_048 * (4 * i + q)) n m'.payload ≡ part (2_048 * (4 * i + q)) n m.payload
  pub queue : (n : ℕ) → n ≤ 4_096 → part (4_096 * i) n m'.queues ≡ part (4_096 * i) n m.queues

pub same_refl : (m : Memory) (i : ℕ) → Same m m i
same_refl m i = record { entry = refl; slot = λ q h. refl; payload = λ q n h l. refl; queue = λ n l. refl }

pub same_trans : {m m' m'' : Memory} {i : ℕ} → Same m m' i → Same m' m'' i → Same m m'' i
same_trans s t = record {
  entry = t.entry ∙ s.entry;
  slot = λ q h. t.slot q h ∙ s.slot q h;
  payload = λ q n h l. t.payload q n h l ∙ s.payload q n h l;
  queue = λ n l. t.queue n l ∙ s.queue n l;
}

-- bytes laid into block p do not touch block r
block_apart : (size p r at n : ℕ) (xs l : List ℕ) → (r ≡ p → ⊥) → size * p ≤ at → at + length xs ≤ size * p + size
    → at + length xs ≤ length l → n ≤ size → (r < p → size * r + size ≤ size * p) → (p < r → size * p + size ≤ size * r)
    → part (size * r) n (over l at xs) ≡ part (size * r) n l
block_apart size p r at n xs l other low high h small before behind = go (ltb r p) refl
  where
    go : (t : Bool) → ltb r p ≡ t → part (size * r) n (over l at xs) ≡ part (size * r) n l
    go true e = over-before at xs l h (size * r) n (omega (arith, before (ltb-true r p e)))
    go false e =
        let g : p < r = omega (arith, ltb-false r p e, other) in
        over_behind at xs l h (size * r) n (omega (arith, behind g))

-- ---- an entry

module _ (m : Memory) (j : ℕ) (d : NodeState) where
  pub entry-own : j < length m.state.nodes → entry_at (set_entry m j d) j ≡ d
  unfolding set_entry
  entry-own h = get_or-set_same m.state.nodes j d no_node h

  pub entry-others : (i : ℕ) → (i ≡ j → ⊥) → Same m (set_entry m j d) i
  unfolding set_entry
  entry-others i n = record {
    entry = get_or-set_other m.state.nodes j i d no_node n;
    slot = λ q h. refl;
    payload = λ q k h l. refl;
    queue = λ k l. refl;
  }

  pub entry-sized : Sized m → Sized (set_entry m j d)
  unfolding set_entry
  entry-sized s = record {
    slots = s.slots;
    payload = s.payload;
    queues = s.queues;
    nodes = length-set m.state.nodes j d ∙ s.nodes;
  }

-- ---- a slot with its data

module _ (m : Memory) (p : ℕ) (x : Slot) (bytes : List ℕ) (s : Sized m) (h : p < 32) (l : length bytes ≤ 2_048) where
  pub slot-own : slot_at (fill_slot m p x bytes) p ≡ x
  unfolding fill_slot
  slot-own = get_or-set_same m.slots p x free_slot (omega (arith, s.slots))

  pub slot_other : (r : ℕ) → (r ≡ p → ⊥) → slot_at (fill_slot m p x bytes) r ≡ slot_at m r
  unfolding fill_slot
  slot_other r n = get_or-set_other m.slots p r x free_slot n

  pub bytes-own : part (2_048 * p) (length bytes) (fill_slot m p x bytes).payload ≡ bytes
  unfolding fill_slot
  bytes-own = over-same (2_048 * p) bytes m.payload (omega (arith, s.payload))

  pub bytes_other : (r n : ℕ) → (r ≡ p → ⊥) → n ≤ 2_048
      → part (2_048 * r) n (fill_slot m p x bytes).payload ≡ part (2_048 * r) n m.payload
  unfolding fill_slot
  bytes_other r n o k =
      block_apart 2_048 p r (2_048 * p) n bytes m.payload o (omega arith) (omega arith) (omega (arith, s.payload)) k
      (λ g. omega arith) (λ g. omega arith)

  pub slot-sized : Sized (fill_slot m p x bytes)
  unfolding fill_slot
  slot-sized = record {
    slots = length-set m.slots p x ∙ s.slots;
    payload = length_over (2_048 * p) bytes m.payload (omega (arith, s.payload)) ∙ s.payload;
    queues = s.queues;
    nodes = s.nodes;
  }

-- ---- bytes at a queue's fill

module _ (m : Memory) (j : ℕ) (bytes : List ℕ) (s : Sized m) (h : j < 8) (l : (entry_at m j).fill + length bytes ≤ 4_096) where
  pub queue-others : (i : ℕ) → (i ≡ j → ⊥) → Same m (lay_queue m j bytes) i
  queue-others i n = record {
    entry = refl;
    slot = λ q g. refl;
    payload = λ q k g u. refl;
    queue = λ k u.
        block_apart 4_096 j i (4_096 * j + (entry_at m j).fill) k bytes m.queues n (omega arith) (omega arith)
        (omega (arith, s.queues)) u (λ g. omega arith) (λ g. omega arith);
  }

  pub queue-sized : Sized (lay_queue m j bytes)
  queue-sized = record {
    slots = s.slots;
    payload = s.payload;
    queues = length_over (4_096 * j + (entry_at m j).fill) bytes m.queues (omega (arith, s.queues)) ∙ s.queues;
    nodes = s.nodes;
  }
