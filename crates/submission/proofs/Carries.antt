-- What each step leaves of the memory, by its parts: state, slots, payload and queues.
-- Assumes nothing.
use mathlib.Core.Path.{◌≡◌, refl, sym, ap, ◌∙◌}
use mathlib.Core.Bool.{Bool, true, false, cond}
use mathlib.Core.List.{List, []}
use mathlib.Core.Logic.{◌⊎◌, inl, inr}
use Prim.Native.Nat.{ℕ, zero, suc, ◌+◌, ◌*◌, ◌<◌}
use native.Mathlib.Nat.{add-zero}
use native.Mathlib.Omega.{arith}
use lib.Dec.{eqb}
use lib.ListN.{length, set, drop}
use lib.Seq.{set-set, set-get_or, get_or-set_other, paste-zero}
use Rattle.buffers.specs.Parts.{over}
use Rattle.operation.specs.Format.{head_length, header, encode}
use Rattle.operation.specs.declared.Operation.{Operation}
use Rattle.operation.specs.declared.Operation.TheVariants.{FormatError, Wakeup}
use Rattle.operation.proofs.Sizes.{encode-length}
use Rattle.slots.specs.Blocks.{slot_of, set_block}
use Rattle.slots.specs.declared.Slot.{Slot}
use Rattle.slots.proofs.Blocks.{set_in_block}
use Rattle.plain_bus.specs.Held.{bus_off}
use Rattle.plain_bus.specs.Submit.{format_error}
use Rattle.bus_state.specs.Memory.{held, slots_per_node, bytes_per_slot, bytes_per_queue, no_node, node_state, is_off}
use Rattle.bus_state.specs.Entries.{with_entry, entry_status, entry_fill}
use Rattle.bus_state.specs.declared.State.{State}
use Rattle.bus_state.specs.declared.NodeState.{NodeState}
use Rattle.bus_model.specs.Primitives.{set_entry, fill_slot, put_frame, append, clear_node, in_turn}
use Rattle.bus_model.specs.Submit.{status_of, status_in, wakeup_at, wake_at}
use Rattle.submission.specs.Counting.{unreached, wakeup_length, entry_woken, woken_from, woken_by, answer_length, cleared, status_set, entry_after}
use Rattle.submission.specs.Carrying.{memory_after, queue_with, wakeup_laid, wakeups_laid}
use Rattle.submission.specs.declared.Effect.{Effect}
use Rattle.submission.specs.declared.Effect.TheVariants.{Nothing, Transmit, Answer, SetRate, SetBehaviour, SetStatus, Wake}
use Rattle.submission.proofs.Entries.{entry_there, entry_again, stored_again}
use Rattle.submission.proofs.Wakes.{fill_none, laid_alike, woken_sender}

-- nothing but the sender's entry changes
abbrev pub quiet : NodeState → Effect → Bool
quiet d Nothing = true
quiet d (Transmit op) = is_off d
quiet d Answer = false
quiet d (SetRate i rate) = true
quiet d (SetBehaviour behaviour) = true
quiet d (SetStatus status) = true
quiet d Wake = is_off d

pub quiet_rest : (d : NodeState) {e : Effect}
    → (e ≡ Nothing) ⊎ (((i : ℕ) × (rate : ℕ) × (e ≡ SetRate i rate)) ⊎ (((behaviour : ℕ) × (e ≡ SetBehaviour behaviour)) ⊎ ((status : ℕ) × (e ≡ SetStatus status))))
    → quiet d e ≡ true
quiet_rest d (inl q) = rw q
quiet_rest d (inr (inl q)) = rw q.2
quiet_rest d (inr (inr (inl q))) = rw q.1
quiet_rest d (inr (inr (inr q))) = rw q.1

-- a Format Error has ten bytes besides those that it answers
pub answer_length_lem : (bytes : List ℕ) → length (format_error bytes) ≡ answer_length (length bytes)
answer_length_lem bytes = encode-length (FormatError (length bytes)) bytes

-- ---- a Wakeup, at one node and at all

module _ (s : State) (k j : ℕ) (l : List Slot) (p q : List ℕ) where
  -- no bytes are added: nothing changes
  append-none : append (held s l p q) j [] ≡ held s l p q
  unfolding append set_entry over
  append-none =
      let d = node_state s j in
      rw (add-zero (node_state s j).fill, ← paste-zero q (bytes_per_queue * j + (node_state s j).fill) [], set-get_or s.nodes j no_node)

  append-wakeup : append (held s l p q) j (encode Wakeup [])
      ≡ held (with_entry s j (entry_fill (node_state s j) ((node_state s j).fill + 8))) l p (queue_with (node_state s j) j q (encode Wakeup []))
  unfolding append set_entry encode header
  append-wakeup = refl

  wake_one : wake_at k (held s l p q) j ≡ held (with_entry s j (entry_woken (node_state s j) k 1 j)) l p (wakeup_laid (node_state s j) k 0 j q)
  unfolding wakeup_at wakeup_laid wakeup_length
  wake_one = rw (fill_none (node_state s j) k j) (go (unreached (node_state s j).status k j))
    where
      go : (t : Bool)
          → append (held s l p q) j (cond t [] (encode Wakeup []))
          ≡ held (with_entry s j (entry_fill (node_state s j) ((node_state s j).fill + 1 * cond t 0 8))) l p (cond t q (queue_with (node_state s j) j q (encode Wakeup [])))
      go true = append-none ∙ rw (add-zero (node_state s j).fill, set-get_or s.nodes j no_node)
      go false = append-wakeup

pub woken_memory : (s : State) (k j n : ℕ) (l : List Slot) (p q : List ℕ)
    → in_turn (wake_at k) j n (held s l p q)
    ≡ held (record { count = s.count; round = s.round; nodes = woken_from s.nodes k 1 j n }) l p (wakeups_laid s.nodes k 0 j n q)
unfolding in_turn woken_from wakeups_laid
woken_memory s k j zero l p q = refl
woken_memory s k j (suc n) l p q =
    let x = entry_woken (node_state s j) k 1 j in
    let y = wakeup_laid (node_state s j) k 0 j q in
    ap (in_turn (wake_at k) (suc j) n) (wake_one s k j l p q)
    ∙ woken_memory (with_entry s j x) k (suc j) n l p y
    ∙ rw (laid_alike (set s.nodes j x) s.nodes k 0 0 (suc j) n y (λ i h g q. rw (get_or-set_other s.nodes j i x no_node (λ e. omega arith))))

-- ---- each step, from the state with the sender's entry d

module _ (s : State) (k : ℕ) (d : NodeState) (h : k < length s.nodes) (p q bytes : List ℕ) (size : ℕ) where
  module _ (l : List Slot) where
    -- a step that changes the sender's entry alone
    pub after-quiet : (e : Effect) → quiet d e ≡ true
        → held (with_entry s k (entry_after d e size)) l p q ≡ memory_after (held (with_entry s k d) l p q) k e bytes
    unfolding memory_after entry_after set_entry status_in status_set clear_node
    after-quiet Nothing o = refl
    after-quiet (Transmit op) o = rw (entry_there s k d h, o)
    after-quiet Answer o = let z : ◌≡◌ {A = ℕ} 0 1 = cc in absurd (omega arith)
    after-quiet (SetRate i rate) o = rw (entry_there s k d h, set-set)
    after-quiet (SetBehaviour behaviour) o = rw (entry_there s k d h, set-set)
    after-quiet (SetStatus status) o = go (eqb status bus_off)
      where
        go : (t : Bool)
            → held (with_entry s k (entry_status (cond t (cleared d) d) status)) l p q
            ≡ status_of (cond t (clear_node (held (with_entry s k d) l p q) k) (held (with_entry s k d) l p q)) k status
        go true =
            let x = with_entry s k d in
            ap (λ (y : State). held y l p q)
            (sym (entry_again x k (cleared (node_state x k)) (λ (y : NodeState). entry_status y status) ∙ entry_again s k d (λ (y : NodeState). entry_status (cleared y) status)))
        go false = ap (λ (y : State). held y l p q) (sym (entry_again s k d (λ (y : NodeState). entry_status y status)))
    after-quiet Wake o = rw (entry_there s k d h, o)

    pub after-answer : length bytes ≡ size
        → held (with_entry s k (entry_after d Answer size)) l p (queue_with d k q (format_error bytes))
        ≡ memory_after (held (with_entry s k d) l p q) k Answer bytes
    unfolding memory_after entry_after append set_entry
    after-answer z = rw (← z, ← answer_length_lem bytes, entry_there s k d h, set-set)

    pub after-wake : is_off d ≡ false
        → held (with_entry (woken_by (with_entry s k d) k 1) k (entry_after d Wake size)) l p (wakeups_laid (with_entry s k d).nodes k 0 0 s.count q)
        ≡ memory_after (held (with_entry s k d) l p q) k Wake bytes
    unfolding memory_after entry_after
    after-wake o =
        rw (entry_there s k d h, o, stored_again (woken_by (with_entry s k d) k 1) k d (woken_sender k 1 (with_entry s k d).nodes 0 s.count ∙ entry_there s k d h))
        (sym (woken_memory (with_entry s k d) k 0 s.count l p q))

  -- a Transmit, where the node's four slots are held apart
  pub after_frame : (l b : List Slot) (op : Operation) {x : List ℕ} → is_off d ≡ false → length b ≡ 4 → d.pending < 4 → x ≡ drop (head_length op) bytes
      → held (with_entry s k (entry_after d (Transmit op) size)) (set_block l (slots_per_node * k) (set b d.pending (slot_of op k s.round)))
      (over p (bytes_per_slot * (slots_per_node * k + d.pending)) x) q
      ≡ memory_after (held (with_entry s k d) (set_block l (slots_per_node * k) b) p q) k (Transmit op) bytes
  unfolding memory_after entry_after put_frame fill_slot set_entry
  after_frame l b op o four few e =
      rw (entry_there s k d h, o, e, set_in_block l (slots_per_node * k) b d.pending (slot_of op k s.round) four few, set-set)
