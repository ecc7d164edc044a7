-- Where a pass over a buffer stands: the state as it was, the number of Wakeups so far, and the sender's entry.
-- Assumes nothing.
use mathlib.Core.Path.{◌≡◌}
use mathlib.Core.Bool.{Bool, true, false, cond}
use mathlib.Core.List.{List}
use Prim.Native.Nat.{ℕ, ◌+◌, ◌≤◌, ◌<◌}
use native.Mathlib.Omega.{arith}
use lib.Dec.{eqb}
use lib.ListN.{length}
use Rattle.plain_bus.specs.Held.{bus_off}
use Rattle.plain_bus.specs.Calls.{max_submit}
use Rattle.bus_state.specs.Memory.{bytes_per_queue, node_state, is_off}
use Rattle.bus_state.specs.Entries.{with_entry}
use Rattle.bus_state.specs.declared.State.{State}
use Rattle.bus_state.specs.declared.NodeState.{NodeState}
use Rattle.submission.specs.Counting.{cleared, status_set, entry_check, entry_after, wakeup_room, woken_by}
use Rattle.submission.specs.Carrying.{wakeups_laid}
use Rattle.submission.specs.declared.Effect.{Effect}
use Rattle.submission.specs.declared.Effect.TheVariants.{Nothing, Transmit, Answer, SetRate, SetBehaviour, SetStatus, Wake}
use Rattle.std.specs.Prelude.{Ok}
use Rattle.submission.proofs.Entries.{same-entry}
use Rattle.submission.proofs.Wakes.{woken_length, woken_none, room_next, laid_next, woken_next}
use Rattle.submission.proofs.Checks.{answer-fits}

-- the state after u Wakeups of node k, with its entry d
abbrev pub stand : State → ℕ → ℕ → NodeState → State
stand s k u d = with_entry (woken_by s k u) k d

-- the sender's fill stays within its queue
pub fill-after : (d : NodeState) (e : Effect) (size : ℕ) → d.fill ≤ bytes_per_queue → entry_check d e size ≡ Ok tt
    → (entry_after d e size).fill ≤ bytes_per_queue
unfolding entry_after status_set
fill-after d Nothing size h g = h
fill-after d (Transmit op) size h g = go (is_off d)
  where
    go : (t : Bool) → (cond t d (record { rates = d.rates; fill = d.fill; status = d.status; behaviour = d.behaviour; pending = d.pending + 1 })).fill ≤ bytes_per_queue
    go true = h
    go false = h
fill-after d Answer size h g = answer-fits d size g
fill-after d (SetRate i rate) size h g = h
fill-after d (SetBehaviour behaviour) size h g = h
fill-after d (SetStatus status) size h g = go (eqb status bus_off)
  where
    go : (t : Bool) → (cond t (cleared d) d).fill ≤ bytes_per_queue
    go true = omega arith
    go false = h
fill-after d Wake size h g = h

-- the state that a pass begins with, and its sender
pub record Begun (s : State) (k : ℕ) : Type 0 where
  pub few : s.count ≤ 8
  pub eight : length s.nodes ≡ 8
  pub number : k < 8
  pub own : (node_state s k).fill ≤ bytes_per_queue

-- how far it has come: no more Wakeups than bytes, and room for them
pub record Stood (s : State) (k : ℕ) (buffer : List ℕ) (at u : ℕ) (d : NodeState) : Type 0 where
  pub begun : Begun s k
  pub fill : d.fill ≤ bytes_per_queue
  pub short : length buffer ≤ max_submit
  pub counted : u ≤ at
  pub within : at ≤ length buffer
  pub room : 0 < u → wakeup_room s.nodes k u 0 s.count ≡ true

module _ (s : State) (k : ℕ) (b : Begun s k) where
  pub stand-first : stand s k 0 (node_state s k) ≡ s
  stand-first = rw (woken_none s.nodes k 0 s.count) (same-entry s k)

  pub stand_there : (u : ℕ) → k < length (woken_by s k u).nodes
  stand_there u = rw (woken_length k u s.nodes 0 s.count, b.eight) b.number

  in_nodes : k < length s.nodes
  in_nodes = rw b.eight b.number

  all-nodes : s.count ≤ length s.nodes
  all-nodes = rw b.eight b.few

  -- one more Wakeup: room for it, where it is laid, and the state with it
  module _ (u : ℕ) (d : NodeState) where
    pub stand-room : d.fill ≤ bytes_per_queue
        → wakeup_room (stand s k u d).nodes k 1 0 s.count ≡ wakeup_room s.nodes k (u + 1) 0 s.count
    stand-room f = room_next s.nodes k u s.count d in_nodes all-nodes f b.own

    pub stand-laid : (q : List ℕ) → wakeups_laid (stand s k u d).nodes k 0 0 s.count q ≡ wakeups_laid s.nodes k u 0 s.count q
    stand-laid = laid_next s.nodes k u s.count d in_nodes all-nodes

    pub stand-next : with_entry (woken_by (stand s k u d) k 1) k d ≡ stand s k (u + 1) d
    stand-next = rw (woken_next s.nodes k u s.count d in_nodes all-nodes)
