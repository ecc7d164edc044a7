-- Laws of one entry of the state, held apart from it and stored again.
-- Assumes nothing.
use mathlib.Core.Path.{◌≡◌, refl, ◌∙◌, sym}
use mathlib.Core.Bool.{Bool, true, false}
use Prim.Native.Nat.{ℕ, ◌≤◌, ◌<◌}
use lib.Dec.{ltb}
use lib.ListN.{length}
use lib.Seq.{set-set, set_out, set-get_or, get_or-set_same}
use borrow.Author.Tests.{ltb-true, ltb-false}
use Rattle.bus_state.specs.Memory.{no_node, node_state}
use Rattle.bus_state.specs.Entries.{with_entry}
use Rattle.bus_state.specs.declared.State.{State}
use Rattle.bus_state.specs.declared.NodeState.{NodeState}

-- the entry that is there, stored
pub same-entry : (s : State) (k : ℕ) → with_entry s k (node_state s k) ≡ s
same-entry s k = rw (set-get_or s.nodes k no_node)

-- also under another name
pub stored_again : (s : State) (k : ℕ) (d : NodeState) → node_state s k ≡ d → with_entry s k d ≡ s
stored_again s k d e = rw (sym e) (same-entry s k)

-- the entry that was stored is there
pub entry_there : (s : State) (k : ℕ) (d : NodeState) → k < length s.nodes → node_state (with_entry s k d) k ≡ d
entry_there s k d h = get_or-set_same s.nodes k d no_node h

-- the last that was stored stays
pub entry_last : (s : State) (k : ℕ) (d x : NodeState) → with_entry (with_entry s k d) k x ≡ with_entry s k x
entry_last s k d x = rw (set-set s.nodes k d x)

-- an entry stored twice, the second time from what was stored
pub entry_again : (s : State) (k : ℕ) (d : NodeState) (f : NodeState → NodeState)
    → with_entry (with_entry s k d) k (f (node_state (with_entry s k d) k)) ≡ with_entry s k (f d)
entry_again s k d f = entry_last s k d (f (node_state (with_entry s k d) k)) ∙ go (ltb k (length s.nodes)) refl
  where
    go : (t : Bool) → ltb k (length s.nodes) ≡ t → with_entry s k (f (node_state (with_entry s k d) k)) ≡ with_entry s k (f d)
    go true e = rw (entry_there s k d (ltb-true k (length s.nodes) e))
    go false e =
        let h : length s.nodes ≤ k = ltb-false k (length s.nodes) e in
        rw (set_out s.nodes k (f (node_state (with_entry s k d) k)) h, set_out s.nodes k (f d) h)
