-- The entries and the queues after a round, one node at a time.
-- Assumes nothing.
use mathlib.Core.Path.{◌≡◌, ap}
use mathlib.Core.List.{List}
use Rattle.std.specs.Prelude.{Option}
use Prim.Native.Nat.{ℕ, suc, ◌+◌, ◌-◌, ◌*◌, ◌≤◌, ◌<◌}
use native.Mathlib.Omega.{arith}
use lib.Dec.{eqb}
use lib.ListN.{set}
use Rattle.operation.specs.declared.Operation.{Operation}
use Rattle.buffers.specs.Parts.{over}
use Rattle.bus_state.specs.declared.NodeState.{NodeState}
use Rattle.arbitration.specs.declared.Injection.{Injection}
use Rattle.scan.specs.Winner.{entry_of}
use Rattle.arbitration.specs.Owed.{owed_to}
use Rattle.arbitration.specs.After.{entry_after, entries_after, queues_after}

module _ (e : Option Injection) (nodes : List NodeState) (owner size : ℕ) where
  pub entries_next : (j n : ℕ) (l : List NodeState) → j < n
      → entries_after e nodes owner size j (n - j) l
      ≡ entries_after e nodes owner size (suc j) (n - suc j) (set l j (entry_after e (entry_of nodes j) (eqb j owner) size))
  unfolding entries_after
  entries_next j n l h =
      let k : n - j ≡ suc (n - suc j) = omega arith in
      ap (λ (i : ℕ). entries_after e nodes owner size j i l) k

  pub entries-end : (j n : ℕ) (l : List NodeState) → n ≤ j → entries_after e nodes owner size j (n - j) l ≡ l
  unfolding entries_after
  entries-end j n l h =
      let k : n - j ≡ 0 = omega arith in
      ap (λ (i : ℕ). entries_after e nodes owner size j i l) k

module _ (e : Option Injection) (nodes : List NodeState) (owner position : ℕ) (op : Operation) (ids bytes : List ℕ) where
  pub queues-next : (j n : ℕ) (q : List ℕ) → j < n
      → queues_after e nodes owner position op ids bytes j (n - j) q
      ≡ queues_after e nodes owner position op ids bytes (suc j) (n - suc j)
      (over q (4_096 * j + (entry_of nodes j).fill) (owed_to e (entry_of nodes j) j owner position op ids bytes))
  unfolding queues_after
  queues-next j n q h =
      let k : n - j ≡ suc (n - suc j) = omega arith in
      ap (λ (i : ℕ). queues_after e nodes owner position op ids bytes j i q) k

  pub queues-end : (j n : ℕ) (q : List ℕ) → n ≤ j → queues_after e nodes owner position op ids bytes j (n - j) q ≡ q
  unfolding queues_after
  queues-end j n q h =
      let k : n - j ≡ 0 = omega arith in
      ap (λ (i : ℕ). queues_after e nodes owner position op ids bytes j i q) k
