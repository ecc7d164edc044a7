-- A memory whose state and slots are machine values of their types is a `TypedMemory`, where the lent memory has its sizes.
-- Assumes nothing.
use Prim.Native.Nat.{ℕ, zero, suc, ◌<◌}
use mathlib.Core.Path.{◌≡◌}
use mathlib.Core.Bool.{true, ◌&&◌}
use mathlib.Core.List.{List, [], ◌∷◌}
use native.Mathlib.Omega.{arith}
use lib.Dec.{eqb}
use lib.ListN.{length, get_or}
use mir.Val.{Val}
use borrow.Author.Tests.{eqb-true}
use denote.Array.{each}
use denote.Laws.{Is}
use denote.Shadow.{shadow}
use Rattle.operation.proofs.Tests.{both}
use Rattle.slots.specs.Slots.{free_slot}
use Rattle.slots.specs.declared.Slot.{Slot}
use Rattle.slots.specs.contracts.Slot as T
use Rattle.bus_state.specs.Memory.{held, no_node, lent_well}
use Rattle.bus_state.specs.declared.NodeState.{NodeState}
use Rattle.bus_state.specs.declared.State.{State}
use Rattle.bus_state.specs.contracts.NodeState as N
use Rattle.bus_state.specs.contracts.State as St
use Rattle.kettlefrost.specs.declared.FlatOperation.{FlatOperation}
use Rattle.kettlefrost.specs.contracts.FlatOperation as F
use Rattle.claims.proofs.Named.{TypedFlat}
use Rattle.bus_model.specs.Refines.{TypedSlot, TypedMemory}

-- ---- a slot, and each of some slots

pub slot-typed : (x : Slot) (vs : List Val) → Is T.the_row x vs → TypedSlot x
slot-typed x vs g =
    let p = g.1.1.1.1 in
    let q = p.1.1.1.1.1.1 in
    record { af = p.0.1; third = q.0.1; fourth = q.1.0.1 }

pub free_typed : TypedSlot free_slot
free_typed = record { af = omega arith; third = omega arith; fourth = omega arith }

abbrev pub TypedSlots : List Slot → Type 0
TypedSlots ys = (p : ℕ) → TypedSlot (get_or ys p free_slot)

-- ---- a state

-- an array that is a field has its elements as their rows have them
entry_at : (ds : List NodeState) (us : List Val)
    → shadow (each (N.the_row).Denot (N.the_row).own_val ds us) → (j : ℕ) → j < length ds
    → length (get_or ds j no_node).rates ≡ 3
entry_at [] us g j l = absurd (omega (arith, l))
entry_at (d ∷ ds) [] g j l = absurd g
entry_at (d ∷ ds) (u ∷ us) g zero l = g.0.1.1.0.1.0.1
entry_at (d ∷ ds) (u ∷ us) g (suc j) l = entry_at ds us g.1 j (omega (arith, l))

-- ---- a memory

pub memory-typed : (s : State) (vs : List Val) (ys : List Slot) (ps qs : List ℕ) → Is St.the_row s vs → TypedSlots ys → lent_well
    (held s ys ps qs) ≡ true
    → TypedMemory (held s ys ps qs)
unfolding lent_well
memory-typed s vs ys ps qs g t e =
    let a = both (eqb (length ys) 32 && eqb (length ps) 65_536) (eqb (length qs) 32_768) e in
    let b = both (eqb (length ys) 32) (eqb (length ps) 65_536) a.0 in
    let nodes = g.1.1.1.1.0 in
    let eight : length s.nodes ≡ 8 = nodes.1.0.1 in
    record {
      sized = record {
        slots = eqb-true (length ys) 32 b.0;
        payload = eqb-true (length ps) 65_536 b.1;
        queues = eqb-true (length qs) 32_768 a.1;
        nodes = eight;
      };
      round = let h = g.1.1.1.0.1 in omega (arith, h);
      rates = λ j l. entry_at s.nodes nodes.0 nodes.1.1 j (omega (arith, l, eight));
      fields = t;
    }

-- ---- an operation's record

pub flat-typed : (f : FlatOperation) (vs : List Val) → Is F.the_row f vs → TypedFlat f
flat-typed f vs g =
    let p = g.1.1.1 in
    let q = p.1.1.1 in
    record {
      id = p.0.1;
      word = p.1.0.1;
      length = p.1.1.0.1;
      first = q.0.1;
      second = q.1.0.1;
      third = q.1.1.0.1;
      fourth = q.1.1.1.0.1;
    }
