-- What a step that can be done says of the sender's entry and of the state.
-- Assumes nothing.
use mathlib.Core.Path.{◌≡◌, refl}
use mathlib.Core.Bool.{Bool, true, false, cond}
use Prim.Native.Nat.{ℕ, ◌+◌, ◌≤◌, ◌<◌}
use native.Mathlib.Omega.{arith}
use lib.Dec.{leb}
use borrow.Author.Tests.{leb-true, leb-false}
use Rattle.operation.specs.declared.Operation.{Operation}
use Rattle.bus_state.specs.Memory.{slots_per_node, bytes_per_queue, node_state, is_off}
use Rattle.bus_state.specs.declared.State.{State}
use Rattle.bus_state.specs.declared.NodeState.{NodeState}
use Rattle.submission.specs.Counting.{is_wakeup, wakeup_room, answer_length, entry_check, check}
use Rattle.submission.specs.declared.Effect.{Effect}
use Rattle.submission.specs.declared.Effect.TheVariants.{Nothing, Transmit, Answer, SetRate, SetBehaviour, SetStatus, Wake}
use Rattle.submission.specs.declared.Lack.TheVariants.{FourPending, QueueFull}
use Rattle.submission.specs.declared.Lack.{Lack}
use Rattle.std.specs.Prelude.{Result, Ok, Err}

-- of a step that can be done
abbrev passed : Result (Unit {0}) Lack
passed = Ok tt

pub transmit-few : (d : NodeState) (op : Operation) (size : ℕ) → entry_check d (Transmit op) size ≡ Ok tt → is_off d ≡ false → d.pending < 4
unfolding entry_check
transmit-few d op size e o = go (leb slots_per_node d.pending) refl (rw o at e)
  where
    go : (t : Bool) → leb slots_per_node d.pending ≡ t → cond t (Err FourPending) passed ≡ passed → d.pending < 4
    go true q e = let z : ◌≡◌ {A = ℕ} 0 1 = cc in absurd (omega arith)
    go false q e = leb-false slots_per_node d.pending q

pub answer-fits : (d : NodeState) (size : ℕ) → entry_check d Answer size ≡ Ok tt → d.fill + answer_length size ≤ 4_096
unfolding entry_check
answer-fits d size e = go (leb (d.fill + answer_length size) bytes_per_queue) refl e
  where
    go : (t : Bool) → leb (d.fill + answer_length size) bytes_per_queue ≡ t → cond t passed (Err QueueFull) ≡ passed → d.fill + answer_length size ≤ 4_096
    go true q e = leb-true (d.fill + answer_length size) bytes_per_queue q
    go false q e = let z : ◌≡◌ {A = ℕ} 0 1 = cc in absurd (omega arith)

module _ (s : State) (k size : ℕ) where
  pub wake-room : check s k Wake size ≡ Ok tt → is_off (node_state s k) ≡ false → wakeup_room s.nodes k 1 0 s.count ≡ true
  unfolding check is_wakeup
  wake-room e o = go (wakeup_room s.nodes k 1 0 s.count) refl (rw o at e)
    where
      go : (t : Bool) → wakeup_room s.nodes k 1 0 s.count ≡ t → cond t passed (Err QueueFull) ≡ passed → wakeup_room s.nodes k 1 0 s.count ≡ true
      go true q e = q
      go false q e = let z : ◌≡◌ {A = ℕ} 0 1 = cc in absurd (omega arith)

  -- the sender's entry never refuses a Wakeup
  pub entry-can : (e : Effect) → check s k e size ≡ Ok tt → entry_check (node_state s k) e size ≡ Ok tt
  unfolding check is_wakeup entry_check
  entry-can Nothing g = refl
  entry-can (Transmit op) g = g
  entry-can Answer g = g
  entry-can (SetRate i rate) g = refl
  entry-can (SetBehaviour behaviour) g = refl
  entry-can (SetStatus status) g = refl
  entry-can Wake g = refl
