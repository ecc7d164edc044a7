-- The room in the queues, node by node.
-- Assumes nothing.
use mathlib.Core.Path.{◌≡◌, ap, ◌∙◌}
use mathlib.Core.Bool.{true, false, ◌&&◌}
use mathlib.Core.List.{List}
use Rattle.std.specs.Prelude.{Option}
use Prim.Native.Nat.{ℕ, zero, suc, ◌+◌, ◌-◌, ◌*◌, ◌≤◌, ◌<◌}
use native.Mathlib.Omega.{arith}
use native.Mathlib.Nat.{add-zero, zero-add}
use lib.Dec.{leb, eqb}
use lib.ListN.{length, length-append}
use borrow.Author.Tests.{leb-true, le-leb, lt-leb}
use Rattle.operation.specs.Format.{data_length, length_of}
use Rattle.operation.specs.declared.Operation.{Operation}
use Rattle.operation.proofs.Tests.{both}
use Rattle.bus_state.specs.Memory.{node_state, is_off}
use Rattle.bus_state.specs.declared.State.{State}
use Rattle.bus_state.specs.declared.NodeState.{NodeState}
use Rattle.arbitration.specs.declared.Injection.{Injection}
use Rattle.scan.specs.Winner.{entry_of}
use Rattle.arbitration.specs.Owed.{Tellable, PendingAt, discarded, news_to, notices_but, owed_to, owed_length, room_from}
use Rattle.arbitration.proofs.Lengths.{owed_length_is}

module _ (e : Option Injection) (nodes : List NodeState) (owner size : ℕ) where
  -- what node j's queue holds after the round
  abbrev pub grown : ℕ → ℕ
  grown j = (entry_of nodes j).fill + owed_length e (entry_of nodes j) (eqb j owner) size

  room_next : (j n : ℕ) → j < n
      → room_from e nodes owner size j (n - j) ≡ (leb (grown j) 4_096 && room_from e nodes owner size (suc j) (n - suc j))
  unfolding room_from
  room_next j n h =
      let k : n - j ≡ suc (n - suc j) = omega arith in
      ap (room_from e nodes owner size j) k

  pub room_bad : (j n : ℕ) → j < n → 4_096 < grown j → room_from e nodes owner size j (n - j) ≡ false
  room_bad j n h b = room_next j n h ∙ rw (lt-leb (grown j) 4_096 b)

  pub room-good : (j n : ℕ) → j < n → grown j ≤ 4_096
      → room_from e nodes owner size j (n - j) ≡ room_from e nodes owner size (suc j) (n - suc j)
  room-good j n h g = room_next j n h ∙ rw (le-leb (grown j) 4_096 g)

  pub room-end : (j n : ℕ) → n ≤ j → room_from e nodes owner size j (n - j) ≡ true
  unfolding room_from
  room-end j n h =
      let k : n - j ≡ 0 = omega arith in
      ap (room_from e nodes owner size j) k

  room_from_lem : (n j : ℕ) → room_from e nodes owner size j n ≡ true → (i : ℕ) → i < n → grown (j + i) ≤ 4_096
  unfolding room_from
  room_from_lem zero j q i h = absurd (omega arith)
  room_from_lem (suc n) j q zero h = rw add-zero (leb-true (grown j) 4_096 (both _ (room_from e nodes owner size (suc j) n) q).0)
  room_from_lem (suc n) j q (suc i) h =
      let k : suc j + i ≡ j + suc i = omega arith in
      rw k at (room_from_lem n (suc j) (both (leb (grown j) 4_096) _ q).1 i (omega arith))

  -- what the test says of one node
  pub room_at : (n : ℕ) → room_from e nodes owner size 0 n ≡ true → (j : ℕ) → j < n → grown j ≤ 4_096
  room_at n q j h = rw zero-add at (room_from_lem n 0 q j h)

-- and of the bytes that it is owed
pub owed-fits : {s : State} {owner position : ℕ} {ids : List ℕ} (e : Option Injection) (op : Operation) (bytes : List ℕ) (size : ℕ)
    → Tellable s ids → PendingAt s owner position → length bytes ≡ data_length op → size ≡ length_of op
    → room_from e s.nodes owner size 0 s.count ≡ true → (j : ℕ) → j < s.count
    → let d : NodeState = node_state s j in
    d.fill
    + (length (news_to e j owner (is_off d) op bytes) + length (notices_but ids (4 * owner + position) (4 * j) (discarded d)))
    ≤ 4_096
unfolding owed_to
owed-fits {s} {owner} {position} {ids} e op bytes size t w b n r j h =
    let d = node_state s j in
    let news = news_to e j owner (is_off d) op bytes in
    let told = notices_but ids (4 * owner + position) (4 * j) (discarded d) in
    let k = owed_length_is e op bytes size t w b n j h in
    omega (arith, k, length-append news told, room_at e s.nodes owner size s.count r j h)
