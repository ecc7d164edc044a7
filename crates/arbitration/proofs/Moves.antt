-- The removal of the winner's data, one frame's at a time.
-- Assumes nothing.
use mathlib.Core.Path.{◌≡◌, ap}
use mathlib.Core.List.{List}
use Prim.Native.Nat.{ℕ, suc, ◌+◌, ◌-◌, ◌*◌, ◌≤◌, ◌<◌}
use native.Mathlib.Omega.{arith}
use lib.ListN.{length}
use Rattle.operation.specs.Format.{data_length}
use Rattle.buffers.specs.Parts.{part, over}
use Rattle.buffers.proofs.Offsets.{length_part, length_over}
use Rattle.slots.specs.declared.Slot.{Slot}
use Rattle.scan.specs.Winner.{held_at}
use Rattle.arbitration.specs.After.{payload_without}

-- one frame's data, and those after it
pub data_next : (four : List Slot) (at q last : ℕ) (payload : List ℕ) → q < last
    → payload_without four at q (last - q) payload
    ≡ payload_without four at (suc q) (last - suc q)
    (over payload (2_048 * (at + q)) (part (2_048 * suc (at + q)) (data_length (held_at four (suc q))) payload))
unfolding payload_without
data_next four at q last payload h =
    let k : last - q ≡ suc (last - suc q) = omega arith in
    ap (λ (i : ℕ). payload_without four at q i payload) k

pub data_end_lem : (four : List Slot) (at q last : ℕ) (payload : List ℕ) → last ≤ q → payload_without four at q (last - q) payload ≡ payload
unfolding payload_without
data_end_lem four at q last payload h =
    let k : last - q ≡ 0 = omega arith in
    ap (λ (i : ℕ). payload_without four at q i payload) k

-- a part laid over the bytes before it
pub data_length-kept : (payload : List ℕ) (at from n : ℕ) → at + n ≤ from → from + n ≤ length payload
    → length (over payload at (part from n payload)) ≡ length payload
data_length-kept payload at from n h g =
    let k = length_part from n payload g in
    length_over at (part from n payload) payload (omega arith)
