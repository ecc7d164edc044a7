-- Examples. The content rules at their edges: operations that meet them, operations that break one, and the statement about both.
-- Assumes nothing.
use Rattle.std.specs.Prelude.{ℕ, ◌≡◌, List, [], ◌∷◌, ◌++◌, map, true, false, length, replicate}
use Rattle.operation.specs.Rules.{legal}
use Rattle.operation.specs.declared.Operation.{Operation}
use Rattle.operation.specs.declared.Operation.TheVariants.{CanTransmit, FdTransmit, XlTransmit, Confirm, ArbitrationLost, BusError, Configuration, Status}

unfoldable pub legal_edges : List Operation
legal_edges =
    -- a data frame of 8 bytes, remote frames of none
    CanTransmit 1 0 0 8
    ∷ CanTransmit 1 0 1 0
    ∷ CanTransmit 536_870_911 1 1 0
    -- FD and XL have no Rtr
    ∷ map (FdTransmit 1 0 1 1) (8 ∷ 12 ∷ 16 ∷ 20 ∷ 24 ∷ 32 ∷ 48 ∷ 64 ∷ [])
    ++ XlTransmit 536_870_911 1 0 255 255 4_294_967_295 1
    ∷ XlTransmit 1 0 1 0 0 0 2_048
    ∷ Confirm 536_870_911
    ∷ ArbitrationLost 536_870_911
    ∷ BusError 536_870_911 1 2 1
    ∷ map (λ (code : ℕ). BusError 1 code 1 0) (1 ∷ 2 ∷ 3 ∷ 4 ∷ 5 ∷ 6 ∷ [])
    ++ Configuration 4 1
    ∷ Configuration 4 2
    ∷ map (λ (kind : ℕ). Configuration kind 1) (1 ∷ 2 ∷ 3 ∷ [])
    ++ map Status (1 ∷ 2 ∷ 3 ∷ [])

unfoldable pub illegal_edges : List Operation
illegal_edges =
    -- remote frames with data
    CanTransmit 1 0 1 1
    ∷ CanTransmit 1 0 1 8
    ∷ CanTransmit 536_870_911 1 1 1
    -- Ide, Rtr, Brs, Esi, Sec, Is Sender
    ∷ CanTransmit 1 2 0 0
    ∷ CanTransmit 1 0 2 0
    ∷ FdTransmit 1 2 0 0 0
    ∷ FdTransmit 1 0 2 0 0
    ∷ FdTransmit 1 0 0 2 0
    ∷ XlTransmit 1 2 0 0 0 0 1
    ∷ XlTransmit 1 0 2 0 0 0 1
    ∷ BusError 1 1 1 2
    -- IDs
    ∷ FdTransmit 2_048 0 0 0 0
    ∷ XlTransmit 2_048 0 1 0 0 0 1
    ∷ Confirm 536_870_912
    ∷ ArbitrationLost 536_870_912
    ∷ BusError 536_870_912 1 1 0
    -- DL of another kind
    ∷ CanTransmit 1 0 0 12
    ∷ FdTransmit 1 0 0 0 2_048
    ∷ XlTransmit 1 0 0 0 0 0 0
    -- tables
    ∷ BusError 1 0 1 0
    ∷ BusError 1 7 1 0
    ∷ BusError 1 1 0 1
    ∷ BusError 1 1 3 0
    ∷ Configuration 0 1
    ∷ Configuration 5 1
    ∷ Configuration 1 0
    ∷ Configuration 4 0
    ∷ Configuration 4 3
    ∷ Status 0
    ∷ Status 4
    ∷ []

abbrev pub EdgesHold : Type 0
EdgesHold =
    (map legal legal_edges ≡ replicate (length legal_edges) true)
    × (map legal illegal_edges ≡ replicate (length illegal_edges) false)
