-- Internal. The values of the standard's tables, each with its number and its name, and the value that a number stands for.
-- Assumes nothing.
use Rattle.std.specs.Prelude.{ℕ, List, [], ◌∷◌, Result, Ok, Err, cond, eqb, codes}
use Rattle.operation.specs.declared.NotInTable.{NotInTable}
use Rattle.operation.specs.declared.Code.{Code}
use Rattle.operation.specs.declared.Code.TheVariants as code
use Rattle.operation.specs.declared.ErrorCode.{ErrorCode}
use Rattle.operation.specs.declared.ErrorCode.TheVariants.{BitError, BitStuffingError, FormError, CrcError, AckError, BrokenErrorFrame}
use Rattle.operation.specs.declared.ErrorFlag.{ErrorFlag}
use Rattle.operation.specs.declared.ErrorFlag.TheVariants.{Primary, Secondary}
use Rattle.operation.specs.declared.NodeStatus.{NodeStatus}
use Rattle.operation.specs.declared.NodeStatus.TheVariants.{ErrorActive, ErrorPassive, BusOff}
use Rattle.operation.specs.declared.ConfigurationKind.{ConfigurationKind}
use Rattle.operation.specs.declared.ConfigurationKind.TheVariants.{CanBaudrate, CanFdBaudrate, CanXlBaudrate, ArbitrationLostBehavior}
use Rattle.operation.specs.declared.LostBehavior.{LostBehavior}
use Rattle.operation.specs.declared.LostBehavior.TheVariants.{BufferAndRetransmit, DiscardAndNotify}

-- the value of a table that has the number x
abbrev pub look_up : {V : Type 0} → (V → ℕ) → List V → ℕ → Result V NotInTable
look_up number [] x = Err (record {})
look_up number (v ∷ vs) x = cond (eqb x (number v)) (Ok v) (look_up number vs x)

-- ---- Code

abbrev pub code_number : Code → ℕ
code_number code.FormatError = 0x01
code_number code.CanTransmit = 0x10
code_number code.FdTransmit = 0x11
code_number code.XlTransmit = 0x12
code_number code.Confirm = 0x20
code_number code.ArbitrationLost = 0x30
code_number code.BusError = 0x31
code_number code.Configuration = 0x40
code_number code.Status = 0x41
code_number code.Wakeup = 0x42

abbrev pub code_table : List Code
code_table =
    code.FormatError ∷ code.CanTransmit ∷ code.FdTransmit ∷ code.XlTransmit ∷ code.Confirm ∷ code.ArbitrationLost
    ∷ code.BusError ∷ code.Configuration ∷ code.Status ∷ code.Wakeup ∷ []

abbrev pub code_from : ℕ → Result Code NotInTable
code_from = look_up code_number code_table

-- ---- ErrorCode

abbrev pub error_code_number : ErrorCode → ℕ
error_code_number BitError = 1
error_code_number BitStuffingError = 2
error_code_number FormError = 3
error_code_number CrcError = 4
error_code_number AckError = 5
error_code_number BrokenErrorFrame = 6

abbrev pub error_code_table : List ErrorCode
error_code_table = BitError ∷ BitStuffingError ∷ FormError ∷ CrcError ∷ AckError ∷ BrokenErrorFrame ∷ []

abbrev pub error_code_from : ℕ → Result ErrorCode NotInTable
error_code_from = look_up error_code_number error_code_table

abbrev pub error_code_name : ErrorCode → List ℕ
error_code_name BitError = codes "BIT_ERROR"
error_code_name BitStuffingError = codes "BIT_STUFFING_ERROR"
error_code_name FormError = codes "FORM_ERROR"
error_code_name CrcError = codes "CRC_ERROR"
error_code_name AckError = codes "ACK_ERROR"
error_code_name BrokenErrorFrame = codes "BROKEN_ERROR_FRAME"

-- ---- ErrorFlag

abbrev pub error_flag_number : ErrorFlag → ℕ
error_flag_number Primary = 1
error_flag_number Secondary = 2

abbrev pub error_flag_table : List ErrorFlag
error_flag_table = Primary ∷ Secondary ∷ []

abbrev pub error_flag_from : ℕ → Result ErrorFlag NotInTable
error_flag_from = look_up error_flag_number error_flag_table

abbrev pub error_flag_name : ErrorFlag → List ℕ
error_flag_name Primary = codes "PRIMARY_ERROR_FLAG"
error_flag_name Secondary = codes "SECONDARY_ERROR_FLAG"

-- ---- NodeStatus

abbrev pub status_number : NodeStatus → ℕ
status_number ErrorActive = 1
status_number ErrorPassive = 2
status_number BusOff = 3

abbrev pub status_table : List NodeStatus
status_table = ErrorActive ∷ ErrorPassive ∷ BusOff ∷ []

abbrev pub status_from : ℕ → Result NodeStatus NotInTable
status_from = look_up status_number status_table

abbrev pub status_name : NodeStatus → List ℕ
status_name ErrorActive = codes "ERROR_ACTIVE"
status_name ErrorPassive = codes "ERROR_PASSIVE"
status_name BusOff = codes "BUS_OFF"

-- ---- ConfigurationKind

abbrev pub configuration_kind_number : ConfigurationKind → ℕ
configuration_kind_number CanBaudrate = 1
configuration_kind_number CanFdBaudrate = 2
configuration_kind_number CanXlBaudrate = 3
configuration_kind_number ArbitrationLostBehavior = 4

abbrev pub configuration_kind_table : List ConfigurationKind
configuration_kind_table = CanBaudrate ∷ CanFdBaudrate ∷ CanXlBaudrate ∷ ArbitrationLostBehavior ∷ []

abbrev pub configuration_kind_from : ℕ → Result ConfigurationKind NotInTable
configuration_kind_from = look_up configuration_kind_number configuration_kind_table

abbrev pub configuration_kind_name : ConfigurationKind → List ℕ
configuration_kind_name CanBaudrate = codes "CAN_BAUDRATE"
configuration_kind_name CanFdBaudrate = codes "CAN_FD_BAUDRATE"
configuration_kind_name CanXlBaudrate = codes "CAN_XL_BAUDRATE"
configuration_kind_name ArbitrationLostBehavior = codes "ARBITRATION_LOST_BEHAVIOR"

-- ---- LostBehavior

abbrev pub behaviour_number : LostBehavior → ℕ
behaviour_number BufferAndRetransmit = 1
behaviour_number DiscardAndNotify = 2

abbrev pub behaviour_table : List LostBehavior
behaviour_table = BufferAndRetransmit ∷ DiscardAndNotify ∷ []

abbrev pub behaviour_from : ℕ → Result LostBehavior NotInTable
behaviour_from = look_up behaviour_number behaviour_table

abbrev pub behaviour_name : LostBehavior → List ℕ
behaviour_name BufferAndRetransmit = codes "BUFFER_AND_RETRANSMIT"
behaviour_name DiscardAndNotify = codes "DISCARD_AND_NOTIFY"
