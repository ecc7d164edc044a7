-- Believed. The ten operations as bytes: code, length and fields (01, "Operations as bytes", the table).
-- Assumes nothing.
use Rattle.std.specs.Prelude.{ℕ, ◌+◌, ◌^◌, ◌<◌, List, [], ◌∷◌, ◌++◌, cond, eqb}
use Rattle.operation.specs.Number.{little_endian}
use Rattle.operation.specs.declared.Operation.{Operation}
use Rattle.operation.specs.declared.Operation.TheVariants.{FormatError, CanTransmit, FdTransmit, XlTransmit, Confirm, ArbitrationLost, BusError, Configuration, Status, Wakeup}

-- column "Code"
abbrev pub code_of : Operation → ℕ
code_of (FormatError n) = 0x01
code_of (CanTransmit id ide rtr dl) = 0x10
code_of (FdTransmit id ide brs esi dl) = 0x11
code_of (XlTransmit id ide sec sdt vcid af dl) = 0x12
code_of (Confirm id) = 0x20
code_of (ArbitrationLost id) = 0x30
code_of (BusError id code flag sender) = 0x31
code_of (Configuration kind value) = 0x40
code_of (Status status) = 0x41
code_of Wakeup = 0x42

-- the length of a Configuration, by its kind: a behaviour, or a baud rate
abbrev pub configuration_length : ℕ → ℕ
configuration_length kind = cond (eqb kind 4) 10 13

-- column "Length", without DL or n
abbrev pub head_length : Operation → ℕ
head_length (FormatError n) = 10
head_length (CanTransmit id ide rtr dl) = 16
head_length (FdTransmit id ide brs esi dl) = 17
head_length (XlTransmit id ide sec sdt vcid af dl) = 22
head_length (Confirm id) = 12
head_length (ArbitrationLost id) = 12
head_length (BusError id code flag sender) = 15
head_length (Configuration kind value) = configuration_length kind
head_length (Status status) = 9
head_length Wakeup = 8

-- DL or n, and 0 where there is neither
abbrev pub data_length : Operation → ℕ
data_length (FormatError n) = n
data_length (CanTransmit id ide rtr dl) = dl
data_length (FdTransmit id ide brs esi dl) = dl
data_length (XlTransmit id ide sec sdt vcid af dl) = dl
data_length (Confirm id) = 0
data_length (ArbitrationLost id) = 0
data_length (BusError id code flag sender) = 0
data_length (Configuration kind value) = 0
data_length (Status status) = 0
data_length Wakeup = 0

-- column "Length"
abbrev pub length_of : Operation → ℕ
length_of op = head_length op + data_length op

-- column "Fields after the first eight bytes", without the data
abbrev pub fields_of : Operation → List ℕ
fields_of (FormatError n) = little_endian 2 n
fields_of (CanTransmit id ide rtr dl) = little_endian 4 id ++ ide ∷ rtr ∷ little_endian 2 dl
fields_of (FdTransmit id ide brs esi dl) = little_endian 4 id ++ ide ∷ brs ∷ esi ∷ little_endian 2 dl
fields_of (XlTransmit id ide sec sdt vcid af dl) =
    little_endian 4 id ++ ide ∷ sec ∷ sdt ∷ vcid ∷ little_endian 4 af ++ little_endian 2 dl
fields_of (Confirm id) = little_endian 4 id
fields_of (ArbitrationLost id) = little_endian 4 id
fields_of (BusError id code flag sender) = little_endian 4 id ++ code ∷ flag ∷ sender ∷ []
fields_of (Configuration kind value) = kind ∷ cond (eqb kind 4) (little_endian 1 value) (little_endian 4 value)
fields_of (Status status) = status ∷ []
fields_of Wakeup = []

-- all of an operation but its data
unfoldable pub header : Operation → List ℕ
header op = little_endian 4 (code_of op) ++ little_endian 4 (length_of op) ++ fields_of op

-- an operation with its data, as bytes
unfoldable pub encode : Operation → List ℕ → List ℕ
encode op payload = header op ++ payload

-- the numbers of an operation fit their fields, as the types of the source say
abbrev pub TypedOperation : Operation → Type 0
TypedOperation (FormatError n) = n < 2 ^ 16
TypedOperation (CanTransmit id ide rtr dl) = (id < 2 ^ 32) × (ide < 2 ^ 8) × (rtr < 2 ^ 8) × (dl < 2 ^ 16)
TypedOperation (FdTransmit id ide brs esi dl) = (id < 2 ^ 32) × (ide < 2 ^ 8) × (brs < 2 ^ 8) × (esi < 2 ^ 8) × (dl < 2 ^ 16)
TypedOperation (XlTransmit id ide sec sdt vcid af dl) =
    (id < 2 ^ 32) × (ide < 2 ^ 8) × (sec < 2 ^ 8) × (sdt < 2 ^ 8) × (vcid < 2 ^ 8) × (af < 2 ^ 32) × (dl < 2 ^ 16)
TypedOperation (Confirm id) = id < 2 ^ 32
TypedOperation (ArbitrationLost id) = id < 2 ^ 32
TypedOperation (BusError id code flag sender) = (id < 2 ^ 32) × (code < 2 ^ 8) × (flag < 2 ^ 8) × (sender < 2 ^ 8)
TypedOperation (Configuration kind value) = (kind < 2 ^ 8) × (value < 2 ^ 32)
TypedOperation (Status status) = status < 2 ^ 8
TypedOperation Wakeup = Unit {0}
