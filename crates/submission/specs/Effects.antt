-- Internal. What an item of a submitted buffer does (01, "Handing in"): told by the item alone, apart from the state it meets.
-- Assumes nothing.
use Rattle.std.specs.Prelude.{ℕ, ◌-◌, ◌≤◌, ◌<◌, ◌≡◌, List, ◌∷◌, cond, eqb, length, take, drop, Option, Some, None}
use Rattle.operation.specs.Format.{head_length}
use Rattle.operation.specs.declared.Operation.{Operation}
use Rattle.operation.specs.declared.Operation.TheVariants.{FormatError, CanTransmit, FdTransmit, XlTransmit, Confirm, ArbitrationLost, BusError, Configuration, Status, Wakeup}
use Rattle.decoder.specs.Reading.{data_at}
use Rattle.decoder.specs.Stream.{Item, operation, fault, bytes_of, items_of}
use Rattle.plain_bus.specs.Submit.{unanswered}
use Rattle.bus_state.specs.Memory.{bytes_per_slot}
use Rattle.submission.specs.declared.Effect.{Effect}
use Rattle.submission.specs.declared.Effect.TheVariants.{Nothing, Transmit, Answer, SetRate, SetBehaviour, SetStatus, Wake}
use Rattle.submission.specs.declared.Step.{Step}

-- a Configuration of kind 4 sets the behaviour, of kinds 1 to 3 a baud rate
abbrev pub configuration_effect : ℕ → ℕ → Effect
configuration_effect kind value = cond (eqb kind 4) (SetBehaviour value) (SetRate (kind - 1) value)

unfoldable pub operation_effect : Operation → Effect
operation_effect (FormatError n) = Nothing
operation_effect (CanTransmit id ide rtr dl) = Transmit (CanTransmit id ide rtr dl)
operation_effect (FdTransmit id ide brs esi dl) = Transmit (FdTransmit id ide brs esi dl)
operation_effect (XlTransmit id ide sec sdt vcid af dl) = Transmit (XlTransmit id ide sec sdt vcid af dl)
operation_effect (Confirm id) = Answer
operation_effect (ArbitrationLost id) = Answer
operation_effect (BusError id code flag sender) = Answer
operation_effect (Configuration kind value) = configuration_effect kind value
operation_effect (Status status) = SetStatus status
operation_effect Wakeup = Wake

unfoldable pub fault_effect : List ℕ → Effect
fault_effect bytes = cond (unanswered bytes) Nothing Answer

abbrev pub effect_of : Item → Effect
effect_of (operation op bytes) = operation_effect op
effect_of (fault number bytes) = fault_effect bytes

-- a baud rate that is set is one of three
abbrev pub SmallRate : Effect → Type 0
SmallRate e = (i rate : ℕ) → e ≡ SetRate i rate → i < 3

-- the data of a Transmit from one position of a buffer to another are what follows its header, and fit a slot
abbrev pub DataFit : Effect → List ℕ → ℕ → ℕ → Type 0
DataFit e s at end =
    (op : Operation) → e ≡ Transmit op
    → (data_at s op end ≡ drop (head_length op) (take (end - at) (drop at s))) × (length (data_at s op end) ≤ bytes_per_slot)

-- a step at a position of a buffer: the item there, its effect, and where it ends
pub record Taken (s : List ℕ) (at : ℕ) (r : Step) : Type 0 where
  pub item : Item
  pub items : items_of (drop at s) ≡ item ∷ items_of (drop r.end s)
  pub bytes : bytes_of item ≡ take (r.end - at) (drop at s)
  pub effect : r.effect ≡ effect_of item
  pub rate : SmallRate r.effect
  pub fit : DataFit r.effect s at r.end
  pub forward : at < r.end
  pub within : r.end ≤ length s

-- what stands at a position of a buffer: nothing at its end, and a step before
abbrev pub NextIs : List ℕ → ℕ → Option Step → Type 0
NextIs s at None = length s ≤ at
NextIs s at (Some r) = Taken s at r
