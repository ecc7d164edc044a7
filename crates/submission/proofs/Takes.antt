-- The step at a position of a buffer, from what was read there.
-- Assumes nothing.
use mathlib.Core.Path.{◌≡◌, refl, sym, ap, ◌∙◌}
use mathlib.Core.Bool.{Bool, true, false, cond}
use mathlib.Core.List.{List}
use Prim.Native.Nat.{ℕ, ◌+◌, ◌-◌, ◌<◌}
use native.Mathlib.Omega.{arith}
use lib.Dec.{eqb}
use lib.ListN.{length, take, drop, length-drop}
use lib.Seq.{length-take-le}
use borrow.Author.Tests.{eqb-false}
use Rattle.operation.specs.Format.{head_length}
use Rattle.operation.specs.Rules.{legal}
use Rattle.operation.specs.Kinds.{is_transmit}
use Rattle.operation.specs.declared.Operation.{Operation}
use Rattle.operation.specs.declared.Operation.TheVariants.{FormatError, CanTransmit, FdTransmit, XlTransmit, Confirm, ArbitrationLost, BusError, Configuration, Status, Wakeup}
use Rattle.operation.proofs.Sizes.{transmit-short}
use Rattle.std.proofs.Common.{Some, Ok, Err}
use Rattle.decoder.specs.Front.{sized, front, fault_number}
use Rattle.decoder.specs.Reading.{data_at}
use Rattle.decoder.specs.Stream.{operation, fault}
use Rattle.decoder.specs.declared.Fault.{Fault}
use Rattle.decoder.proofs.Found.{found}
use Rattle.decoder.proofs.Payload.{data_found}
use Rattle.decoder.proofs.Items.{Spans}
use Rattle.plain_bus.specs.Submit.{unanswered}
use Rattle.submission.specs.Effects.{operation_effect, fault_effect, SmallRate, DataFit, Taken}
use Rattle.submission.specs.declared.Effect.TheVariants.{Nothing, Transmit, Answer, SetRate, SetBehaviour}
use Rattle.submission.specs.declared.Step.{Step}
use Rattle.submission.proofs.Settings.{rate_kind}

-- ---- the effect of an operation that meets its rules

small_rate : (op : Operation) → legal op ≡ true → SmallRate (operation_effect op)
unfolding operation_effect
small_rate (FormatError n) l i rate e = let z : ◌≡◌ {A = ℕ} 0 1 = cc in absurd (omega arith)
small_rate (CanTransmit id ide rtr dl) l i rate e = let z : ◌≡◌ {A = ℕ} 0 1 = cc in absurd (omega arith)
small_rate (FdTransmit id ide brs esi dl) l i rate e = let z : ◌≡◌ {A = ℕ} 0 1 = cc in absurd (omega arith)
small_rate (XlTransmit id ide sec sdt vcid af dl) l i rate e = let z : ◌≡◌ {A = ℕ} 0 1 = cc in absurd (omega arith)
small_rate (Confirm id) l i rate e = let z : ◌≡◌ {A = ℕ} 0 1 = cc in absurd (omega arith)
small_rate (ArbitrationLost id) l i rate e = let z : ◌≡◌ {A = ℕ} 0 1 = cc in absurd (omega arith)
small_rate (BusError id code flag sender) l i rate e = let z : ◌≡◌ {A = ℕ} 0 1 = cc in absurd (omega arith)
small_rate (Status status) l i rate e = let z : ◌≡◌ {A = ℕ} 0 1 = cc in absurd (omega arith)
small_rate Wakeup l i rate e = let z : ◌≡◌ {A = ℕ} 0 1 = cc in absurd (omega arith)
small_rate (Configuration kind value) l i rate e = go (eqb kind 4) refl e
  where
    go : (t : Bool) → eqb kind 4 ≡ t → cond t (SetBehaviour value) (SetRate (kind - 1) value) ≡ SetRate i rate → i < 3
    go true q e = let z : ◌≡◌ {A = ℕ} 0 1 = cc in absurd (omega arith)
    go false q e =
        let a : kind - 1 ≡ i = cc in
        omega (arith, rate_kind kind value l (eqb-false kind 4 q))

-- only a Transmit has that effect, and it is that Transmit
only_transmit : (o : Operation) (op : Operation) → operation_effect o ≡ Transmit op → (o ≡ op) × (is_transmit op ≡ true)
unfolding operation_effect
only_transmit (FormatError n) op e = let z : ◌≡◌ {A = ℕ} 0 1 = cc in absurd (omega arith)
only_transmit (CanTransmit id ide rtr dl) op e = let q : CanTransmit id ide rtr dl ≡ op = cc in (q, rw (sym q))
only_transmit (FdTransmit id ide brs esi dl) op e = let q : FdTransmit id ide brs esi dl ≡ op = cc in (q, rw (sym q))
only_transmit (XlTransmit id ide sec sdt vcid af dl) op e = let q : XlTransmit id ide sec sdt vcid af dl ≡ op = cc in (q, rw (sym q))
only_transmit (Confirm id) op e = let z : ◌≡◌ {A = ℕ} 0 1 = cc in absurd (omega arith)
only_transmit (ArbitrationLost id) op e = let z : ◌≡◌ {A = ℕ} 0 1 = cc in absurd (omega arith)
only_transmit (BusError id code flag sender) op e = let z : ◌≡◌ {A = ℕ} 0 1 = cc in absurd (omega arith)
only_transmit (Configuration kind value) op e = go (eqb kind 4) e
  where
    go : (t : Bool) → cond t (SetBehaviour value) (SetRate (kind - 1) value) ≡ Transmit op
        → (Configuration kind value ≡ op) × (is_transmit op ≡ true)
    go true e = let z : ◌≡◌ {A = ℕ} 0 1 = cc in absurd (omega arith)
    go false e = let z : ◌≡◌ {A = ℕ} 0 1 = cc in absurd (omega arith)
only_transmit (Status status) op e = let z : ◌≡◌ {A = ℕ} 0 1 = cc in absurd (omega arith)
only_transmit Wakeup op e = let z : ◌≡◌ {A = ℕ} 0 1 = cc in absurd (omega arith)

data_fit : (s : List ℕ) (at end : ℕ) (o : Operation) → at < end → front (drop at s) ≡ Some (sized (Ok o) (end - at)) → DataFit (operation_effect o) s at end
data_fit s at end o h e op q =
    let t = only_transmit o op q in
    let e' : front (drop at s) ≡ Some (sized (Ok op) (end - at)) = e ∙ ap (λ (x : Operation). Some (sized (Ok x) (end - at))) t.0 in
    let f = found e' in
    let p : at + (end - at) ≡ end = omega arith in
    let d : data_at s op end ≡ drop (head_length op) (take (end - at) (drop at s)) = rw p at (data_found s at op (end - at) e') in
    let short = transmit-short op t.1 f.lawful in
    let l : length (take (end - at) (drop at s)) ≡ end - at = length-take-le (end - at) (drop at s) f.within in
    (d, rw (d, length-drop) (omega (arith, f.exact)))

-- ---- the step

module _ (s : List ℕ) (at : ℕ) (r : Step) where
  abbrev bytes : List ℕ
  bytes = take (r.end - at) (drop at s)

  pub fault-taken : {f : Fault} → Spans s at r.end (sized (Err f) (r.end - at)) (fault (fault_number f) bytes) → r.effect ≡ fault_effect bytes → Taken s at r
  unfolding fault_effect
  fault-taken n f = record {
    item = _;
    items = n.items;
    bytes = refl;
    effect = f;
    rate = λ i rate g. none i rate (unanswered bytes) (sym f ∙ g);
    fit = λ op g. never op (unanswered bytes) (sym f ∙ g);
    forward = n.further;
    within = n.within;
  }
    where
      none : (i rate : ℕ) (t : Bool) {P : Type 0} → cond t Nothing Answer ≡ SetRate i rate → P
      none i rate true e = let z : ◌≡◌ {A = ℕ} 0 1 = cc in absurd (omega arith)
      none i rate false e = let z : ◌≡◌ {A = ℕ} 0 1 = cc in absurd (omega arith)

      never : (op : Operation) (t : Bool) {P : Type 0} → cond t Nothing Answer ≡ Transmit op → P
      never op true e = let z : ◌≡◌ {A = ℕ} 0 1 = cc in absurd (omega arith)
      never op false e = let z : ◌≡◌ {A = ℕ} 0 1 = cc in absurd (omega arith)

  pub operation-taken : {op : Operation} → Spans s at r.end (sized (Ok op) (r.end - at)) (operation op bytes) → r.effect ≡ operation_effect op → Taken s at r
  operation-taken {op} n f = record {
    item = _;
    items = n.items;
    bytes = refl;
    effect = f;
    rate = rw f (small_rate op (found n.stands).lawful);
    fit = rw f (data_fit s at r.end op n.further n.stands);
    forward = n.further;
    within = n.within;
  }

-- ---- a pass over a buffer ends

pub step-smaller : {s : List ℕ} {at : ℕ} {r : Step} → Taken s at r → length s - r.end < length s - at
step-smaller t = omega (arith, t.forward, t.within)
