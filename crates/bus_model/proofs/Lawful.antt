-- A slot that holds a frame which meets the content rules: its numbers fit their fields, its data their bytes, and its bytes read
-- as its Transmit.
-- Assumes nothing.
use mathlib.Core.Path.{◌≡◌, refl}
use Prim.Native.Nat.{ℕ, ◌≤◌, ◌<◌}
use native.Mathlib.Omega.{arith}
use mathlib.Core.Bool.{Bool, true, false, cond}
use mathlib.Core.List.{List}
use lib.Dec.{leb, eqb, lit≤}
use lib.ListN.{length}
use borrow.Author.Tests.{leb-true}
use Rattle.operation.specs.Format.{data_length, encode, TypedOperation}
use Rattle.operation.specs.Rules.{max_id, rules, legal}
use Rattle.operation.specs.declared.Operation.{Operation}
use Rattle.operation.specs.declared.Operation.TheVariants.{CanTransmit, FdTransmit, XlTransmit}
use Rattle.operation.proofs.Sizes.{fd-short}
use Rattle.operation.proofs.Tests.{false_is_true, both, passed}
use Rattle.slots.specs.Slots.{content_of, held_in, legal_content}
use Rattle.slots.specs.declared.Slot.{Slot}
use Rattle.slots.proofs.Contents.{by_kind}
use Rattle.std.specs.Prelude.{Option, Some, None}
use Rattle.operation.specs.Kinds.{is_transmit}
use Rattle.plain_bus.proofs.ValidBus.{ReadsWhole}
use Rattle.plain_bus.proofs.Codec.{reads-written}
use Rattle.bus_model.specs.Refines.{TypedSlot}

pub max_id_lem : (ide : ℕ) → max_id ide ≤ 536_870_911
max_id_lem ide = go (eqb ide 0)
  where
    go : (t : Bool) → cond t 2_047 536_870_911 ≤ 536_870_911
    go true = lit≤ tt
    go false = lit≤ tt

-- ---- what a slot holds

-- a Transmit that meets its rules, and whose numbers fit
pub record Lawful (op : Operation) : Type 0 where
  pub transmit : is_transmit op ≡ true
  pub lawful : legal op ≡ true
  pub typed : TypedOperation op
  pub short : data_length op ≤ 2_048

can-lawful : (id ide rtr dl : ℕ) → legal (CanTransmit id ide rtr dl) ≡ true → Lawful (CanTransmit id ide rtr dl)
unfolding legal rules
can-lawful id ide rtr dl l =
    let a = leb-true ide 1 (passed _ l 0) in
    let b = leb-true id (max_id ide) (passed _ l 1) in
    let m = max_id_lem ide in
    let c = leb-true rtr 1 (passed _ l 2) in
    let d = leb-true dl 8 (passed _ l 3) in
    record { transmit = refl; lawful = l; typed = (omega arith, omega arith, omega arith, omega arith); short = omega arith }

fd-lawful : (id ide brs esi dl : ℕ) → legal (FdTransmit id ide brs esi dl) ≡ true → Lawful (FdTransmit id ide brs esi dl)
unfolding legal rules
fd-lawful id ide brs esi dl l =
    let a = leb-true ide 1 (passed _ l 0) in
    let b = leb-true id (max_id ide) (passed _ l 1) in
    let m = max_id_lem ide in
    let c = leb-true brs 1 (passed _ l 2) in
    let d = leb-true esi 1 (passed _ l 3) in
    let e = fd-short dl (passed _ l 4) in
    record { transmit = refl; lawful = l; typed = (omega arith, omega arith, omega arith, omega arith, omega arith); short = omega arith }

xl-lawful : (id ide sec sdt vcid af dl : ℕ) → legal (XlTransmit id ide sec sdt vcid af dl) ≡ true → sdt < 256 → vcid < 256
    → af < 4_294_967_296 → Lawful (XlTransmit id ide sec sdt vcid af dl)
unfolding legal rules
xl-lawful id ide sec sdt vcid af dl l hs hv ha =
    let a = leb-true ide 1 (passed _ l 0) in
    let b = leb-true id (max_id ide) (passed _ l 1) in
    let m = max_id_lem ide in
    let c = leb-true sec 1 (passed _ l 2) in
    let d = leb-true dl 2_048 (both (leb 1 dl) (leb dl 2_048) (passed _ l 3)).1 in
    record {
      transmit = refl;
      lawful = l;
      typed = (omega arith, omega arith, omega arith, hs, hv, ha, omega arith);
      short = omega arith;
    }

pub slot-lawful : (s : Slot) → TypedSlot s → legal_content (content_of s) ≡ true → Lawful (held_in (content_of s))
slot-lawful s t =
    by_kind (λ c. legal_content c ≡ true → Lawful (held_in c)) s (λ l. can-lawful _ _ _ _ l) (λ l. fd-lawful _ _ _ _ _ l)
    (λ l. xl-lawful _ _ _ _ _ _ _ l t.third t.fourth t.af) (λ l. false_is_true l)

-- and the other way
pub content-legal : (c : Option Operation) → is_transmit (held_in c) ≡ true → legal (held_in c) ≡ true → legal_content c ≡ true
content-legal None t l = false_is_true t
content-legal (Some op) t l = l

-- ---- its bytes

pub lawful-reads : (op : Operation) (payload : List ℕ) → Lawful op → length payload ≡ data_length op → ReadsWhole op (encode op payload)
lawful-reads op payload l p = reads-written op payload l.typed l.lawful p (omega (arith, l.short))
