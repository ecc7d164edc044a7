-- What is encoded is found: the bytes of an operation that meets its rules, whatever follows them. The length and the data are
-- the same argument for every kind (`found_by`); a kind adds only that its fields are read back.
-- Assumes nothing.
use mathlib.Core.Path.{◌≡◌, refl, ap, ◌∙◌}
use mathlib.Core.Bool.{Bool, true, false, cond, ◌||◌}
use mathlib.Core.List.{List, ◌++◌}
use Prim.Native.Nat.{ℕ, ◌+◌, ◌≤◌, ◌<◌}
use native.Mathlib.Nat.{mod-eq_of_lt}
use native.Mathlib.Omega.{arith}
use lib.Dec.{leb, eqb, lit<, lit≤}
use lib.ListN.{length, get_or, take, length-append}
use lib.Seq.{take_at}
use borrow.Author.Tests.{le-ltb, eq-eqb, eqb-true}
use Rattle.operation.specs.Number.{little_endian, number, number_at}
use Rattle.operation.specs.Format.{head_length, data_length, code_of, length_of, header, encode, TypedOperation}
use Rattle.operation.specs.Rules.{behaviours, one_of, rules, legal}
use Rattle.operation.specs.declared.Operation.{Operation}
use Rattle.operation.specs.declared.Operation.TheVariants.{FormatError, CanTransmit, FdTransmit, XlTransmit, Confirm, ArbitrationLost, BusError, Configuration, Status, Wakeup}
use Rattle.operation.proofs.Numbers.{number-back, number_prefix}
use Rattle.operation.proofs.Sizes.{encode-length, head_least, head_small}
use Rattle.operation.proofs.Tests.{false_is_true, passed}
use Rattle.std.proofs.Common.{Some, Ok}
use Rattle.decoder.specs.Front.{holds, kind_of, shape_of, kind_outside, verdict, judge, decode, stated_length, sized, front}
use Rattle.decoder.proofs.Found.{front_is}

-- an operation that meets its rules has no kind outside 1 to 4
kind_inside : (op : Operation) → legal op ≡ true → kind_outside op ≡ false
unfolding legal rules
kind_inside (FormatError n) l = refl
kind_inside (CanTransmit id ide rtr dl) l = refl
kind_inside (FdTransmit id ide brs esi dl) l = refl
kind_inside (XlTransmit id ide sec sdt vcid af dl) l = refl
kind_inside (Confirm id) l = refl
kind_inside (ArbitrationLost id) l = refl
kind_inside (BusError id code flag sender) l = refl
kind_inside (Configuration kind value) l = rw (passed _ l 0, passed _ l 1)
kind_inside (Status status) l = refl
kind_inside Wakeup l = refl

-- once for every kind: where the fields of an operation are read back from its bytes, it is found at their front
found_by : (op : Operation) (payload rest : List ℕ) (least : ℕ) → legal op ≡ true → length payload ≡ data_length op → data_length op < 65536
    → code_of op < 4294967296 → shape_of (kind_of (code_of op)) (encode op payload) ≡ holds least op → least ≤ length_of op
    → front (encode op payload ++ rest) ≡ Some (sized (Ok op) (length_of op))
unfolding header encode decode judge verdict
found_by op payload rest least l p small c h enough =
    let t = encode op payload in
    let n = length_of op in
    let size : length (encode op payload) ≡ length_of op = encode-length op payload ∙ ap (λ (k : ℕ). head_length op + k) p in
    let whole : 8 ≤ length_of op = omega (arith, head_least op) in
    let stated : stated_length (encode op payload ++ rest) ≡ length_of op =
    number_prefix 4 4 t rest (omega arith) ∙ number-back 4 n (omega (arith, head_small op)) in
    let code : number_at 4 (encode op payload) 0 ≡ code_of op = number-back 4 (code_of op) c in
    front_is (t ++ rest) n whole (rw length-append (omega arith)) stated
    ∙ ap (λ (l : List ℕ). Some (sized (decode l) n)) (take_at t rest n size)
    ∙ rw (code, h, size, le-ltb n least enough, kind_inside op l, eq-eqb n n refl, l)

-- a behaviour is 1 or 2
pub behaviour_small : (value : ℕ) → one_of value behaviours ≡ true → value ≤ 2
unfolding one_of
behaviour_small value e = go (eqb value 1) refl (eqb value 2) refl e
  where
    go : (a : Bool) → eqb value 1 ≡ a → (b : Bool) → eqb value 2 ≡ b → (a || (b || false)) ≡ true → value ≤ 2
    go true qa b qb e = omega (arith, eqb-true value 1 qa)
    go false qa true qb e = omega (arith, eqb-true value 2 qb)
    go false qa false qb e = false_is_true e

-- what a Configuration carries is read back, by whether its kind is 4
setting-back : (value : ℕ) (payload : List ℕ) (b : Bool) → cond b (one_of value behaviours) (leb 1 value) ≡ true → value < 4294967296
    → let l : List ℕ = cond b (little_endian 1 value) (little_endian 4 value) ++ payload in
    cond b (get_or l 0 0) (number (take 4 l)) ≡ value
setting-back value payload true e h = mod-eq_of_lt (omega (arith, behaviour_small value e))
setting-back value payload false e h = number-back 4 value h

configuration-least : (b : Bool) → 9 ≤ cond b 10 13
configuration-least true = lit≤ tt
configuration-least false = lit≤ tt

pub encoded : (op : Operation) (payload rest : List ℕ) → TypedOperation op → legal op ≡ true → length payload ≡ data_length op → data_length op < 65536
    → front (encode op payload ++ rest) ≡ Some (sized (Ok op) (length_of op))
unfolding header encode shape_of legal rules
encoded (FormatError n) payload rest ty l p s =
    found_by (FormatError n) payload rest 10 l p s (lit< tt) (ap (λ (x : ℕ). holds 10 (FormatError x)) (number-back 2 n s)) (omega arith)
encoded (CanTransmit id ide rtr dl) payload rest ty l p s =
    found_by (CanTransmit id ide rtr dl) payload rest 16 l p s (lit< tt)
    (cc (number-back 4 id ty.0, number-back 2 dl s)) (omega arith)
encoded (FdTransmit id ide brs esi dl) payload rest ty l p s =
    found_by (FdTransmit id ide brs esi dl) payload rest 17 l p s (lit< tt)
    (cc (number-back 4 id ty.0, number-back 2 dl s)) (omega arith)
encoded (XlTransmit id ide sec sdt vcid af dl) payload rest ty l p s =
    found_by (XlTransmit id ide sec sdt vcid af dl) payload rest 22 l p s (lit< tt)
    (cc (number-back 4 id ty.0, number-back 4 af ty.5, number-back 2 dl s)) (omega arith)
encoded (Confirm id) payload rest ty l p s =
    found_by (Confirm id) payload rest 12 l p s (lit< tt) (ap (λ (x : ℕ). holds 12 (Confirm x)) (number-back 4 id ty)) (lit≤ tt)
encoded (ArbitrationLost id) payload rest ty l p s =
    found_by (ArbitrationLost id) payload rest 12 l p s (lit< tt) (ap (λ (x : ℕ). holds 12 (ArbitrationLost x)) (number-back 4 id ty)) (lit≤ tt)
encoded (BusError id code flag sender) payload rest ty l p s =
    found_by (BusError id code flag sender) payload rest 15 l p s (lit< tt)
    (ap (λ (x : ℕ). holds 15 (BusError x code flag sender)) (number-back 4 id ty.0)) (lit≤ tt)
encoded (Configuration kind value) payload rest ty l p s =
    found_by (Configuration kind value) payload rest 9 l p s (lit< tt)
    (ap (λ (x : ℕ). holds 9 (Configuration kind x)) (setting-back value payload (eqb kind 4) (passed _ l 2) ty.1))
    (omega (arith, configuration-least (eqb kind 4)))
encoded (Status status) payload rest ty l p s = found_by (Status status) payload rest 9 l p s (lit< tt) refl (lit≤ tt)
encoded Wakeup payload rest ty l p s = found_by Wakeup payload rest 8 l p s (lit< tt) refl (lit≤ tt)
