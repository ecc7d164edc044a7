-- Laws of an operation that is found: what its bytes passed, and that it is found wherever these bytes stand.
-- Assumes nothing.
use mathlib.Core.Path.{◌≡◌, refl, sym, ap, ◌∙◌, subst}
use mathlib.Core.Bool.{Bool, true, false, cond, not, ◌||◌}
use mathlib.Core.List.{List, ◌++◌}
use Prim.Native.Nat.{ℕ, ◌≤◌}
use native.Mathlib.Omega.{arith}
use lib.Dec.{ltb, eqb}
use lib.ListN.{length, take, drop, length-append, take-append-drop}
use lib.Seq.{length-take-le, take_at}
use borrow.Author.Tests.{eqb-true, ltb-false, ne_eqb, le-ltb}
use Rattle.operation.specs.Number.{number_at}
use Rattle.operation.specs.Format.{length_of}
use Rattle.operation.specs.Rules.{legal}
use Rattle.operation.specs.declared.Operation.{Operation}
use Rattle.operation.proofs.Numbers.{number_prefix}
use Rattle.std.proofs.Common.{Option, None, Some, Result, Ok, Err}
use Rattle.decoder.specs.Front.{Shape, none, holds, kind_of, shape_of, kind_outside, verdict, judge, decode, stated_length, sized, front, taken}
use Rattle.decoder.specs.declared.Fault.{Fault}
use Rattle.decoder.specs.declared.Front.{Front}
use Rattle.decoder.specs.declared.Fault.TheVariants.{TooFewLeft, BadLength, WrongLength, RuleBroken}

not_ok : {f : Fault} {op : Operation} {P : Type 0} → ◌≡◌ {A = Result Operation Fault} (Err f) (Ok op) → P
not_ok e = let z : ◌≡◌ {A = ℕ} 0 1 = cc in absurd (omega arith)

-- what the bytes of an operation passed, where the shape of the operation was h
pub record Judged (n : ℕ) (h : Shape) (op : Operation) : Type 0 where
  pub least : ℕ
  pub shape : h ≡ holds least op
  pub enough : least ≤ n
  pub exact : n ≡ length_of op
  pub lawful : legal op ≡ true

pub judged : (n : ℕ) (h : Shape) (op : Operation) → judge n h ≡ Ok op → Judged n h op
unfolding judge verdict
judged n none op e = not_ok e
judged n (holds least o) op e = go (ltb n least) refl (kind_outside o) (eqb n (length_of o)) refl (legal o) refl e
  where
    go : (a : Bool) → ltb n least ≡ a → (k b : Bool) → eqb n (length_of o) ≡ b → (d : Bool) → legal o ≡ d
        → cond (a || k || not b) (Err WrongLength) (cond d (Ok o) (Err RuleBroken)) ≡ Ok op → Judged n (holds least o) op
    go true qa k b qb d qd e = not_ok e
    go false qa true b qb d qd e = not_ok e
    go false qa false false qb d qd e = not_ok e
    go false qa false true qb false qd e = not_ok e
    go false qa false true qb true qd e =
        let x : o ≡ op = cc in
        record {
          least = least;
          shape = ap (holds least) x;
          enough = ltb-false n least qa;
          exact = eqb-true n (length_of o) qb ∙ ap length_of x;
          lawful = sym (ap legal x) ∙ qd;
        }

-- where the length field is n and there are n bytes, what is found is what the n bytes are
pub front_is : (s : List ℕ) (n : ℕ) → 8 ≤ n → n ≤ length s → stated_length s ≡ n → front s ≡ Some (sized (decode (take n s)) n)
unfolding front
front_is s n h l e =
    rw (ne_eqb (length s) 0 (omega arith), le-ltb (length s) 8 (omega arith), e, le-ltb n 8 h, le-ltb (length s) n l)

-- the length that an operation found takes up, and what its bytes are
pub record Stands (s : List ℕ) (op : Operation) (n : ℕ) : Type 0 where
  pub least : 8 ≤ n
  pub within : n ≤ length s
  pub stated : stated_length s ≡ n
  pub decoded : decode (take n s) ≡ Ok op
  pub exact : n ≡ length_of op
  pub lawful : legal op ≡ true

stands : (s : List ℕ) (op : Operation) (n : ℕ) → front s ≡ Some (sized (Ok op) n) → Stands s op n
unfolding front decode
stands s op n e =
    go (eqb (length s) 0) (ltb (length s) 8) (ltb (stated_length s) 8) refl (ltb (length s) (stated_length s)) refl e
  where
    k : ℕ
    k = stated_length s

    item : Option Front → Result Operation Fault
    item None = Err TooFewLeft
    item (Some f) = f.item

    go : (a b c : Bool) → ltb k 8 ≡ c → (d : Bool) → ltb (length s) k ≡ d
        → cond a None
        (cond b (Some (sized (Err TooFewLeft) (length s)))
        (cond c (Some (sized (Err BadLength) (length s)))
        (cond d (Some (sized (Err BadLength) (length s))) (Some (sized (decode (take k s)) k)))))
        ≡ Some (sized (Ok op) n)
        → Stands s op n
    go true b c qc d qd e = not_ok (ap item e)
    go false true c qc d qd e = not_ok (ap item e)
    go false false true qc d qd e = not_ok (ap item e)
    go false false false qc true qd e = not_ok (ap item e)
    go false false false qc false qd e =
        let u : k ≤ length s = ltb-false (length s) k qd in
        let l : length (take k s) ≡ k = length-take-le k s u in
        let q : k ≡ n = ap taken e in
        let d : decode (take k s) ≡ Ok op = ap item e in
        let j = judged (length (take k s)) (shape_of (kind_of (number_at 4 (take k s) 0)) (take k s)) op d in
        record {
          least = subst (λ (x : ℕ). 8 ≤ x) q (ltb-false k 8 qc);
          within = subst (λ (x : ℕ). x ≤ length s) q u;
          stated = q;
          decoded = subst (λ (x : ℕ). decode (take x s) ≡ Ok op) q d;
          exact = sym q ∙ sym l ∙ j.exact;
          lawful = j.lawful;
        }

pub found : {s : List ℕ} {op : Operation} {n : ℕ} → front s ≡ Some (sized (Ok op) n) → Stands s op n
found {s} {op} {n} e = stands s op n e

-- the length field of an operation's own bytes is their length
pub stated-own : (s : List ℕ) {op : Operation} {n : ℕ} → Stands s op n → stated_length (take n s) ≡ n
stated-own s {op} {n} f =
    let l : length (take n s) ≡ n = length-take-le n s f.within in
    let b : stated_length (take n s ++ drop n s) ≡ stated_length (take n s) =
    number_prefix 4 4 (take n s) (drop n s) (omega (arith, f.least)) in
    sym (rw (take-append-drop n s) at b) ∙ f.stated

-- an operation's own bytes are found as that operation, whatever follows them
pub found_prefix : (s rest : List ℕ) {op : Operation} {n : ℕ} → front s ≡ Some (sized (Ok op) n) → front (take n s ++ rest) ≡ Some (sized (Ok op) n)
found_prefix s rest {op} {n} e =
    let f = found e in
    let l : length (take n s) ≡ n = length-take-le n s f.within in
    let a : stated_length (take n s ++ rest) ≡ stated_length (take n s) = number_prefix 4 4 (take n s) rest (omega (arith, f.least)) in
    front_is (take n s ++ rest) n f.least (rw length-append (omega arith)) (a ∙ stated-own s f)
    ∙ rw (take_at (take n s) rest n l, f.decoded)
