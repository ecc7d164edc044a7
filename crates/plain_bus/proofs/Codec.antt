-- What the bus itself writes reads as what was written, and as nothing more.
-- Assumes nothing.
use mathlib.Core.Path.{◌≡◌, refl, sym, ap, ◌∙◌}
use Prim.Native.Nat.{ℕ, ◌+◌, ◌≤◌, ◌<◌}
use native.Mathlib.Omega.{arith}
use mathlib.Core.List.{List, [], ◌∷◌, append-nil}
use mathlib.Core.Bool.{Bool, true, false, ◌||◌}
use lib.Dec.{leb, eqb, lit<}
use lib.ListN.{length}
use borrow.Author.Tests.{le-leb, leb-true, eqb-true}
use Rattle.operation.specs.Format.{encode, data_length, head_length, length_of, TypedOperation}
use Rattle.operation.specs.Rules.{all_after, one_of, max_extended_id, error_codes, error_flags, rules, legal}
use Rattle.operation.specs.declared.Operation.{Operation}
use Rattle.operation.specs.declared.Operation.TheVariants.{FormatError, Confirm, ArbitrationLost, BusError, Wakeup}
use Rattle.operation.proofs.Sizes.{encode-length}
use Rattle.operation.proofs.Tests.{false_is_true, both, passed}
use Rattle.std.proofs.Common.{Some, Ok}
use Rattle.decoder.specs.Front.{sized, front}
use Rattle.decoder.proofs.Encoded.{encoded}
use Rattle.plain_bus.proofs.ValidBus.{ReadsWhole}
use Rattle.plain_bus.specs.Register.{none_above}

pub reads-written : (op : Operation) (payload : List ℕ) → TypedOperation op → legal op ≡ true → length payload ≡ data_length op
    → data_length op < 65_536 → ReadsWhole op (encode op payload)
reads-written op payload ty l p small =
    let size : length (encode op payload) ≡ length_of op = encode-length op payload ∙ ap (λ (n : ℕ). head_length op + n) p in
    ap front (sym (append-nil (encode op payload))) ∙ encoded op payload [] ty l p small ∙ ap (λ (n : ℕ). Some (sized (Ok op) n)) (sym size)

pub reads-confirm : (id : ℕ) → id ≤ max_extended_id → ReadsWhole (Confirm id) (encode (Confirm id) [])
unfolding legal rules all_after
reads-confirm id h = reads-written (Confirm id) [] (omega arith) (le-leb id max_extended_id h) refl (lit< tt)

pub reads-lost : (id : ℕ) → id ≤ max_extended_id → ReadsWhole (ArbitrationLost id) (encode (ArbitrationLost id) [])
unfolding legal rules all_after
reads-lost id h = reads-written (ArbitrationLost id) [] (omega arith) (le-leb id max_extended_id h) refl (lit< tt)

-- one of some numbers is no higher than they are
one_low : (x m : ℕ) (ys : List ℕ) → one_of x ys ≡ true → none_above m ys ≡ true → x ≤ m
unfolding one_of none_above
one_low x m [] e a = false_is_true e
one_low x m (y ∷ ys) e a = go (eqb x y) refl e (both _ _ a) (one_low x m ys)
  where
    go : (t : Bool) → eqb x y ≡ t → (t || one_of x ys) ≡ true → (leb y m ≡ true) × (none_above m ys ≡ true)
        → (one_of x ys ≡ true → none_above m ys ≡ true → x ≤ m) → x ≤ m
    go true q e b r = omega (arith, eqb-true x y q, leb-true y m b.0)
    go false q e b r = r e b.1

pub reads-bus_error : (id code flag sender : ℕ) → legal (BusError id code flag sender) ≡ true
    → ReadsWhole (BusError id code flag sender) (encode (BusError id code flag sender) [])
unfolding legal rules none_above
reads-bus_error id code flag sender l =
    let a = leb-true id max_extended_id (passed _ l 0) in
    let b = one_low code 6 error_codes (passed _ l 1) refl in
    let c = one_low flag 2 error_flags (passed _ l 2) refl in
    let d = leb-true sender 1 (passed _ l 3) in
    reads-written (BusError id code flag sender) [] (omega arith) l refl (lit< tt)

pub reads-format_error : (bytes : List ℕ) → length bytes < 65_536
    → ReadsWhole (FormatError (length bytes)) (encode (FormatError (length bytes)) bytes)
unfolding legal rules all_after
reads-format_error bytes h = reads-written (FormatError (length bytes)) bytes h refl refl h

pub reads-wakeup : ReadsWhole Wakeup (encode Wakeup [])
unfolding legal rules all_after
reads-wakeup = reads-written Wakeup [] tt refl refl (lit< tt)
