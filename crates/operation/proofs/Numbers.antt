-- Laws of numbers as bytes, over the width: a byte at a time; a number's bytes give it back; the bytes that a number was
-- read from are its bytes; a number stands where its bytes stand.
-- Assumes nothing.
use mathlib.Core.Path.{◌≡◌, refl, subst}
use mathlib.Core.Bool.{Bool, true, false}
use mathlib.Core.List.{List, [], ◌∷◌, ◌++◌}
use Prim.Native.Nat.{ℕ, zero, suc, ◌+◌, ◌*◌, ◌/◌, ◌%◌, ◌^◌, ◌≤◌, ◌<◌}
use native.Mathlib.Nat.{pow-suc}
use native.Mathlib.Numerals.{add-one, add-two}
use native.Mathlib.Omega.{arith}
use lib.Dec.{leb}
use lib.ListN.{length, get_or, take, drop, length-drop, take-append-drop, drop_of_length-le, get_or-eq_default}
use lib.Seq.{drop-cons, take-nil, drop-drop, take-append-le, drop-append-le, length-take-le}
use borrow.Author.Tests.{leb-true, leb-false}
use Rattle.operation.specs.Number.{little_endian, number, number_at, Bytes}

-- the first byte, and the number of the bytes after it; a byte past the end counts as 0
pub number_step : (w i : ℕ) (s : List ℕ) → number_at (suc w) s i ≡ get_or s i 0 + 256 * number_at w s (suc i)
number_step w i s = go (leb (length s) i) refl
  where
    go : (t : Bool) → leb (length s) i ≡ t → number_at (suc w) s i ≡ get_or s i 0 + 256 * number_at w s (suc i)
    go true e =
        let h : length s ≤ i = leb-true (length s) i e in
        let a : drop i s ≡ [] = drop_of_length-le s h in
        let b : drop (suc i) s ≡ [] = drop_of_length-le s {i = suc i} (omega arith) in
        rw (a, b, get_or-eq_default s 0 h, take-nil w)
    go false e = rw (drop-cons s i 0 (leb-false (length s) i e))

pub number2 : (s : List ℕ) (i : ℕ) → number_at 2 s i ≡ get_or s i 0 + 256 * get_or s (i + 1) 0
number2 s i = let a = number_step 1 i s in let b = number_step 0 (suc i) s in rw (add-one i) (omega arith)

pub number4 : (s : List ℕ) (i : ℕ) → number_at 4 s i ≡ number_at 2 s i + 65536 * number_at 2 s (i + 2)
number4 s i =
    let a = number_step 3 i s in
    let b = number_step 2 (suc i) s in
    let d = number_step 1 i s in
    let e = number_step 0 (suc i) s in
    rw (add-two i) (omega arith)

-- a number at the front part of a list
pub number_prefix : (w at : ℕ) (s rest : List ℕ) → at + w ≤ length s → number_at w (s ++ rest) at ≡ number_at w s at
number_prefix w at s rest h =
    let a : at ≤ length s = omega arith in
    let b : w ≤ length (drop at s) = simp length-drop (omega arith) in
    rw (drop-append-le at s rest, take-append-le w (drop at s) rest)

-- the bytes of a number give it back
pub number-back : (w x : ℕ) → x < 256 ^ w → number (little_endian w x) ≡ x
number-back zero x h = omega arith
number-back (suc w) x h =
    let p = pow-suc 256 w in
    let e = number-back w (x / 256) (omega arith) in
    omega arith

pub take-bytes : (n : ℕ) (s : List ℕ) → Bytes s → Bytes (take n s)
take-bytes zero s w = tt
take-bytes (suc n) [] w = tt
take-bytes (suc n) (b ∷ s) w = (w.0, take-bytes n s w.1)

pub drop-bytes : (n : ℕ) (s : List ℕ) → Bytes s → Bytes (drop n s)
drop-bytes zero s w = w
drop-bytes (suc n) [] w = tt
drop-bytes (suc n) (b ∷ s) w = drop-bytes n s w.1

-- a byte of a list of bytes; past the end it is 0
pub byte_small : (s : List ℕ) (i : ℕ) → Bytes s → get_or s i 0 < 256
byte_small [] i w = omega arith
byte_small (b ∷ s) zero w = w.0
byte_small (b ∷ s) (suc i) w = byte_small s i w.1

-- the bytes of the number that some bytes stand for
pub bytes_back : (l : List ℕ) → Bytes l → little_endian (length l) (number l) ≡ l
bytes_back [] w = refl
bytes_back (b ∷ l) w =
    let h : b < 256 = w.0 in
    let a : (b + 256 * number l) % 256 ≡ b = omega arith in
    let d : (b + 256 * number l) / 256 ≡ number l = omega arith in
    rw (a, d, bytes_back l w.1)

power_positive : (w : ℕ) → 0 < 256 ^ w
power_positive zero = omega arith
power_positive (suc w) = let p = pow-suc 256 w in let h = power_positive w in omega arith

-- w bytes stand for a number of w bytes
pub number_small : (w : ℕ) (s : List ℕ) → Bytes s → number (take w s) < 256 ^ w
number_small zero s u = omega arith
number_small (suc w) [] u = power_positive (suc w)
number_small (suc w) (b ∷ s) u =
    let p = pow-suc 256 w in
    let h : b < 256 = u.0 in
    let e = number_small w s u.1 in
    omega arith

-- a number of w bytes at a position, then what follows it
pub number-here : (s : List ℕ) → Bytes s → (w at : ℕ) → at + w ≤ length s
    → little_endian w (number_at w s at) ++ drop (at + w) s ≡ drop at s
number-here s u w at h =
    let l : length (take w (drop at s)) ≡ w = length-take-le w (drop at s) (simp length-drop (omega arith)) in
    let e : little_endian w (number_at w s at) ≡ take w (drop at s) =
    subst (λ (n : ℕ). little_endian n (number_at w s at) ≡ take w (drop at s)) l
    (bytes_back (take w (drop at s)) (take-bytes w (drop at s) (drop-bytes at s u))) in
    rw (e, ← drop-drop w at s) (take-append-drop w (drop at s))
