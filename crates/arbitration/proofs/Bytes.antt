-- Bytes laid over a buffer, one run behind the other.
-- Assumes nothing.
use mathlib.Core.Path.{◌≡◌, refl, sym, ap, ◌∙◌}
use mathlib.Core.Bool.{Bool, true, false}
use mathlib.Core.List.{List, [], ◌++◌, append_assoc, append-nil}
use Prim.Native.Nat.{ℕ, ◌+◌, ◌≤◌}
use native.Mathlib.Omega.{arith}
use native.Mathlib.Nat.{add-zero}
use mir.Val.{bool_byte}
use lib.ListN.{length, take, drop, length-append, take-append-drop}
use lib.Seq.{take_at, drop_at, drop-drop, length-take-le}
use Rattle.buffers.specs.Parts.{over}
use Rattle.arbitration.specs.Owed.{own}

-- a bool as a byte
pub byte_own : (b : Bool) → bool_byte b ≡ own b
byte_own true = refl
byte_own false = refl

-- one run of bytes right behind another
pub over-over : (l xs ys : List ℕ) (at : ℕ) → at ≤ length l → over (over l at xs) (at + length xs) ys ≡ over l at (xs ++ ys)
unfolding over
over-over l xs ys at h =
    let k : length (take at l ++ xs) ≡ at + length xs =
    length-append (take at l) xs ∙ ap (λ (i : ℕ). i + length xs) (length-take-le at l h) in
    let t = take_at (take at l ++ xs) (drop (at + length xs) l) (at + length xs) k in
    let n : at + length xs + length ys ≡ at + length (xs ++ ys) = omega (arith, length-append xs ys) in
    let d : drop (at + length xs + length ys) ((take at l ++ xs) ++ drop (at + length xs) l) ≡ drop (at + length (xs ++ ys)) l =
    sym (drop-drop (length ys) (at + length xs) ((take at l ++ xs) ++ drop (at + length xs) l))
    ∙ ap (drop (length ys)) (drop_at (take at l ++ xs) (drop (at + length xs) l) (at + length xs) k)
    ∙ drop-drop (length ys) (at + length xs) l
    ∙ ap (λ (i : ℕ). drop i l) n in
    rw (t, d, append_assoc (take at l) xs ys)

-- two runs, each laid by itself
pub in_two : (l xs ys : List ℕ) (at : ℕ) {l₁ l₂ : List ℕ} {k : ℕ} → at ≤ length l → l₁ ≡ over l at xs → k ≡ at + length xs → l₂ ≡ over l₁ k ys
    → l₂ ≡ over l at (xs ++ ys)
in_two l xs ys at h p q r = rw (r, p, q) (over-over l xs ys at h)

-- nothing laid over a buffer
pub over_none : (l : List ℕ) (at : ℕ) → over l at [] ≡ l
unfolding over
over_none l at = rw (append-nil, add-zero) (take-append-drop at l)
