-- Laws of what a line holds after bytes: those behind others, and one more of a list, a blank or a byte apart.
-- Assumes nothing.
use Rattle.std.proofs.Common.{◌≡◌, ℕ, ◌+◌, ◌<◌, List, [], ◌∷◌, ◌++◌, length, take, get_or, refl, ap, add-one}
use lib.ListN.{replicate-append-replicate}
use lib.Seq.{take-suc}
use Rattle.lines.specs.Text.{after, after_all, blanks, hex_digits, apart}

pub after_append : (text xs ys : List ℕ) → after_all text (xs ++ ys) ≡ after_all (after_all text xs) ys
after_append text [] ys = refl
after_append text (x ∷ xs) ys = after_append (after text x) xs ys

pub one_more : (text bytes : List ℕ) (i : ℕ) → i < length bytes
    → after_all text (take (i + 1) bytes) ≡ after (after_all text (take i bytes)) (get_or bytes i 0)
one_more text bytes i h = rw (add-one i, take-suc bytes i 0 h, after_append text (take i bytes) (get_or bytes i 0 ∷ []))

pub one_blank : (text : List ℕ) (n : ℕ) → after_all text (blanks (n + 1)) ≡ after (after_all text (blanks n)) 32
one_blank text n = rw (← replicate-append-replicate {A = ℕ} n 1 32, after_append text (blanks n) (32 ∷ []))

apart-append : (xs ys : List ℕ) → apart (xs ++ ys) ≡ apart xs ++ apart ys
apart-append [] ys = refl
apart-append (x ∷ xs) ys = ap (λ (l : List ℕ). blanks 1 ++ hex_digits 2 x ++ l) (apart-append xs ys)

pub one_apart : (text bytes : List ℕ) (i : ℕ) → i < length bytes
    → after_all text (apart (take (i + 1) bytes)) ≡ after_all (after (after_all text (apart (take i bytes))) 32) (hex_digits 2 (get_or bytes i 0))
one_apart text bytes i h =
    rw (add-one i, take-suc bytes i 0 h, apart-append (take i bytes) (get_or bytes i 0 ∷ []), after_append text (apart (take i bytes)) (32 ∷ hex_digits 2 (get_or bytes i 0)))

pub ruleset gaining = (after_append, one_more, one_blank, one_apart)
