-- Laws of bytes laid over a list, one run behind the other.
-- Assumes nothing.
use mathlib.Core.Path.{◌≡◌}
use mathlib.Core.List.{List, [], ◌∷◌, ◌++◌, append_assoc, append-nil}
use Prim.Native.Nat.{ℕ, ◌+◌}
use lib.ListN.{length, length-append}
use lib.Seq.{take-append_seam, drop-append_seam, drop-drop}
use Rattle.buffers.specs.Parts.{over}

-- bytes laid at the front, and others right behind them
pub behind : (l xs ys : List ℕ) → over (over l 0 xs) (length xs) ys ≡ over l 0 (xs ++ ys)
unfolding over
behind l xs ys = simp (length-append, ← drop-drop, take-append_seam, drop-append_seam, append_assoc)

-- runs of bytes, one behind the other from a position on: on runs that are written out it computes to the single stores
abbrev pub in_turn : List ℕ → ℕ → List (List ℕ) → List ℕ
in_turn l at [] = l
in_turn l at (x ∷ xs) = in_turn (over l at x) (at + length x) xs

abbrev pub together : List (List ℕ) → List ℕ
together [] = []
together (x ∷ xs) = x ++ together xs

in_turn_behind : (l p : List ℕ) (xs : List (List ℕ)) → in_turn (over l 0 p) (length p) xs ≡ over l 0 (p ++ together xs)
in_turn_behind l p [] = rw (append-nil p)
in_turn_behind l p (x ∷ xs) = rw (behind l p x, ← length-append p x, ← append_assoc p x (together xs)) (in_turn_behind l (p ++ x) xs)

-- all runs are one
pub in_turn_lem : (l : List ℕ) (xs : List (List ℕ)) → in_turn l 0 xs ≡ over l 0 (together xs)
unfolding over
in_turn_lem l xs = in_turn_behind l [] xs
