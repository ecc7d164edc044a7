-- Parts of a list by offsets, after bytes were laid over it: there, before, behind, and across the end of what was there.
-- Assumes nothing.
use mathlib.Core.Path.{◌≡◌, sym, ap, ◌∙◌}
use Prim.Native.Nat.{ℕ, ◌+◌, ◌-◌, ◌≤◌, ◌<◌}
use native.Mathlib.Omega.{arith}
use mathlib.Core.List.{List, ◌++◌, append_assoc}
use lib.ListN.{length, get_or, take, drop, length-append, length-take, length-drop, take-append-drop}
use lib.Seq.{take-append_seam, drop_at, take-append-le, drop-append-le, drop-append-add, drop-drop, length-take-le, take-add, get_or-take, get_or-drop}
use Rattle.buffers.specs.Parts.{part, over}

pub length_part : (at n : ℕ) (l : List ℕ) → at + n ≤ length l → length (part at n l) ≡ n
unfolding part
length_part at n l h = length-take-le n (drop at l) (rw length-drop (omega arith))

part-add : (at n k : ℕ) (l : List ℕ) → part at (n + k) l ≡ part at n l ++ part (at + n) k l
unfolding part
part-add at n k l = rw (take-add n k (drop at l), drop-drop n at l)

module _ (at : ℕ) (xs l : List ℕ) (h : at + length xs ≤ length l) where
  pub length_over : length (over l at xs) ≡ length l
  unfolding over
  length_over = simp (length-append, length-take, length-drop) (omega arith)

  pub over-same : part at (length xs) (over l at xs) ≡ xs
  unfolding over part
  over-same =
      let k : length (take at l) ≡ at = length-take-le at l (omega arith) in
      rw (append_assoc (take at l) xs (drop (at + length xs) l), drop_at (take at l) (xs ++ drop (at + length xs) l) at k)
      (take-append_seam xs (drop (at + length xs) l))

  pub over-before : (a n : ℕ) → a + n ≤ at → part a n (over l at xs) ≡ part a n l
  unfolding over part
  over-before a n g =
      let k : length (take at l) ≡ at = length-take-le at l (omega arith) in
      let la : a ≤ length (take at l) = omega arith in
      let ln : n ≤ length (drop a (take at l)) = rw length-drop (omega arith) in
      rw (
        append_assoc (take at l) xs (drop (at + length xs) l),
        drop-append-le a (take at l) (xs ++ drop (at + length xs) l) la,
        take-append-le n (drop a (take at l)) (xs ++ drop (at + length xs) l) ln,
      )
      (sym (ap (λ (q : List ℕ). take n (drop a q)) (sym (take-append-drop at l))
      ∙ rw (drop-append-le a (take at l) (drop at l) la) (take-append-le n (drop a (take at l)) (drop at l) ln)))

  pub over_behind : (a n : ℕ) → at + length xs ≤ a → part a n (over l at xs) ≡ part a n l
  unfolding over part
  over_behind a n g =
      let k : length (take at l ++ xs) ≡ at + length xs =
      length-append (take at l) xs ∙ ap (λ (i : ℕ). i + length xs) (length-take-le at l (omega arith)) in
      let e : a ≡ length (take at l ++ xs) + (a - (at + length xs)) = omega arith in
      let f : at + length xs + (a - (at + length xs)) ≡ a = omega arith in
      ap (take n)
      (ap (λ (i : ℕ). drop i ((take at l ++ xs) ++ drop (at + length xs) l)) e
      ∙ drop-append-add (take at l ++ xs) (drop (at + length xs) l) (a - (at + length xs))
      ∙ drop-drop (a - (at + length xs)) (at + length xs) l
      ∙ ap (λ (i : ℕ). drop i l) f)

-- a part grows by what is laid behind it
pub over_grown : (at n : ℕ) (xs l : List ℕ) → at + n + length xs ≤ length l
    → part at (n + length xs) (over l (at + n) xs) ≡ part at n l ++ xs
over_grown at n xs l h =
    rw (part-add at n (length xs) (over l (at + n) xs), over-before (at + n) xs l h at n (omega arith), over-same (at + n) xs l h)

-- an entry of a part
pub part_at : (d : List ℕ) (from n i : ℕ) → i < n → get_or (part from n d) i 0 ≡ get_or d (from + i) 0
unfolding part
part_at d from n i l = get_or-take n (drop from d) i 0 l ∙ get_or-drop from d i 0
