-- Believed. A part of a list, and a list with some bytes laid over such a part.
-- Assumes nothing.
use Rattle.std.specs.Prelude.{ℕ, ◌+◌, List, ◌++◌, length, take, drop}

-- n entries of a list from a position on
unfoldable pub part : ℕ → ℕ → List ℕ → List ℕ
part at n l = take n (drop at l)

-- some bytes laid over a list from a position on
unfoldable pub over : List ℕ → ℕ → List ℕ → List ℕ
over l at bytes = take at l ++ bytes ++ drop (at + length bytes) l
