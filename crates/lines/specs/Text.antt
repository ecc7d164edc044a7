-- Internal. How the bytes put on a line are spelled, blanks, names, numbers, and what the line holds after them. What was written to
-- standard output is no part of it.
-- Assumes nothing.
use Rattle.std.specs.Prelude.{ℕ, zero, suc, ◌+◌, ◌-◌, ◌/◌, ◌%◌, ◌≡◌, cond, List, [], ◌∷◌, ◌++◌, ltb, length, drop, replicate}
use Rattle.io.specs.Digits.{last_digits, IsDigitCount}

-- the bytes that a line has room for
abbrev pub space : ℕ
space = 512

-- what a line holds after a byte is put on it: a full line is written first, and then holds that byte alone
unfoldable pub after : List ℕ → ℕ → List ℕ
after text byte = cond (ltb (length text) space) (text ++ (byte ∷ [])) (byte ∷ [])

-- the same for bytes in turn
abbrev pub after_all : List ℕ → List ℕ → List ℕ
after_all text [] = text
after_all text (byte ∷ bytes) = after_all (after text byte) bytes

-- some blanks
abbrev pub blanks : ℕ → List ℕ
blanks n = replicate n 32

-- the digit of a number below 16: `0` to `9`, then `A` to `F`
abbrev pub hex_digit : ℕ → ℕ
hex_digit d = cond (ltb d 10) (48 + d) (55 + d)

-- the last k hexadecimal digits of a number, the most significant first
abbrev pub hex_digits : ℕ → ℕ → List ℕ
hex_digits zero x = []
hex_digits (suc k) x = hex_digits k (x / 16) ++ (hex_digit (x % 16) ∷ [])

-- bytes, two digits each and a blank before each
abbrev pub apart : List ℕ → List ℕ
apart [] = []
apart (byte ∷ bytes) = blanks 1 ++ hex_digits 2 byte ++ apart bytes

-- bytes, two digits each and a blank between
abbrev pub hex_bytes : List ℕ → List ℕ
hex_bytes bytes = drop 1 (apart bytes)

-- the same behind two blanks; nothing where there are no bytes
abbrev pub field : List ℕ → List ℕ
field [] = []
field (byte ∷ bytes) = blanks 2 ++ hex_bytes (byte ∷ bytes)

-- a name, two blanks before it and one behind it
abbrev pub named : List ℕ → List ℕ
named name = blanks 2 ++ name ++ blanks 1

-- the second line is the first with a text put on it and then a number in decimal: as few digits as hold it, and blanks before them up
-- to a width
pub record GainsNumber (line r text : List ℕ) (x width : ℕ) : Type 0 where
  pub places : ℕ
  pub fewest : IsDigitCount 10 1 x places
  pub gains : r ≡ after_all line (text ++ blanks (width - places) ++ last_digits 10 places x)
