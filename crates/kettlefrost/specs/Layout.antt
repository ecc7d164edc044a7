-- Believed. The layout of the records for C as one number: it changes with the size of a record.
-- Assumes nothing.
use Rattle.std.specs.Prelude.{ℕ, ◌+◌, ◌*◌, ◌-◌, ◌/◌, max, List, [], ◌∷◌}
use Rattle.plain_bus.specs.Register.{max_open}

-- how C lays out a type: its size and its alignment, in bytes
pub record Laid : Type 0 where
  pub size : ℕ
  pub alignment : ℕ

-- a number is aligned to its size
abbrev pub number : ℕ → Laid
number bytes = record { size = bytes; alignment = bytes }

abbrev pub u8 : Laid
u8 = number 1

abbrev pub u16 : Laid
u16 = number 2

abbrev pub u32 : Laid
u32 = number 4

abbrev pub usize : Laid
usize = number 8

abbrev pub array : ℕ → Laid → Laid
array n t = record { size = n * t.size; alignment = t.alignment }

-- the first multiple of an alignment from a position on
abbrev pub aligned : ℕ → ℕ → ℕ
aligned alignment at = (at + (alignment - 1)) / alignment * alignment

-- the position after fields that are laid in order, each at the first position of its alignment
abbrev pub after : ℕ → List Laid → ℕ
after at [] = at
after at (t ∷ rest) = after (aligned t.alignment at + t.size) rest

abbrev pub widest : List Laid → ℕ
widest [] = 1
widest (t ∷ rest) = max t.alignment (widest rest)

-- a struct is aligned as its widest field, and filled up to a multiple of that
abbrev pub struct : List Laid → Laid
struct fields = record { size = aligned (widest fields) (after 0 fields); alignment = widest fields }

-- ---- the records, each with its fields in order

abbrev pub slot : Laid
slot = struct (u32 ∷ u32 ∷ u32 ∷ u16 ∷ u8 ∷ u8 ∷ u8 ∷ u8 ∷ u8 ∷ u8 ∷ [])

abbrev pub node_state : Laid
node_state = struct (array 3 u32 ∷ u16 ∷ u8 ∷ u8 ∷ u8 ∷ [])

abbrev pub state : Laid
state = struct (u32 ∷ u32 ∷ array 8 node_state ∷ [])

abbrev pub answer : Laid
answer = struct (u32 ∷ u32 ∷ u32 ∷ u16 ∷ u8 ∷ u8 ∷ u8 ∷ state ∷ [])

abbrev pub operation : Laid
operation = struct (u32 ∷ u32 ∷ u32 ∷ u16 ∷ u8 ∷ u8 ∷ u8 ∷ u8 ∷ [])

abbrev pub reading : Laid
reading = struct (u32 ∷ u32 ∷ usize ∷ operation ∷ [])

abbrev pub part : Laid
part = struct (usize ∷ usize ∷ [])

abbrev pub written : Laid
written = struct (usize ∷ usize ∷ [])

abbrev pub register : Laid
register = struct (array max_open u32 ∷ u32 ∷ u32 ∷ [])

abbrev pub register_answer : Laid
register_answer = struct (u32 ∷ register ∷ [])

-- three decimal digits a size; the first may have more
abbrev pub folded : ℕ → List Laid → ℕ
folded n [] = n
folded n (t ∷ rest) = folded (n * 1_000 + t.size) rest

-- the records that no other holds: what lies in one is counted in it
abbrev pub layout_number : ℕ
layout_number = folded 0 (register_answer ∷ answer ∷ slot ∷ reading ∷ part ∷ written ∷ [])
