-- Believed. The register of open frames (01: the book) as a record of plain numbers, and what its calls answer.
-- Assumes nothing.
use Rattle.std.specs.Prelude.{◌-◌, ◌++◌, cond, not, eqb, length, take, replicate}
use Rattle.plain_bus.specs.Refusal.{register_number}
use Rattle.plain_bus.specs.Register as plain
use Rattle.open_frames.specs.declared.Register.{Register}
use Rattle.open_frames.specs.declared.RegisterAnswer.{RegisterAnswer}

-- the first count IDs are open; where count says more than there is room for, the rest count as 0
unfoldable pub open_in : Register → plain.Register
open_in r = record {
  opened = take r.count r.ids ++ replicate (r.count - plain.max_open) 0;
  off = not (eqb r.off 0);
}

-- the record of a register: 0 past the open IDs
unfoldable pub record_of : plain.Register → Register
record_of r = record {
  ids = r.opened ++ replicate (plain.max_open - length r.opened) 0;
  count = length r.opened;
  off = cond r.off 1 0;
}

-- a refusal hands the register back as it was
abbrev pub answered : Register → plain.Update → RegisterAnswer
answered r (plain.updated x) = record { number = 0; register = record_of x }
answered r (plain.rejected x) = record { number = register_number x; register = r }
