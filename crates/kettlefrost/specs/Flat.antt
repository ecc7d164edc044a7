-- Believed. An operation as a record of plain numbers, for callers in C: its code and its fields in the order of 01's table, 0 where its
-- kind has no such field.
-- Assumes nothing.
use Rattle.std.specs.Prelude.{ℕ, Option, Some, None}
use Rattle.operation.specs.declared.Operation.{Operation}
use Rattle.operation.specs.declared.Operation.TheVariants.{FormatError, CanTransmit, FdTransmit, XlTransmit, Confirm, ArbitrationLost, BusError, Configuration, Status, Wakeup}
use Rattle.decoder.specs.Front.{Kind, format_error, can, fd, xl, confirm, arbitration_lost, bus_error, configuration, status, wakeup, unknown, kind_of}
use Rattle.kettlefrost.specs.declared.FlatOperation.{FlatOperation}

abbrev pub flat_row : (code id word length first second third fourth : ℕ) → FlatOperation
flat_row code id word length first second third fourth = record {
  code = code;
  id = id;
  word = word;
  length = length;
  first = first;
  second = second;
  third = third;
  fourth = fourth;
}

-- columns: code, ID, the four-byte field after it (AF, or the value of a Configuration), DL or n, the one-byte fields in order
abbrev pub flat : Operation → FlatOperation
flat (FormatError n) = flat_row 0x01 0 0 n 0 0 0 0
flat (CanTransmit id ide rtr dl) = flat_row 0x10 id 0 dl ide rtr 0 0
flat (FdTransmit id ide brs esi dl) = flat_row 0x11 id 0 dl ide brs esi 0
flat (XlTransmit id ide sec sdt vcid af dl) = flat_row 0x12 id af dl ide sec sdt vcid
flat (Confirm id) = flat_row 0x20 id 0 0 0 0 0 0
flat (ArbitrationLost id) = flat_row 0x30 id 0 0 0 0 0 0
flat (BusError id code flag sender) = flat_row 0x31 id 0 0 code flag sender 0
flat (Configuration kind value) = flat_row 0x40 0 value 0 kind 0 0 0
flat (Status state) = flat_row 0x41 0 0 0 state 0 0 0
flat Wakeup = flat_row 0x42 0 0 0 0 0 0 0

-- no operation
abbrev pub blank : FlatOperation
blank = flat_row 0 0 0 0 0 0 0 0

-- the operation that a record names, by its code; fields that the kind does not have are not looked at
abbrev pub by_kind : Kind → FlatOperation → Option Operation
by_kind format_error f = Some (FormatError f.length)
by_kind can f = Some (CanTransmit f.id f.first f.second f.length)
by_kind fd f = Some (FdTransmit f.id f.first f.second f.third f.length)
by_kind xl f = Some (XlTransmit f.id f.first f.second f.third f.fourth f.word f.length)
by_kind confirm f = Some (Confirm f.id)
by_kind arbitration_lost f = Some (ArbitrationLost f.id)
by_kind bus_error f = Some (BusError f.id f.first f.second f.third)
by_kind configuration f = Some (Configuration f.first f.word)
by_kind status f = Some (Status f.first)
by_kind wakeup f = Some Wakeup
by_kind unknown f = None

unfoldable pub named : FlatOperation → Option Operation
named f = by_kind (kind_of f.code) f
