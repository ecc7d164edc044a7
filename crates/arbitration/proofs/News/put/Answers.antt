-- By the injection, then by whether the node sends, is Bus-Off, or neither.
use Rattle.arbitration.proofs.Bytes.{byte_own, over_none}
use Rattle.arbitration.proofs.Told.{confirm-lawful, error_lawful, legal_code, code_small}
use Rattle.arbitration.proofs.Told.{news_own, news_none, news_other, news_silent, news_error}
use Rattle.operation.proofs.Sizes.{encode-length}
use Rattle.operation.specs.declared.Operation.TheVariants.{Confirm, BusError}
use Rattle.arbitration.specs.Owed.{own}
use lib.Dec.{eqb}
use mathlib.Core.Bool.{cond}
use mathlib.Core.List.{[]}
use mathlib.Core.Path.{refl, sym}
use native.Mathlib.Omega.{arith}
use Rattle.arbitration.proofs.News.put.Goals as goal

pub returns-then-off : goal.returns-then-off
returns-then-off c =
    let n = c.args.self.now in
    rw (news_silent c.args.j n.owner c.args.off n.op n.bytes.now c.in-Some.is c.if-off.true) (sym (over_none _ _))

pub overflow_cast-op : goal.overflow_cast-op
overflow_cast-op c =
    let n = c.args.self.now in
    omega (arith, code_small _ (legal_code c.in-Some.is n.in_table))

pub put_operation-requires : goal.put_operation-requires
put_operation-requires c =
    let j = c.args.j in
    let n = c.args.self.now in
    let i = c.in-Some.field-0 in
    let w = news_error j n.owner c.args.off n.op n.bytes.now c.in-Some.is c.if-off.false in
    let l = encode-length (BusError n.id i.code (cond (eqb j i.detector) 1 2) (own (eqb j n.owner))) [] in
    rw (c.flag_at.ensures, byte_own)
    (record {
      op_value = (error_lawful n.id i.code (eqb j i.detector) (eqb j n.owner) n.low (legal_code c.in-Some.is n.in_table), refl, omega arith);
      op_in_bounds = omega (arith, rw (w, ← n.named, l) at c.requires);
    })

pub returns-in-Some : goal.returns-in-Some
returns-in-Some c =
    let n = c.args.self.now in
    let w = news_error c.args.j n.owner c.args.off n.op n.bytes.now c.in-Some.is c.if-off.false in
    rw (w, ← n.named, ← c.flag_at.ensures, ← byte_own) c.put_operation.ensures

pub put_operation-requires-then-mine : goal.put_operation-requires-then-mine
put_operation-requires-then-mine c =
    let n = c.args.self.now in
    let w = news_own c.args.j n.owner c.args.off n.op n.bytes.now c.in_default.is c.if-mine.true in
    let l = encode-length (Confirm n.id) [] in
    record { op_value = (confirm-lawful _ n.low, refl, omega arith); op_in_bounds = omega (arith, rw (w, ← n.named, l) at c.requires) }

pub returns-then-mine : goal.returns-then-mine
returns-then-mine c =
    let n = c.args.self.now in
    let w = news_own c.args.j n.owner c.args.off n.op n.bytes.now c.in_default.is c.if-mine.true in
    rw (w, ← n.named) c.put_operation-then-mine.ensures

pub returns-then-off-2 : goal.returns-then-off-2
returns-then-off-2 c =
    let n = c.args.self.now in
    rw (news_none c.args.j n.owner c.args.off n.op n.bytes.now c.in_default.is c.if-mine.false c.if-off-2.true) (sym (over_none _ _))

pub put_operation-requires-2 : goal.put_operation-requires-2
put_operation-requires-2 c =
    let n = c.args.self.now in
    let w = news_other c.args.j n.owner c.args.off n.op n.bytes.now c.in_default.is c.if-mine.false c.if-off-2.false in
    let l = encode-length n.op n.bytes.now in
    record { op_value = (n.lawful, n.whole, n.short); op_in_bounds = omega (arith, rw (w, l, n.whole) at c.requires) }

pub returns : goal.returns
returns c =
    let n = c.args.self.now in
    let w = news_other c.args.j n.owner c.args.off n.op n.bytes.now c.in_default.is c.if-mine.false c.if-off-2.false in
    rw w c.put_operation-2.ensures
