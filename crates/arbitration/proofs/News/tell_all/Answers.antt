use Prim.Native.Nat.{suc, ◌+◌, ◌*◌, ◌<◌, ◌-◌}
use Rattle.arbitration.proofs.Bytes.{over-over, over_none, in_two}
use Rattle.arbitration.proofs.Lengths.{discarded-few}
use Rattle.arbitration.proofs.Rooms.{room_at, owed-fits}
use Rattle.arbitration.proofs.Settled.{entries_next, entries-end, queues-next, queues-end}
use Rattle.arbitration.proofs.Told.{notices_next, notices_end}
use Rattle.arbitration.specs.After.{state_after}
use Rattle.bus_state.specs.Memory.{is_off, node_state, no_node}
use Rattle.arbitration.specs.Owed.{discarded, news_to, notice_of, notices_but, owed_to}
use Rattle.buffers.proofs.Offsets.{length_over}
use Rattle.buffers.specs.Parts.{over}
use lib.Dec.{eqb}
use lib.ListN.{length, get_or, length-append}
use lib.Seq.{get_or-set_other}
use Rattle.std.proofs.Common.{rules}
use mathlib.Core.Path.{◌≡◌, refl, sym, ap, ◌∙◌}
use native.Mathlib.Nat.{add-sub_cancel_left}
use native.Mathlib.Numerals.{add-one}
use native.Mathlib.Omega.{arith}
use Rattle.arbitration.proofs.News.tell_all.Goals as goal

pub overflow_mul-slot : goal.overflow_mul-slot
overflow_mul-slot c =
    omega (arith, c.requires.tellable.1.count, c.requires.tellable.2.0)

pub overflow_add-slot : goal.overflow_add-slot
overflow_add-slot c =
    let p = c.requires.tellable.2 in
    omega (arith, c.requires.tellable.1.count, p.0, p.1, c.requires.tellable.1.few c.args.self.now.owner p.0)

pub loop-j-init : goal.loop-j-init
loop-j-init c =
    let z : c.args.s.count - 0 ≡ c.args.s.count = omega arith in
    record { entries = rw z; queues = rw z; same = λ i h. refl }

pub tell-to-requires : goal.tell-to-requires
tell-to-requires c =
    let a = c.args in
    let w = a.self.now in
    let l = c.loop-j in
    let lent : length l.queues ≡ 32_768 = search rules in
    let r = c.requires.room in
    let k =
    owed-fits w.error w.op w.bytes.now w.size c.requires.tellable.1 c.requires.tellable.2 w.whole w.sized r
    l.j (omega arith) in
    rw (l.invariant.same l.j (omega arith))
    (omega arith, omega (arith, k, lent))

pub loop-p-init : goal.loop-p-init
loop-p-init c =
    let a = c.args in
    let w = a.self.now in
    let l = c.loop-j in
    let lent : length l.queues ≡ 32_768 = search rules in
    let r = c.requires.room in
    let d = node_state a.s l.j in
    let k = owed-fits w.error w.op w.bytes.now w.size c.requires.tellable.1 c.requires.tellable.2 w.whole w.sized r l.j (omega arith) in
    let news = news_to w.error l.j w.owner (is_off d) w.op w.bytes.now in
    let few = c.requires.tellable.1.few l.j (omega arith) in
    let same = l.invariant.same l.j (omega arith) in
    let n = rw same at c.discarded.ensures in
    let t = rw same at c.tell-to.ensures in
    let o = length_over (4_096 * l.j + d.fill) news l.queues (omega (arith, k, lent)) in
    record {
      few = omega (arith, n, few, discarded-few d);
      laid = refl;
      room = rw (n, add-sub_cancel_left, t.queues_after, t.value) (omega (arith, k, lent, o));
    }

pub put_notice-to-requires : goal.put_notice-to-requires
put_notice-to-requires c =
    let a = c.args in
    let w = a.self.now in
    let l = c.loop-j in
    let m = c.loop-p in
    let slot = 4 * w.owner + a.position in
    let few = discarded-few (node_state a.s l.j) in
    let end = 4 * l.j + c.discarded.result in
    let x = notices_next a.ids.now slot m.p end (omega arith) in
    let n = rw (l.invariant.same l.j (omega arith)) at c.discarded.ensures in (
      c.requires.tellable.1.lawful l.j (omega arith) m.p (omega arith) (omega (arith, n, few)),
      omega (
        arith,
        m.invariant.room,
        ap length x,
        length-append (notice_of (eqb m.p slot) (get_or a.ids.now m.p 0))
            (notices_but a.ids.now slot (suc m.p) (end - suc m.p)),
      ),
    )

pub loop-p-preserved : goal.loop-p-preserved
loop-p-preserved c =
    let a = c.args in
    let w = a.self.now in
    let l = c.loop-j in
    let m = c.loop-p in
    let slot = 4 * w.owner + a.position in
    let end = 4 * l.j + c.discarded.result in
    let first = notice_of (eqb m.p slot) (get_or a.ids.now m.p 0) in
    let rest = notices_but a.ids.now slot (suc m.p) (end - suc m.p) in
    let x = notices_next a.ids.now slot m.p end (omega arith) in
    let k = length-append first rest in
    let e = c.put_notice-to.ensures in
    let h = length_over m.to first m.queues (omega (arith, m.invariant.room, ap length x, k)) in
    record {
      few = m.invariant.few;
      laid =
          rw (e.queues_after, e.value, add-one m.p)
          (over-over m.queues first rest m.to (omega (arith, m.invariant.room)) ∙ ap (over m.queues m.to) (sym x) ∙ m.invariant.laid);
      room = rw (e.queues_after, e.value, add-one m.p) (omega (arith, m.invariant.room, ap length x, k, h));
    }

pub entry_after-requires : goal.entry_after-requires
entry_after-requires c =
    let a = c.args in
    let w = a.self.now in
    let l = c.loop-j in
    rw (l.invariant.same l.j (omega arith)) (room_at w.error a.s.nodes w.owner w.size a.s.count c.requires.room l.j (omega arith))

pub loop-j-preserved : goal.loop-j-preserved
unfolding owed_to
loop-j-preserved c =
    let a = c.args in
    let w = a.self.now in
    let l = c.loop-j in
    let lent : length l.queues ≡ 32_768 = search rules in
    let u : l.j < a.s.count = c.loop-j-test.true in
    let r = c.requires.room in
    let d = node_state a.s l.j in
    let k = owed-fits w.error w.op w.bytes.now w.size c.requires.tellable.1 c.requires.tellable.2 w.whole w.sized r l.j u in
    let slot = 4 * w.owner + a.position in
    let news = news_to w.error l.j w.owner (is_off d) w.op w.bytes.now in
    let told = notices_but a.ids.now slot (4 * l.j) (discarded d) in
    let h = length-append news told in
    let m = c.loop-p in
    let same = l.invariant.same l.j (omega arith) in
    let t = rw same at c.tell-to.ensures in
    let end = 4 * l.j + c.discarded.result in
    let at = 4_096 * l.j + d.fill in
    let x = sym (over_none m.queues m.to) ∙ ap (over m.queues m.to) (sym (notices_end a.ids.now slot m.p end (omega arith))) ∙ m.invariant.laid in
    let y = rw (rw same at c.discarded.ensures, add-sub_cancel_left) at x in
    let z = in_two l.queues news told at (omega (arith, k, lent)) t.queues_after t.value y in
    record {
      entries =
          rw (add-one l.j, rw same at c.entry_after.ensures)
          (sym (entries_next w.error a.s.nodes w.owner w.size l.j a.s.count l.after (omega arith)) ∙ l.invariant.entries);
      queues =
          rw (add-one l.j, z)
          (sym (queues-next w.error a.s.nodes w.owner a.position w.op a.ids.now w.bytes.now l.j a.s.count l.queues (omega arith)) ∙ l.invariant.queues);
      same = λ i h. get_or-set_other l.after l.j i _ no_node (λ e. omega arith) ∙ l.invariant.same i (omega arith);
    }

pub overflow_add-result : goal.overflow_add-result
overflow_add-result c = omega (arith, c.requires.tellable.0)

pub returns : goal.returns
unfolding state_after
returns c =
    let a = c.args in
    let w = a.self.now in
    let l = c.loop-j in
    let p = sym (entries-end w.error a.s.nodes w.owner w.size l.j a.s.count l.after (omega arith)) ∙ l.invariant.entries in
    let q =
    sym (queues-end w.error a.s.nodes w.owner a.position w.op a.ids.now w.bytes.now l.j a.s.count l.queues (omega arith))
    ∙ l.invariant.queues in
    record { value = rw p; queues_after = q }
