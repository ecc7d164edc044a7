-- By the injection, then by the winner.
use Prim.Native.Nat.{◌*◌}
use Rattle.arbitration.proofs.Attached.{count-few}
use Rattle.arbitration.proofs.Ends.{wrong_ended, idle_ended, won-ended}
use Rattle.arbitration.proofs.Given.{owner_small}
use Rattle.arbitration.proofs.Wrong.{right_code}
use Rattle.arbitration.specs.Injections.{is_wrong}
use mathlib.Core.Bool.{true, false}
use Rattle.std.proofs.lemmas.Grind.{common_steps}
use Rattle.scan.specs.Winner.{owner_of}
use Rattle.outcome.proofs.Endings.{block-kept-ends}
use Rattle.std.specs.Prelude.{Ok, Err}
use Rattle.outcome.specs.declared.Refusal.TheVariants.{BadInjection}
use Rattle.outcome.specs.declared.Done.TheVariants.{Idle}
use mathlib.Core.Path.{◌≡◌, sym, ◌∙◌}
use native.Mathlib.Omega.{arith}
use Rattle.arbitration.proofs.round.Goals as goal

pub first_slot-at-requires : goal.first_slot-at-requires
first_slot-at-requires c = owner_small c.requires.drawn.1

pub is_wrong-requires : goal.is_wrong-requires
is_wrong-requires c = count-few c.args.s c.requires.drawn.0 c.requires.drawn.1.valid

pub returns-then-is_wrong : goal.returns-then-is_wrong
returns-then-is_wrong c =
    let a = c.args in
    let f = c.first_slot-at in
    let q : is_wrong a.s a.e ≡ true = grind (arith, common_steps) in
    rw c.refused.ensures
    (record {
      queues_after =
          λ l d. block-kept-ends (Err BadInjection) a.s l f.result a.payload.now a.queues.now (rw f.ensures d.block)
          ∙ wrong_ended a.s l a.payload.now a.queues.now a.e q;
      at_value = f.ensures;
      slots_per_node_bound = omega (arith, f.ensures, owner_small c.requires.drawn.1);
    })

pub arbitrate-requires : goal.arbitrate-requires
arbitrate-requires c =
    let a = c.args in
    let q : is_wrong a.s a.e ≡ false = grind (arith, common_steps) in
    record {
      drawn = (c.requires.drawn.0, rw c.in-Some.is at c.requires.drawn.1);
      e_value = right_code a.s a.e q;
    }

pub returns-in_default : goal.returns-in_default
returns-in_default c =
    let a = c.args in
    let f = c.first_slot-at in
    let q : is_wrong a.s a.e ≡ false = grind (arith, common_steps) in
    record {
      queues_after =
          λ l d. block-kept-ends (Ok Idle) a.s l f.result a.payload.now a.queues.now (rw f.ensures d.block)
          ∙ idle_ended a.s l a.payload.now a.queues.now a.e q (sym d.first ∙ c.in_default.is);
      at_value = f.ensures;
      slots_per_node_bound = omega (arith, f.ensures, owner_small c.requires.drawn.1);
    }

pub returns : goal.returns
returns c =
    let a = c.args in
    let g = c.in-Some.is in
    let q : is_wrong a.s a.e ≡ false = grind (arith, common_steps) in
    let e = c.arbitrate.ensures in
    let o : c.arbitrate.result.at ≡ 4 * owner_of a.best = e.at_value ∙ rw g in
    record {
      queues_after = λ l d. e.queues_after l (rw g at d) ∙ won-ended a.s l a.payload.now a.queues.now a.e q (sym d.first ∙ g);
      at_value = o;
      slots_per_node_bound = omega (arith, o, owner_small c.requires.drawn.1);
    }
